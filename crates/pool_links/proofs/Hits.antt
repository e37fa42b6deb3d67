-- What the answer of a search says. Assumes nothing.
use Prim.Native.Nat.{ℕ}
use mathlib.Core.Bool.{Bool}
use mathlib.Core.List.{List}
use mathlib.Core.Option.{Option, none, some}
use mathlib.Core.Path.{◌≡◌, refl, ap}
use lib.Dec.{T}
use native.Mathlib.Omega.{arith}
use Rattle.std.specs.Prelude.{Some, None}
use Rattle.rules.specs.Rules.{Range, find}
use Rattle.rules.specs.Sound.{In}
use Rattle.rules_laws.proofs.Lists.{Found, found}
use Rattle.pool_state.specs.declared.RecordIndex.{RecordIndex}
use Rattle.pool_links.specs.Hits.{hit_of}

-- the range that was found
pub hit-at : (p : Range → Bool) (l : List Range) (j : RecordIndex) → Some j ≡ hit_of (find p l) → (r : Range) × In r l × T (p r) × (j.0 ≡ r.number) × (find p l ≡ some r)
hit-at p l j q = go (find p l) refl q (found p l)
  where
    go : (x : Option Range) → find p l ≡ x → Some j ≡ hit_of x → Found p l x → (r : Range) × In r l × T (p r) × (j.0 ≡ r.number) × (find p l ≡ some r)
    go none e q f = let y : ◌≡◌ {A = ℕ} 0 1 = cc in absurd (let k : ⊥ = omega arith in k)
    go (some r) e q f = let i : j ≡ record { 0 = r.number } = cc in (r, f.0, f.1, ap (λ (x : RecordIndex). x.0) i, e)

pub hit-nothing : (p : Range → Bool) (l : List Range) → None ≡ hit_of (find p l) → find p l ≡ none
hit-nothing p l q = go (find p l) q
  where
    go : (x : Option Range) → None ≡ hit_of x → x ≡ none
    go none q = refl
    go (some r) q = let y : ◌≡◌ {A = ℕ} 0 1 = cc in absurd (let k : ⊥ = omega arith in k)
