-- What follows for a layout whose fields can hold its own numbers, and which are such. Assumes nothing.
use mathlib.Core.Bool.{Bool, true, false, cond}
use mathlib.Core.Path.{refl}
use lib.Dec.{eqb}
use Prim.Native.Nat.{ℕ, zero, suc, ◌-◌, ◌^◌, ◌≤◌}
use native.Mathlib.Nat.{one-le-pow}
use native.Mathlib.Omega.{arith}
use Rattle.linked_lists.specs.Links.{none}
use Rattle.image_parts.specs.Layout.{Layout, version1, version2, current, layout_of, Lawful, Housed, Figured}

pub lawful-version1 : Lawful version1
lawful-version1 = record { versions = omega arith; rests = omega arith; records = omega arith; links = omega arith; lows = omega arith; whole-low = λ d. absurd (d refl) }

pub housed-version1 : Housed version1
housed-version1 = record { lawful = lawful-version1; room = omega arith }

pub lawful-version2 : Lawful version2
lawful-version2 = record { versions = omega arith; rests = omega arith; records = omega arith; links = omega arith; lows = omega arith; whole-low = λ d. absurd (d refl) }

pub housed-version2 : Housed version2
housed-version2 = record { lawful = lawful-version2; room = omega arith }

pub lawful-current : Lawful current
lawful-current = record { versions = omega arith; rests = omega arith; records = omega arith; links = omega arith; lows = omega arith; whole-low = λ d. refl }

pub housed-current : Housed current
housed-current = record { lawful = lawful-current; room = omega arith }

pub figured-current : Figured current
figured-current = record { lawful = lawful-current; figured = λ e. omega arith }

-- whatever the first byte is
pub housed-of : (v : ℕ) → Housed (layout_of v)
housed-of v = go (eqb v version1.version) (eqb v version2.version)
  where
    go : (t u : Bool) → Housed (cond t version1 (cond u version2 current))
    go true u = housed-version1
    go false true = housed-version2
    go false false = housed-current

-- so no record has the number that stands for none
pub small-pool : (f : Layout) → Lawful f → f.records ≤ none
small-pool f lawful = let h = lawful.records in let k = lawful.links in omega arith

-- a link has at most two bytes
pub narrow : (f : Layout) → Lawful f → f.link ≤ 2
narrow f lawful = go f.link lawful.links
  where
    go : (k : ℕ) → 256 ^ k - 1 ≤ none → k ≤ 2
    go zero h = omega arith
    go (suc zero) h = omega arith
    go (suc (suc zero)) h = omega arith
    go (suc (suc (suc k))) h = let p = one-le-pow k 256 (omega arith) in absurd (omega arith)
