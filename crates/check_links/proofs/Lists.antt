-- The size lists one after another.
use Prim.Native.Nat.{ℕ, zero, suc, ◌+◌}
use mathlib.Core.Bool.{Bool, true, false}
use mathlib.Core.Logic.{◌≢◌}
use mathlib.Core.List.{List}
use mathlib.Core.Path.{◌≡◌, refl, sym}
use native.Mathlib.Numerals.{add-one}
use lib.Dec.{eqb}
use lib.ListN.{get_or}
use Rattle.linked_lists.specs.Links.{none}
use Rattle.linked_lists.proofs.Laws.{true≢false}
use Rattle.check_links.specs.Walk.{onward}
use Rattle.check_links.specs.Walks.{list_walk, lists_ok_lem}
use Rattle.std.specs.Prelude.{Option, Some, None}

-- what a test of what is left tells
pub onward-told : (p : ℕ → Bool) (t : Option ℕ) → onward p t ≡ true → (f : ℕ) × (t ≡ Some f) × (p f ≡ true)
onward-told p (Some f) h = (f, refl, h)
onward-told p None h = true≢false (sym h)

module _ (n : ℕ) (heads start end : List ℕ) (enabled : List Bool) (lprev lnext : List ℕ) where
  abbrev from : ℕ → ℕ → ℕ → Bool
  from m k c = lists_ok_lem n heads start end enabled lprev lnext m k c

  pub lists-done : (m k c : ℕ) → m ≡ 0 → from m k c ≡ eqb c 0
  unfolding lists_ok_lem
  lists-done m k c e = rw e

  pub lists-broken : (m k c : ℕ) → m ≢ 0 → list_walk n start end enabled lprev lnext k c none 0 (get_or heads k 0) ≡ None → from m k c ≡ false
  unfolding lists_ok_lem
  lists-broken zero k c d h = absurd (d refl)
  lists-broken (suc m) k c d h = rw h

  pub lists-go : (m m' k c f : ℕ) → m ≡ suc m' → list_walk n start end enabled lprev lnext k c none 0 (get_or heads k 0) ≡ Some f → from m k c ≡ from m' (k + 1) f
  unfolding lists_ok_lem
  lists-go m m' k c f e h = rw (e, h, add-one k)
