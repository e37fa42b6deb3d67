-- The sum along the links of a list is the sum of its sizes.
use Prim.Native.Nat.{ℕ, ◌+◌, ◌-◌, ◌<◌}
use mathlib.Core.Bool.{true}
use mathlib.Core.List.{List, [], ◌∷◌, map}
use mathlib.Core.Path.{◌≡◌, ap, ◌∙◌}
use native.Mathlib.Omega.{arith}
use lib.ListN.{length, get_or}
use Rattle.linked_lists.specs.Links.{none, has}
use Rattle.rules.specs.Rules.{sum}
use Rattle.pool_state.specs.Shown.{at}
use Rattle.check_links.specs.Walk.{sum_along}
use Rattle.check_links.specs.Walks.{size_at}
use Rattle.check_meaning.specs.Paragraph.{Leads}
use Rattle.check_links.proofs.Walk.{sum-ends, sum_goes}
use Rattle.check_meaning.proofs.Orders.{has_first, rest}

module _ (next start end : List ℕ) where
  abbrev along : ℕ → ℕ → ℕ
  along = sum_along (λ i. get_or next i 0) (size_at start end)

  pub sum-along : (xs : List ℕ) (g i : ℕ) → Leads next i xs → ((x : ℕ) → has x xs ≡ true → x < none) → along (length xs + g) i ≡ sum (map (at start end) xs)
  unfolding sum
  sum-along [] g i l b = sum-ends (λ j. get_or next j 0) (size_at start end) (0 + g) i l
  sum-along (x ∷ xs) g i l b =
      let e : (length (x ∷ xs) + g) - 1 ≡ length xs + g = omega arith in
      let bx = b x (has_first x xs) in
      rw l.0
      (sum_goes (λ j. get_or next j 0) (size_at start end) (length (x ∷ xs) + g) x (omega arith) (omega arith)
      ∙ ap (λ (f : ℕ). size_at start end x + along f (get_or next x 0)) e
      ∙ ap (λ (m : ℕ). size_at start end x + m) (sum-along xs g (get_or next x 0) l.1 (rest x xs b)))
