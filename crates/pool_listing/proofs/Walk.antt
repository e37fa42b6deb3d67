-- A walk that counts the ranges of the chain that it passed. Assumes nothing.
use Prim.Native.Nat.{ℕ, suc, ◌+◌, ◌<◌, ◌≤◌}
use mathlib.Core.Logic.{◌≢◌, ⊎_elim}
use mathlib.Core.List.{List, [], ◌∷◌, map}
use mathlib.Core.Path.{◌≡◌, refl, sym, ap, ◌∙◌}
use lib.ListN.{length, get_or, take, drop, length-drop, get_or-map}
use lib.Seq.{drop-cons, split_at}
use native.Mathlib.Numerals.{add-one}
use native.Mathlib.Omega.{arith}
use Rattle.linked_lists.specs.Links.{none, head, last_from, Listed, steps}
use Rattle.linked_lists.proofs.Laws.{below?, length-listed}
use Rattle.rules.specs.Rules.{Range, range, start_of}
use Rattle.pool_state.specs.Shown.{numbers, at, Runs}
use Rattle.pool_state.proofs.Walks.{Stands, stands_at, stands_good, rest-next, walk-less}
use Rattle.pool_listing.specs.Listing.{last_of}

-- the walk has passed k ranges, and come to the record a
pub record Reached (c : List Range) (k a : ℕ) : Type 0 where
  pub within : k ≤ length c
  pub here : a ≡ head (numbers (drop k c))

pub reached-start : (c : List Range) (a : ℕ) → a ≡ head (numbers c) → Reached c 0 a
reached-start c a e = record { within = omega arith; here = e }

not-empty : (l : List Range) → head (numbers l) ≢ none → 0 < length l
not-empty [] h = absurd (h refl)
not-empty (r ∷ l) h = omega arith

-- short of the end there is one more range
pub one_more : (c : List Range) (k a : ℕ) → Reached c k a → a ≢ none → k < length c
one_more c k a w h = omega (arith, length-drop k c, not-empty (drop k c) (λ e. h (w.here ∙ e)))

length-numbers : (l : List Range) → length (numbers l) ≡ length l
length-numbers [] = refl
length-numbers (r ∷ l) = ap suc (length-numbers l)

-- each range has a record of its own
pub few : (n : ℕ) (c : List Range) → Listed n (numbers c) → length c ≤ n
few n c h = rw length-numbers at (length-listed n (numbers c) h)

abbrev blank : Range
blank = range 0 0 0

module _ (n : ℕ) (small : n ≤ none) (c : List Range) (start end next : List ℕ) (t : Runs n c start end next) (k a : ℕ) (w : Reached c k a) where
  module _ (more : k < length c) where
    stand : Stands n small (λ r. 0) c start end next t 1 (last_from none (numbers (take k c))) a
    stand =
        record {
          low = take k c;
          here = get_or c k blank;
          high = drop (suc k) c;
          parts = split_at c k blank more;
          smaller = λ q i. omega arith;
          at_last = refl;
          at_here = w.here ∙ ap (λ (l : List Range). head (numbers l)) (drop-cons c k blank more);
        }

    pub reached-known : a < n
    reached-known = (stands_good n small (λ r. 0) c start end next t 1 _ a stand).known

    here-at : at start end a ≡ get_or c k blank
    unfolding stand
    here-at = stands_at n small (λ r. 0) c start end next t 1 _ a stand

    pub start-at : get_or start a 0 ≡ get_or (map start_of c) k 0
    start-at = ap start_of here-at ∙ sym (get_or-map start_of c k blank)

    pub last-at : get_or end a 0 ≡ get_or (map last_of c) k 0
    last-at = ap last_of here-at ∙ sym (get_or-map last_of c k blank)

    pub reached-on : Reached c (k + 1) (get_or next a 0)
    unfolding stand
    reached-on = record { within = omega arith; here = rw (add-one k) (rest-next n small (λ r. 0) c start end next t 1 _ a stand) }

    pub reached-less : steps (λ i. get_or next i 0) n (get_or next a 0) < steps (λ i. get_or next i 0) n a
    reached-less = walk-less n small (λ r. 0) c start end next t 1 _ a stand

  -- at the end all are passed
  pub reached-end : a ≡ none → k ≡ length c
  reached-end e = ⊎_elim
      (λ (more : k < length c). absurd (let h = reached-known more in let z : ⊥ = omega arith in z))
      (λ (h : length c ≤ k). let v = w.within in omega arith)
      (below? k (length c))
