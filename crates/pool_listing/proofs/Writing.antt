-- The walk that writes the starts and the last bytes, one place of each slice in a turn. Assumes nothing.
use Prim.Native.Nat.{ℕ, ◌+◌, ◌<◌, ◌≤◌}
use mathlib.Core.List.{List, ◌++◌, map}
use mathlib.Core.Path.{◌≡◌, refl}
use lib.ListN.{length, get_or, set, take, drop, length-map}
use lib.Seq.{paste-suc, take-length}
use native.Mathlib.Nat.{zero-add}
use native.Mathlib.Numerals.{add-one}
use native.Mathlib.Omega.{arith}
use Rattle.linked_lists.specs.Links.{none}
use Rattle.rules.specs.Rules.{Range, start_of}
use Rattle.pool_listing.specs.Listing.{last_of, written, Roomy, Wrote}
use Rattle.pool_listing.proofs.Walk.{Reached, reached-start, start-at, last-at, reached-on, reached-end}

-- k places of xs are written
abbrev pub partly : {X : Type 0} → List X → ℕ → List X → List X
partly xs k old = take k xs ++ drop k old

module _ {X : Type 0} (xs old now : List X) (k : ℕ) (e : now ≡ partly xs k old) where
  pub partly-on : (z v : X) → v ≡ get_or xs k z → k < length xs → k < length old → set now k v ≡ partly xs (k + 1) old
  partly-on z v d h g = rw (e, d, add-one k) (simp zero-add at (paste-suc old 0 xs k z (omega arith) h))

  pub partly-all : k ≡ length xs → now ≡ written xs old
  partly-all d = rw (e, d, take-length xs)

-- the walk has passed k ranges, come to the record a and written what it passed
pub record Writes (c : List Range) (starts₀ lasts₀ starts lasts : List ℕ) (k a : ℕ) : Type 0 where
  pub reached : Reached c k a
  pub starts-now : starts ≡ partly (map start_of c) k starts₀
  pub lasts_now : lasts ≡ partly (map last_of c) k lasts₀

module _ (n : ℕ) (small : n ≤ none) (c : List Range) (start end next : List ℕ) (first : ℕ) (starts₀ lasts₀ : List ℕ) (o : Roomy n c start end next first starts₀ lasts₀) where
  pub writes_start : Writes c starts₀ lasts₀ starts₀ lasts₀ 0 first
  writes_start = record { reached = reached-start c first o.ordered.leads; starts-now = refl; lasts_now = refl }

  module _ (starts lasts : List ℕ) (k a : ℕ) (w : Writes c starts₀ lasts₀ starts lasts k a) where
    pub writes-on : k < length c → Writes c starts₀ lasts₀ (set starts k (get_or start a 0)) (set lasts k (get_or end a 0)) (k + 1) (get_or next a 0)
    writes-on more =
        record {
          reached = reached-on n small c start end next o.ordered.runs k a w.reached more;
          starts-now = partly-on (map start_of c) starts₀ starts k w.starts-now 0 _ (start-at n small c start end next o.ordered.runs k a w.reached more) (rw length-map more) (omega arith);
          lasts_now = partly-on (map last_of c) lasts₀ lasts k w.lasts_now 0 _ (last-at n small c start end next o.ordered.runs k a w.reached more) (rw length-map more) (omega arith);
        }

    pub writes_end : a ≡ none → Wrote c starts₀ lasts₀ starts lasts
    writes_end e =
        let all : k ≡ length c = reached-end n small c start end next o.ordered.runs k a w.reached e in
        record {
          starts-now = partly-all (map start_of c) starts₀ starts k w.starts-now (rw length-map all);
          lasts_now = partly-all (map last_of c) lasts₀ lasts k w.lasts_now (rw length-map all);
        }
