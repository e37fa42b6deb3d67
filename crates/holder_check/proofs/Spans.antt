-- The ranges of a listing, walked along its two slices; and that the check reads of free ranges only what meets them. Assumes nothing.
use mathlib.Core.Path.{◌≡◌, refl, ap, ◌∙◌}
use mathlib.Core.Bool.{Bool, true, false, ◌||◌}
use mathlib.Core.List.{List, [], ◌∷◌, ◌++◌, map}
use Prim.Native.Nat.{ℕ, suc, ◌+◌, ◌-◌, ◌≤◌, ◌<◌}
use native.Mathlib.Omega.{arith}
use native.Mathlib.Numerals.{add-one}
use lib.ListN.{length, get_or, drop}
use lib.Seq.{drop-cons}
use Rattle.rules.specs.Rules.{Range, range, start_of, any, meets}
use Rattle.pool_listing.specs.Listing.{last_of}
use Rattle.holder_rules.specs.Sound.{is_apart, register_sound}
use Rattle.holder_rules.specs.declared.Entry.{Entry}
use Rattle.holder_check.specs.Spans.{spans}

-- what is left from number i on
abbrev pub from : ℕ → ℕ → List ℕ → List ℕ → List Range
from i k ss ls = spans (k - i) (drop i ss) (drop i ls)

module _ (i k : ℕ) (ss ls : List ℕ) (h : i < k) (hs : k ≤ length ss) (hl : k ≤ length ls) where
  from_is : from i k ss ls ≡ range 0 (get_or ss i 0) (get_or ls i 0) ∷ from (i + 1) k ss ls
  unfolding spans
  from_is = let e : k - i ≡ suc (k - (i + 1)) = omega arith in
      rw (e, drop-cons ss i 0 (omega arith), drop-cons ls i 0 (omega arith), add-one i)

  pub listed_here : (p : Range → Bool) → p (range 0 (get_or ss i 0) (get_or ls i 0)) ≡ true → any p (from i k ss ls) ≡ true
  unfolding any
  listed_here p e = ap (any p) from_is ∙ ap (λ (t : Bool). t || any p (from (i + 1) k ss ls)) e

  pub listed-later : (p : Range → Bool) → p (range 0 (get_or ss i 0) (get_or ls i 0)) ≡ false → any p (from i k ss ls) ≡ any p (from (i + 1) k ss ls)
  unfolding any
  listed-later p e = ap (any p) from_is ∙ ap (λ (t : Bool). t || any p (from (i + 1) k ss ls)) e

pub listed-none : (p : Range → Bool) (i k : ℕ) (ss ls : List ℕ) → k ≤ i → any p (from i k ss ls) ≡ false
unfolding any spans
listed-none p i k ss ls h = let e : k - i ≡ 0 = omega arith in rw e

-- a chain's starts and last bytes, with anything behind them, meet what the chain meets
pub listed-meets : (a t : ℕ) (c : List Range) (x y : List ℕ) → any (meets a t) (spans (length c) (map start_of c ++ x) (map last_of c ++ y)) ≡ any (meets a t) c
unfolding any spans
listed-meets a t [] x y = refl
listed-meets a t (q ∷ c) x y = ap (λ (b : Bool). meets a t q || b) (listed-meets a t c x y)

-- free ranges that meet the same are judged the same
module _ (f g : List Range) (same : (a t : ℕ) → any (meets a t) f ≡ any (meets a t) g) where
  apart-same : (e : Entry) (l : List Entry) → is_apart f e l ≡ is_apart g e l
  unfolding is_apart
  apart-same e l = rw (same e.start.0 (suc e.last.0))

  pub register-same : (r : List Entry) → register_sound f r ≡ register_sound g r
  unfolding register_sound
  register-same [] = refl
  register-same (e ∷ r) = rw (apart-same e r, register-same r)
