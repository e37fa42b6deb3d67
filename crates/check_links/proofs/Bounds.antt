-- The bounds of each list, and the walk along one that asks for them alone.
use Prim.Native.Nat.{ℕ, zero, suc, ◌+◌, ◌-◌, ◌*◌, ◌%◌, ◌^◌, ◌<◌, ◌≤◌}
use mathlib.Core.Bool.{Bool, true, false, cond, ◌&&◌}
use mathlib.Core.Logic.{◌≢◌, inl, inr}
use mathlib.Core.List.{List}
use mathlib.Core.Path.{◌≡◌, refl, sym, ap, ◌∙◌}
use native.Mathlib.Omega.{arith}
use native.Mathlib.Numerals.{add-one}
use native.Mathlib.Nat.{pow-le-pow_right, pow-suc, mod-eq_of_lt}
use lib.Pow.{pow_pos}
use lib.Dec.{leb, ltb, eqb, leb→le, nleb→lt, ltb→lt, nltb→le, lit≤}
use lib.ListN.{get_or}
use borrow.Author.Tests.{lt-ltb, le-ltb, ne_eqb}
use Rattle.linked_lists.specs.Links.{none}
use Rattle.rules.specs.Rules.{size_lists, top, list_number}
use Rattle.rules_laws.proofs.Lists.{T-or-not}
use Rattle.rules_laws.proofs.Facts.{list-number-within}
use Rattle.rules_laws.proofs.Shelf.{least-le}
use Rattle.pool_state.specs.Shown.{key_at}
use Rattle.check_records.specs.Records.{Proper}
use Rattle.std.specs.Prelude.{Option, Some, None}
use Rattle.check_links.specs.Walk.{walk}
use Rattle.check_links.specs.Walks.{follows, size_at, list_step, list_walk}
use Rattle.check_links.specs.Bounds.{most_of, Bounds}
use Rattle.check_links.proofs.Walk.{walk_ends, walk-stuck, walk-breaks, walk-goes}
use Rattle.check_links.proofs.Steps.{follows-true, true-list, list-unfollowed, list-falls, list-keyed}

-- ---- the bounds of list k

-- one more than the list before it has at most
abbrev pub least_of : ℕ → ℕ
least_of zero = 1
least_of (suc k) = suc (most_of k)

pub most-shifts : (k : ℕ) → k < size_lists - 1 → most_of k ≡ 4096 * 2 ^ k
most-shifts k h = rw (lt-ltb k (size_lists - 1) h)

pub most-last : (k : ℕ) → size_lists - 1 ≤ k → most_of k ≡ top
most-last k h = rw (le-ltb k (size_lists - 1) h)

-- the code's shift
pub shifted : (k : ℕ) → k < size_lists - 1 → (4096 * 2 ^ k) % 18446744073709551616 ≡ most_of k
shifted k h =
    let p : 2 ^ k ≤ 2 ^ 10 = pow-le-pow_right {n = 2} (lit≤ tt) {i = k} {j = 10} (omega arith) in
    mod-eq_of_lt (omega arith) ∙ sym (most-shifts k h)

last-number : (z : ℕ) → list_number z ≤ size_lists - 1
unfolding list_number
last-number z = least-le (size_lists - 1) 0 z

-- sizes up to the most of list k have numbers up to k, and longer ones do not
to-most : (k z : ℕ) → z ≤ most_of k → k < size_lists → list_number z ≤ k
to-most k z h b = elim (T-or-not (ltb k (size_lists - 1))) [
  | inl t ↦ let l = ltb→lt k (size_lists - 1) t in (list-number-within z k l).1 (omega (arith, most-shifts k l))
  | inr t ↦ omega (arith, last-number z, nltb→le k (size_lists - 1) t)
]

past-shifts : (k z : ℕ) → k < size_lists - 1 → most_of k < z → k < list_number z
past-shifts k z l h = elim (T-or-not (leb (list_number z) k)) [
  | inl t ↦ absurd (let g = (list-number-within z k l).0 (leb→le (list_number z) k t) in let v : ⊥ = omega (arith, most-shifts k l) in v)
  | inr t ↦ nleb→lt (list_number z) k t
]

past-most : (k z : ℕ) → most_of k < z → z ≤ top → k < list_number z
past-most k z h g = elim (T-or-not (ltb k (size_lists - 1))) [
  | inl t ↦ past-shifts k z (ltb→lt k (size_lists - 1) t) h
  | inr t ↦ absurd (let v : ⊥ = omega (arith, most-last k (nltb→le k (size_lists - 1) t)) in v)
]

from-least : (k z : ℕ) → k < size_lists → least_of k ≤ z → k ≤ list_number z
from-least zero z b h = omega arith
from-least (suc k) z b h = past-shifts k z (omega arith) (omega arith)

before-least : (k z : ℕ) → k < size_lists → 0 < z → z < least_of k → list_number z < k
before-least zero z b p h = absurd (let v : ⊥ = omega arith in v)
before-least (suc k) z b p h = let g = to-most k z (omega arith) (omega arith) in omega arith

least-to-most : (k : ℕ) → k < size_lists → least_of k ≤ most_of k
least-to-most zero b = lit≤ tt
least-to-most (suc k) b =
    let m = most-shifts k (omega arith) in
    elim (T-or-not (ltb (suc k) (size_lists - 1))) [
      | inl t ↦ let l = most-shifts (suc k) (ltb→lt (suc k) (size_lists - 1) t) in
          let p : 2 ^ suc k ≡ 2 ^ k * 2 = pow-suc 2 k in
          omega (arith, pow_pos k)
      | inr t ↦ let l = most-last (suc k) (nltb→le (suc k) (size_lists - 1) t) in
          let p : 2 ^ k ≤ 2 ^ 10 = pow-le-pow_right {n = 2} (lit≤ tt) {i = k} {j = 10} (omega arith) in
          omega arith
    ]

bounds : (k : ℕ) → k < size_lists → Bounds k (least_of k) (most_of k)
bounds k b = record {
  some = least-to-most k b;
  inside = λ z l m. let f = from-least k z b l in let t = to-most k z m b in omega arith;
  below = λ z p l e. let f = before-least k z b p l in omega arith;
  above = λ z m t e. let f = past-most k z m t in omega arith;
}

-- the same of what the code has
pub bounds_of : (k least most : ℕ) → k < size_lists → least ≡ least_of k → most ≡ most_of k → Bounds k least most
bounds_of k least most b e f = rw (e, f) (bounds k b)

pub next-least : (k most : ℕ) → most ≡ most_of k → most + 1 ≡ least_of (k + 1)
next-least k most e = ap (λ (m : ℕ). m + 1) e ∙ add-one (most_of k) ∙ ap least_of (sym (add-one k))

pub most-fits : (k most : ℕ) → most ≡ most_of k → most ≤ top
most-fits k most e = elim (T-or-not (ltb k (size_lists - 1))) [
  | inl t ↦ let l = ltb→lt k (size_lists - 1) t in
      let p : 2 ^ k ≤ 2 ^ 10 = pow-le-pow_right {n = 2} (lit≤ tt) {i = k} {j = 10} (omega arith) in
      omega (arith, e, most-shifts k l)
  | inr t ↦ omega (arith, e, most-last k (nltb→le k (size_lists - 1) t))
]

-- ---- the walk along a list

module _ (n : ℕ) (start end : List ℕ) (enabled : List Bool) (lprev lnext : List ℕ) (k least most count head : ℕ) where
  -- what is still to be walked is the whole walk, unless a size was above the most: then it is broken
  pub record ListAt (q i low left : ℕ) : Type 0 where
    pub from : least ≤ low
    pub within : low ≤ most → list_walk n start end enabled lprev lnext k count none 0 head ≡ list_walk n start end enabled lprev lnext k left q low i
    pub beyond : most < low → list_walk n start end enabled lprev lnext k count none 0 head ≡ None

module _ (n : ℕ) (start end : List ℕ) (enabled : List Bool) (lprev lnext : List ℕ) (good : Proper n start end enabled) (k least most : ℕ) (b : Bounds k least most) where
  abbrev step : ℕ → ℕ → ℕ → Bool
  step = list_step n start end enabled lprev k

  abbrev along : ℕ → ℕ → ℕ → ℕ → Option ℕ
  along = list_walk n start end enabled lprev lnext k

  -- the size of a record that follows is that of a range
  sized : (q i : ℕ) → follows n enabled lprev q i ≡ true → (0 < size_at start end i) × (size_at start end i ≤ top)
  sized q i f =
      let w = follows-true n enabled lprev q i f in
      let g = good i w.0 w.1 in
      let g0 = g.0 in
      let g1 = g.1 in
      (omega arith, omega arith)

  unkeyed : (q low i : ℕ) → key_at start end i ≢ k → step q low i ≡ false
  unfolding list_step
  unkeyed q low i d = rw (ne_eqb (key_at start end i) k d) (never (follows n enabled lprev q i) (leb low (size_at start end i)))
    where
      never : (a c : Bool) → (a && (c && false)) ≡ false
      never true true = refl
      never true false = refl
      never false c = refl

  reached : (q i low : ℕ) → follows n enabled lprev q i ≡ true → low ≤ size_at start end i → step q low i ≡ eqb (key_at start end i) k
  reached q i low f h = list-keyed n start end enabled lprev k q low i _ _ f refl h refl

  -- a first step asks for no more than a size of the list
  first_step : (q i : ℕ) → step q 0 i ≡ step q least i
  first_step q i = go (follows n enabled lprev q i) refl
    where
      go : (t : Bool) → follows n enabled lprev q i ≡ t → step q 0 i ≡ step q least i
      go false f = list-unfollowed n start end enabled lprev k q 0 i f ∙ sym (list-unfollowed n start end enabled lprev k q least i f)
      go true f = elim (T-or-not (leb least (size_at start end i))) [
        | inl t ↦ reached q i 0 f (omega arith) ∙ sym (reached q i least f (leb→le least (size_at start end i) t))
        | inr t ↦ let l = nleb→lt least (size_at start end i) t in
            unkeyed q 0 i (b.below _ (sized q i f).0 l) ∙ sym (list-falls n start end enabled lprev k q least i _ f refl l)
      ]

  first : (f i : ℕ) → along f none 0 i ≡ along f none least i
  unfolding walk
  first zero i = refl
  first (suc f) i = ap (λ (t : Bool). cond (eqb i none) (Some (suc f)) (cond t (along f i (size_at start end i) (get_or lnext i 0)) None)) (first_step none i)

  module _ (count head : ℕ) where
    abbrev At : ℕ → ℕ → ℕ → ℕ → Type 0
    At = ListAt n start end enabled lprev lnext k least most count head

    pub list-starts : At none head least count
    list-starts = record { from = omega arith; within = λ h. first count head; beyond = λ h. absurd (let s = b.some in let v : ⊥ = omega arith in v) }

    module _ (q i low left : ℕ) (a : At q i low left) where
      broken : (low ≤ most → along left q low i ≡ None) → None ≡ along count none 0 head
      broken h = elim (T-or-not (leb low most)) [
        | inl t ↦ let l = leb→le low most t in sym (a.within l ∙ h l)
        | inr t ↦ sym (a.beyond (nleb→lt low most t))
      ]

      pub list-stuck : left ≡ 0 → i ≢ none → None ≡ along count none 0 head
      list-stuck z e = broken (λ h. walk-stuck _ _ step left q low i z e)

      pub list-breaks : i ≢ none → follows n enabled lprev q i ≡ false → None ≡ along count none 0 head
      list-breaks e f = broken (λ h. walk-breaks _ _ step left q low i e (list-unfollowed n start end enabled lprev k q low i f))

      pub list-sinks : (z : ℕ) → i ≢ none → follows n enabled lprev q i ≡ true → z ≡ size_at start end i → z < low → None ≡ along count none 0 head
      list-sinks z e f ez h = broken (λ g. walk-breaks _ _ step left q low i e (list-falls n start end enabled lprev k q low i z f ez h))

      pub list-goes : (z : ℕ) → left ≢ 0 → i ≢ none → follows n enabled lprev q i ≡ true → z ≡ size_at start end i → low ≤ z → At i (get_or lnext i 0) z (left - 1)
      list-goes z d e f ez h = record {
        from = omega (arith, a.from);
        within = λ g. a.within (omega arith) ∙ walk-goes _ _ step left q low i z d e (stepped g) ez;
        beyond = λ g. sym (broken (λ l. walk-breaks _ _ step left q low i e (unkeyed q low i (b.above _ (omega arith) (sized q i f).1))));
      }
        where
          stepped : z ≤ most → step q low i ≡ true
          stepped g = true-list n start end enabled lprev k q low i f (omega arith) (b.inside _ (omega (arith, a.from)) (omega arith))

      pub list-ends : i ≡ none → low ≤ most → Some left ≡ along count none 0 head
      list-ends e h = sym (a.within h ∙ walk_ends _ _ step left q low i e)

      pub list-exceeds : most < low → None ≡ along count none 0 head
      list-exceeds h = sym (a.beyond h)
