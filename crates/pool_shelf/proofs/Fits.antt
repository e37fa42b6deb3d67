-- The fit test, and the first range that can be served. Assumes nothing.
use Prim.Native.Nat.{ℕ, zero, suc, ◌+◌, ◌-◌, ◌<◌, ◌≤◌}
use mathlib.Core.Bool.{Bool, true, false, cond}
use mathlib.Core.Logic.{◌≢◌, inl, inr}
use mathlib.Core.List.{List, [], ◌∷◌, ◌++◌}
use mathlib.Core.Option.{none, some}
use mathlib.Core.Path.{◌≡◌, refl, ap, ◌∙◌}
use lib.Dec.{lit≤, not_T}
use borrow.Author.Tests.{le-leb, lt-leb, lt-ltb, le-ltb}
use native.Mathlib.Omega.{arith}
use native.Mathlib.Numerals.{add-one}
use Rattle.linked_lists.specs.Links as links
use Rattle.rules.specs.Rules.{size_lists, Range, size, up, Short, Plain, Splits, fit, serves, find, list_number, of_list, lists}
use Rattle.rules.specs.Sound.{In}
use Rattle.rules_laws.proofs.Lists.{T_false}
use Rattle.rules_laws.proofs.Outcomes.{le_up, served}
use Rattle.rules_laws.proofs.Shelf.{of_list-in, of_list-number, list-number-mono}
use Rattle.pool_state.specs.Shown.{numbers, Runs, Walked}
use Rattle.pool_state.proofs.Walks.{in_right}

-- ---- the fit test, from what remains of the range from its start rounded up

module _ (z o : ℕ) (r : Range) (left : ℕ) (some_byte : 0 < z) (proper : r.start ≤ r.last) (remains : left ≡ r.start + size r - up o r.start) where
  pub too_short : left < z → fit z o r ≡ Short
  too_short h = rw (lt-leb (up o r.start + z) (suc r.last) (omega arith))

  pub whole-front : z ≤ left → up o r.start ≡ r.start → fit z o r ≡ Plain
  whole-front h e = rw (le-leb (up o r.start + z) (suc r.last) (omega arith), le-ltb r.start (up o r.start) (omega arith))

  pub exact-tail : up o r.start ≢ r.start → left ≡ z → fit z o r ≡ Plain
  exact-tail f e =
      rw (le-leb (up o r.start + z) (suc r.last) (omega arith), lt-ltb r.start (up o r.start) (omega (arith, le_up o r.start)), lt-leb (up o r.start + z) r.last (omega arith))

  pub both-sides : z ≤ left → up o r.start ≢ r.start → left ≢ z → fit z o r ≡ Splits
  both-sides h f e =
      rw (le-leb (up o r.start + z) (suc r.last) (omega arith), lt-ltb r.start (up o r.start) (omega (arith, le_up o r.start)), le-leb (up o r.start + z) r.last (omega arith))

-- ---- searching

-- the test as a key: a walk past those whose key is below 1 passes those that fail the test
abbrev pub mark : (Range → Bool) → Range → ℕ
mark p r = cond (p r) 1 0

pub mark-off : (p : Range → Bool) (r : Range) → p r ≡ false → mark p r < 1
mark-off p r e = rw e (lit≤ tt)

off-mark : (p : Range → Bool) (r : Range) → mark p r < 1 → p r ≡ false
off-mark p r h = go (p r) h
  where
    go : (t : Bool) → cond t 1 0 < 1 → t ≡ false
    go true h = absurd (let z : ⊥ = omega arith in z)
    go false h = refl

find-skip : (p : Range → Bool) (l m : List Range) → ((q : Range) → In q l → mark p q < 1) → find p (l ++ m) ≡ find p m
unfolding find
find-skip p [] m f = refl
find-skip p (q ∷ l) m f = rw (off-mark p q (f q (inl refl))) (find-skip p l m (λ x i. f x (inr i)))

find-hit : (p : Range → Bool) (r : Range) (m : List Range) → p r ≡ true → find p (r ∷ m) ≡ some r
unfolding find
find-hit p r m e = rw e

append-assoc' : (a b c : List Range) → (a ++ b) ++ c ≡ a ++ (b ++ c)
append-assoc' a b c = mathlib.Core.List.append_assoc a b c

pub list-passed : (p : Range → Bool) (k m : ℕ) (l : List Range) → 0 < m → ((q : Range) → In q (of_list k l) → mark p q < 1)
    → find p (lists k m l) ≡ find p (lists (k + 1) (m - 1) l)
unfolding lists
list-passed p k zero l h f = absurd (let z : ⊥ = omega arith in z)
list-passed p k (suc m) l h f =
    let e : suc m - 1 ≡ m = omega arith in
    find-skip p (of_list k l) (lists (suc k) m l) f ∙ (rw (add-one k, e))

pub list_hit : (p : Range → Bool) (k m : ℕ) (l low : List Range) (r : Range) (high : List Range) → 0 < m
    → of_list k l ≡ low ++ r ∷ high → ((q : Range) → In q low → mark p q < 1) → p r ≡ true → find p (lists k m l) ≡ some r
unfolding lists
list_hit p k zero l low r high h e f g = absurd (let z : ⊥ = omega arith in z)
list_hit p k (suc m) l low r high h e f g =
    ap (λ (x : List Range). find p (x ++ lists (suc k) m l)) e
    ∙ ap (find p) (append-assoc' low (r ∷ high) (lists (suc k) m l))
    ∙ find-skip p low (r ∷ high ++ lists (suc k) m l) f ∙ find-hit p r (high ++ lists (suc k) m l) g

pub list-end : (p : Range → Bool) (k : ℕ) (l : List Range) → find p (lists k 0 l) ≡ none
unfolding lists find
list-end p k l = refl

-- at the end all of the list has been passed
pub walk-all : (n : ℕ) → n ≤ links.none → (key : Range → ℕ) (l : List Range) (start end next : List ℕ) → Runs n l start end next → (s b a : ℕ)
    → Walked key l s b a → a ≡ links.none → (q : Range) → In q l → key q < s
walk-all n small key l start end next t s b a w h = go w.rest w.parts w.high
  where
    go : (r : List Range) → l ≡ w.passed ++ r → a ≡ links.head (numbers r) → (q : Range) → In q l → key q < s
    go [] e x q m = w.smaller q (rw (e ∙ mathlib.Core.List.append-nil w.passed) at m)
    go (y ∷ r) e x q m = absurd (let g = (t.good y (rw e (in_right y w.passed (y ∷ r) (inl refl)))).known in let z : ⊥ = omega arith in z)

-- ---- the search may start at the list of the request's size

-- a range that can be served is no smaller than the request, so its list is not below the request's
module _ (spare : Bool) (z o : ℕ) (l : List Range) (proper : (r : Range) → In r l → r.start ≤ r.last) where
  abbrev serving : Range → Bool
  serving r = serves spare (fit z o r)

  low-lists : (k : ℕ) → k < list_number z → (q : Range) → In q (of_list k l) → mark serving q < 1
  low-lists k h q m = mark-off serving q (T_false (serving q) (not_T (serving q) (λ t.
      let e = of_list-number k l q m in
      let s : z ≤ size q = omega (arith, proper q (of_list-in k l q m), (served spare z o q t).0, le_up o q.start) in
      let y = list-number-mono z (size q) s in omega arith)))

  pub from-own : (k : ℕ) → k ≤ list_number z → k ≤ size_lists → find serving (lists 0 size_lists l) ≡ find serving (lists k (size_lists - k) l)
  from-own zero h b = refl
  from-own (suc k) h b =
      let e : size_lists - k - 1 ≡ size_lists - suc k = omega arith in
      from-own k (omega arith) (omega arith)
      ∙ list-passed serving k (size_lists - k) l (omega arith) (low-lists k h)
      ∙ ap (λ (m : ℕ). find serving (lists (k + 1) m l)) e
      ∙ ap (λ (j : ℕ). find serving (lists j (size_lists - suc k) l)) (add-one k)
