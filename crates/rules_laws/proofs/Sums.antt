-- Sums of sizes: what a range that is put in or taken out makes of the total, and how many bytes lie between two addresses. Assumes nothing.
use mathlib.Core.Path.{◌≡◌, refl, sym, ap, ◌∙◌, subst}
use mathlib.Core.Logic.{inl, inr}
use mathlib.Core.List.{List, [], ◌∷◌, ◌++◌}
use Prim.Native.Nat.{ℕ, suc, ◌+◌, ◌≤◌}
use native.Mathlib.Omega.{arith}
use lib.Dec.{T, leb, eqb, eqb→eq, eqb_refl}
use Rattle.rules.specs.Rules.{Range, start_of, size, Book, empty, sum, total, before, without, put, remove}
use Rattle.rules.specs.Sound.{In, Pairwise, Ahead, Other, Good, Sound}
use Rattle.rules_laws.proofs.Lists.{if, T-no}
use Rattle.rules_laws.proofs.Shelf.{without-none}

pub sum-before : (key : Range → ℕ) (q : Range) (c : List Range) → sum (before key q c) ≡ size q + sum c
unfolding sum before
sum-before key q [] = refl
sum-before key q (p ∷ c) = if (leb (key q) (key p)) (λ m. sum m ≡ size q + (size p + sum c)) (λ t. refl) (λ t. let e = sum-before key q c in omega arith)

pub sum-without : (r : Range) (c : List Range) → Pairwise Other c → In r c → sum c ≡ size r + sum (without r.number c)
unfolding sum without
sum-without r [] h x'' = elim x'' [ ]
sum-without r (q ∷ c) h (inl e) = if (eqb r.number q.number) (λ k. size q + sum c ≡ size r + sum k)
    (λ t. subst (λ (x : Range). size q + sum c ≡ size x + sum (without x.number c)) (sym e)
    (ap (λ (k : List Range). size q + sum k) (sym (without-none q.number c h.0))))
    (λ t. absurd (T-no (eqb r.number q.number) t (subst (λ (x : Range). T (eqb x.number q.number)) (sym e) (eqb_refl q.number))))
sum-without r (q ∷ c) h (inr j) = if (eqb r.number q.number) (λ k. size q + sum c ≡ size r + sum k)
    (λ t. absurd (h.0 r j (sym (eqb→eq r.number q.number t))))
    (λ t. let e = sum-without r c h.1 j in omega arith)

pub sum-append : (l m : List Range) → sum (l ++ m) ≡ sum l + sum m
unfolding sum
sum-append [] m = omega arith
sum-append (q ∷ l) m = let e = sum-append l m in omega arith

-- ranges one after the other, between two addresses, have no more bytes than lie between
pub sum-between : (lo hi : ℕ) (l : List Range) → Pairwise Ahead l → lo ≤ hi → ((q : Range) → In q l → (lo ≤ q.start) × (q.start ≤ q.last) × (suc q.last ≤ hi)) → sum l + lo ≤ hi
unfolding sum
sum-between lo hi [] p h f = omega arith
sum-between lo hi (r ∷ l) p h f =
    let w = f r (inl refl) in
    let i = sum-between (suc r.last) hi l p.1 w.2 (λ q m. let v = f q (inr m) in (let a = p.0 q m in omega arith, v.1, v.2)) in
    omega arith

-- ---- the total of a book

pub total-put : (q : Range) (b : Book) → total (put q b) ≡ size q + total b
unfolding put
total-put q b = sum-before start_of q b.chain

pub total-remove : (n : ℕ) (r : Range) (b : Book) → Sound n b → In r b.chain → total b ≡ size r + total (remove r b)
unfolding remove
total-remove n r b s m = sum-without r b.chain s.once m

-- ---- without a byte

no-range : (n : ℕ) (c : List Range) → ((r : Range) → In r c → Good n r) → sum c ≡ 0 → c ≡ []
unfolding sum
no-range n [] g e = refl
no-range n (r ∷ c) g e = absurd (let h = (g r (inl refl)).proper in omega arith)

no_member : (c : List Range) → ((r : Range) → In r c → ⊥) → c ≡ []
no_member [] h = refl
no_member (r ∷ c) h = absurd (h r (inl refl))

-- A sound book whose total is 0 is the empty one, wherever it comes from.
pub total-none : (n : ℕ) (b : Book) → Sound n b → total b ≡ 0 → b ≡ empty
total-none n b s e =
    let c : b.chain ≡ [] = no-range n b.chain s.good e in
    let l : b.shelf ≡ [] = no_member b.shelf (λ r i. subst (In r) c ((s.same r).1 i)) in
    ap (λ (x : List Range). record { chain = x; shelf = b.shelf }) c ∙ ap (λ (x : List Range). record { chain = []; shelf = x }) l
