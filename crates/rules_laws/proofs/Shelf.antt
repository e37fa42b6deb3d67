-- The shelf: what the free bytes settle of it, and that it is the size lists joined. Assumes nothing.
use mathlib.Core.Path.{◌≡◌, refl, sym, ◌∙◌, ap, subst}
use mathlib.Core.Logic.{◌≢◌, inl, inr, ◌↔◌}
use mathlib.Core.Bool.{Bool, true, false, cond}
use mathlib.Core.List.{List, [], ◌∷◌, ◌++◌, map}
use Prim.Native.Nat.{ℕ, zero, suc, ◌+◌, ◌-◌, ◌*◌, ◌^◌, ◌≤◌, ◌<◌}
use native.Mathlib.Omega.{arith}
use lib.Dec.{T, leb, eqb, leb→le, nleb→lt, le→leb, eqb→eq, eqb_refl}
use Rattle.rules.specs.Rules.{size_lists, Range, size, Book, before, without, span, listing, full, least, list_number, tally, of_list, lists}
use Rattle.rules.specs.Sound.{In, Pairwise}
use Rattle.rules_laws.proofs.Lists.{if, T-no, T-or-not, T_true, T_false, neq, in-without→, in-without←, pairwise-without}
use Rattle.rules.specs.Sound.{Other, Smaller, Sound}
use Rattle.rules_laws.proofs.Facts.{full-uses}
use lib.ListN.{length}

-- ---- two lists of the same members, none of them twice

pub without-none : (i : ℕ) (l : List Range) → ((q : Range) → In q l → i ≢ q.number) → without i l ≡ l
unfolding without
without-none i [] h = refl
without-none i (q ∷ l) h = if (eqb i q.number) (λ k. k ≡ q ∷ l) (λ t. absurd (h q (inl refl) (eqb→eq i q.number t)))
    (λ t. ap (λ (k : List Range). q ∷ k) (without-none i l (λ p j. h p (inr j))))

tally-without : (p : Range → Bool) (r : Range) (m : List Range) → Pairwise Other m → In r m → tally p m ≡ cond (p r) 1 0 + tally p (without r.number m)
unfolding tally without
tally-without p r [] h x'' = elim x'' [ ]
tally-without p r (q ∷ m) h (inl e) = if (eqb r.number q.number) (λ k. cond (p q) 1 0 + tally p m ≡ cond (p r) 1 0 + tally p k)
    (λ t. subst (λ (x : Range). cond (p q) 1 0 + tally p m ≡ cond (p x) 1 0 + tally p (without x.number m)) (sym e)
    (ap (λ (k : List Range). cond (p q) 1 0 + tally p k) (sym (without-none q.number m h.0))))
    (λ t. absurd (T-no (eqb r.number q.number) t (subst (λ (x : Range). T (eqb x.number q.number)) (sym e) (eqb_refl q.number))))
tally-without p r (q ∷ m) h (inr j) = if (eqb r.number q.number) (λ k. cond (p q) 1 0 + tally p m ≡ cond (p r) 1 0 + tally p k)
    (λ t. absurd (h.0 r j (sym (eqb→eq r.number q.number t))))
    (λ t. omega (arith, tally-without p r m h.1 j))

same-tally : (p : Range → Bool) (l m : List Range) → Pairwise Other l → Pairwise Other m → ((q : Range) → In q l ↔ In q m) → tally p l ≡ tally p m
unfolding tally
same-tally p [] [] h k f = refl
same-tally p [] (q ∷ m) h k f = absurd ((f q).1 (inl refl))
same-tally p (r ∷ l) m h k f =
    let e = tally-without p r m k ((f r).0 (inl refl)) in
    let ih = same-tally p l (without r.number m) h.1 (pairwise-without r.number Other m k)
    (λ q. (
      λ i. in-without← r.number m q ((f q).0 (inr i)) (h.0 q i),
      λ i. let w = in-without→ r.number m q i in elim ((f q).1 w.0) [ inl d ↦ absurd (w.1 (ap (λ (x : Range). x.number) (sym d))) | inr j ↦ j ],
    )) in
    omega arith

-- ---- two lists in the order of size with the same sizes in them

abbrev sized : ℕ → Range → Bool
sized v r = eqb v (size r)

tally-in : (p : Range → Bool) (r : Range) (l : List Range) → In r l → T (p r) → 0 < tally p l
unfolding tally
tally-in p r [] x'' t = elim x'' [ ]
tally-in p r (q ∷ l) (inl e) t = rw (T_true (p q) (subst (λ (x : Range). T (p x)) e t)) (omega arith)
tally-in p r (q ∷ l) (inr i) t = omega (arith, tally-in p r l i t)

tally-out : (p : Range → Bool) (l : List Range) → 0 < tally p l → (r : Range) × In r l × T (p r)
unfolding tally
tally-out p [] = λ h. absurd (omega arith)
tally-out p (q ∷ l) = if (p q) (λ k. 0 < k + tally p l → (r : Range) × In r (q ∷ l) × T (p r)) (λ t h. (q, inl refl, t))
    (λ t h. let w = tally-out p l (omega arith) in (w.0, inr w.1, w.2))

first-size : (r q : Range) (l m : List Range) → Pairwise Smaller (q ∷ m) → ((v : ℕ) → tally (sized v) (r ∷ l) ≡ tally (sized v) (q ∷ m)) → size q ≤ size r
first-size r q l m k f =
    let w = tally-out (sized (size r)) (q ∷ m) (omega (arith, f (size r), tally-in (sized (size r)) r (r ∷ l) (inl refl) (eqb_refl (size r)))) in
    let e : size r ≡ size w.0 = eqb→eq (size r) (size w.0) w.2 in
    elim w.1 [ inl d ↦ let d' : size w.0 ≡ size q = ap size d in omega arith | inr j ↦ omega (arith, k.0 w.0 j) ]

same-sizes : (l m : List Range) → Pairwise Smaller l → Pairwise Smaller m → ((v : ℕ) → tally (sized v) l ≡ tally (sized v) m) → map size l ≡ map size m
unfolding tally
same-sizes [] [] h k f = refl
same-sizes [] (q ∷ m) h k f = absurd (omega (arith, f (size q), tally-in (sized (size q)) q (q ∷ m) (inl refl) (eqb_refl (size q))))
same-sizes (r ∷ l) [] h k f = absurd (omega (arith, f (size r), tally-in (sized (size r)) r (r ∷ l) (inl refl) (eqb_refl (size r))))
same-sizes (r ∷ l) (q ∷ m) h k f =
    let a = first-size r q l m k f in let b = first-size q r m l h (λ v. sym (f v)) in let e : size r ≡ size q = omega arith in
    let ih = same-sizes l m h.1 k.1 (λ v. let c : ◌≡◌ {A = ℕ} (cond (eqb v (size r)) 1 0) (cond (eqb v (size q)) 1 0) = ap (λ (y : ℕ). cond (eqb v y) 1 0) e in omega (arith, f v)) in
    λ i. e i ∷ ih i

-- a tally by what a listing shows
shown : ((ℕ × ℕ) → Bool) → List (ℕ × ℕ) → ℕ
shown f [] = 0
shown f (p ∷ l) = cond (f p) 1 0 + shown f l

tally-shown : (f : (ℕ × ℕ) → Bool) (l : List Range) → tally (λ r. f (span r)) l ≡ shown f (map span l)
unfolding tally shown
tally-shown f [] = refl
tally-shown f (r ∷ l) = ap (λ (k : ℕ). cond (f (span r)) 1 0 + k) (tally-shown f l)

-- The shelves of two books with the same listing have the same ranges, and the same sizes in the same places: only record numbers and the order among equal sizes may differ.
pub same-shelf : (n : ℕ) (b c : Book) → Sound n b → Sound n c → listing b ≡ listing c
    → (map size b.shelf ≡ map size c.shelf) × ((f : (ℕ × ℕ) → Bool) → tally (λ r. f (span r)) b.shelf ≡ tally (λ r. f (span r)) c.shelf)
same-shelf n b c s t e =
    let all : (f : (ℕ × ℕ) → Bool) → tally (λ r. f (span r)) b.shelf ≡ tally (λ r. f (span r)) c.shelf
    = λ f. sym (same-tally (λ r. f (span r)) b.chain b.shelf s.once s.once-shelf s.same)
    ∙ (tally-shown f b.chain ∙ (ap (shown f) e ∙ (sym (tally-shown f c.chain)
    ∙ same-tally (λ r. f (span r)) c.chain c.shelf t.once t.once-shelf t.same))) in
    (same-sizes b.shelf c.shelf s.sizes t.sizes (λ v. all (λ p. eqb v (suc p.1 - p.0))), all)

-- ---- the size lists, joined in order, are the shelf

least-ge : (k j z : ℕ) → j ≤ least k j z
unfolding least
least-ge zero j z = omega arith
least-ge (suc k) j z = if (leb z (4096 * 2 ^ j)) (λ x. j ≤ x) (λ t. omega arith) (λ t. omega (arith, least-ge k (suc j) z))

pub least-le : (k j z : ℕ) → least k j z ≤ j + k
unfolding least
least-le zero j z = omega arith
least-le (suc k) j z = if (leb z (4096 * 2 ^ j)) (λ x. x ≤ j + suc k) (λ t. omega arith) (λ t. omega (arith, least-le k (suc j) z))

least-mono : (k j y z : ℕ) → y ≤ z → least k j y ≤ least k j z
unfolding least
least-mono zero j y z h = omega arith
least-mono (suc k) j y z h = if (leb y (4096 * 2 ^ j)) (λ x. x ≤ least (suc k) j z)
    (λ t. least-ge (suc k) j z)
    (λ t. if (leb z (4096 * 2 ^ j)) (λ x. least k (suc j) y ≤ x)
    (λ u. absurd (omega (arith, leb→le z (4096 * 2 ^ j) u, nleb→lt y (4096 * 2 ^ j) t)))
    (λ u. least-mono k (suc j) y z h))

abbrev pub num : Range → ℕ
num r = list_number (size r)

pub list-number-mono : (y z : ℕ) → y ≤ z → list_number y ≤ list_number z
unfolding list_number
list-number-mono y z h = least-mono (size_lists - 1) 0 y z h

pub num-lt : (r : Range) → num r < size_lists
unfolding list_number
num-lt r = omega (arith, least-le (size_lists - 1) 0 (size r))

-- a range whose list is not among these changes nothing
not-among : (j k : ℕ) (r : Range) (l : List Range) → num r < j → lists j k (r ∷ l) ≡ lists j k l
unfolding lists of_list
not-among j zero r l h = refl
not-among j (suc k) r l h = if (eqb (num r) j) (λ m. m ++ lists (suc j) k (r ∷ l) ≡ of_list j l ++ lists (suc j) k l)
    (λ t. absurd (omega (arith, eqb→eq (num r) j t))) (λ t. ap (λ (m : List Range). of_list j l ++ m) (not-among (suc j) k r l (omega arith)))

no_such : (j : ℕ) (l : List Range) → ((q : Range) → In q l → j < num q) → of_list j l ≡ []
unfolding of_list
no_such j [] h = refl
no_such j (q ∷ l) h = if (eqb (num q) j) (λ m. m ≡ []) (λ t. absurd (omega (arith, h q (inl refl), eqb→eq (num q) j t))) (λ t. no_such j l (λ p i. h p (inr i)))

comes-first : (j k : ℕ) (r : Range) (l : List Range) → j ≤ num r → num r < j + k → ((q : Range) → In q l → num r ≤ num q) → lists j k (r ∷ l) ≡ r ∷ lists j k l
unfolding lists of_list
comes-first j zero r l h g f = absurd (omega arith)
comes-first j (suc k) r l h g f = if (eqb (num r) j) (λ m. m ++ lists (suc j) k (r ∷ l) ≡ r ∷ (of_list j l ++ lists (suc j) k l))
    (λ t. ap (λ (m : List Range). r ∷ (of_list j l ++ m)) (not-among (suc j) k r l (omega (arith, eqb→eq (num r) j t))))
    (λ t. let d = neq (num r) j t in rw (no_such j l (λ q i. omega (arith, f q i))) (comes-first (suc j) k r l (omega arith) (omega arith) f))

pub all-lists : (l : List Range) → Pairwise Smaller l → lists 0 size_lists l ≡ l
unfolding lists of_list
all-lists [] h = refl
all-lists (r ∷ l) h = comes-first 0 size_lists r l (omega arith) (omega (arith, num-lt r)) (λ q i. list-number-mono (size r) (size q) (h.0 q i)) ∙ ap (λ (m : List Range). r ∷ m) (all-lists l h.1)

-- ---- one of the size lists: what a placing and a removal do to it

pub of_list-in : (k : ℕ) (l : List Range) (q : Range) → In q (of_list k l) → In q l
unfolding of_list
of_list-in k [] q = λ i. i
of_list-in k (r ∷ l) q = if (eqb (num r) k) (λ m. In q m → In q (r ∷ l)) (λ t i. elim i [ inl e ↦ inl e | inr j ↦ inr (of_list-in k l q j) ]) (λ t i. inr (of_list-in k l q i))

pub of_list-number : (k : ℕ) (l : List Range) (q : Range) → In q (of_list k l) → num q ≡ k
unfolding of_list
of_list-number k [] q = λ m. absurd m
of_list-number k (r ∷ l) q = if (eqb (num r) k) (λ m. In q m → num q ≡ k) (λ t i. elim i [ inl e ↦ ap num e ∙ eqb→eq (num r) k t | inr j ↦ of_list-number k l q j ]) (λ t i. of_list-number k l q i)

pub in-of_list : (q : Range) (l : List Range) → In q l → In q (of_list (num q) l)
unfolding of_list
in-of_list q [] x' = elim x' [ ]
in-of_list q (p ∷ l) (inl e) = if (eqb (num p) (num q)) (λ m. In q m) (λ t. inl e) (λ t. absurd (neq (num p) (num q) t (ap num (sym e))))
in-of_list q (p ∷ l) (inr i) = if (eqb (num p) (num q)) (λ m. In q m) (λ t. inr (in-of_list q l i)) (λ t. in-of_list q l i)

pub of_list-pairwise : (R : Range → Range → Type 0) (k : ℕ) (l : List Range) → Pairwise R l → Pairwise R (of_list k l)
unfolding of_list
of_list-pairwise R k [] p = tt
of_list-pairwise R k (r ∷ l) p = if (eqb (num r) k) (λ m. Pairwise R m) (λ t. (λ q m. p.0 q (of_list-in k l q m), of_list-pairwise R k l p.1)) (λ t. of_list-pairwise R k l p.1)

before-first : (key : Range → ℕ) (r : Range) (l : List Range) → ((q : Range) → In q l → key r ≤ key q) → before key r l ≡ r ∷ l
unfolding before
before-first key r [] h = refl
before-first key r (q ∷ l) h = rw (T_true (leb (key r) (key q)) (le→leb (key r) (key q) (h q (inl refl))))

pub of_list-without : (k i : ℕ) (l : List Range) → of_list k (without i l) ≡ without i (of_list k l)
unfolding of_list without
of_list-without k i [] = refl
of_list-without k i (q ∷ l) = elim (T-or-not (eqb i q.number)) [
  | inl t ↦ rw (T_true (eqb i q.number) t) (if (eqb (num q) k) (λ m. of_list k (without i l) ≡ without i m) (λ u. rw (T_true (eqb i q.number) t) (of_list-without k i l)) (λ u. of_list-without k i l))
  | inr t ↦ rw (T_false (eqb i q.number) t) (elim (T-or-not (eqb (num q) k)) [
    | inl u ↦ rw (T_true (eqb (num q) k) u, T_false (eqb i q.number) t) (ap (λ (m : List Range). q ∷ m) (of_list-without k i l))
    | inr u ↦ rw (T_false (eqb (num q) k) u) (of_list-without k i l)
  ])
]

push : (c : Bool) (q : Range) (x y : List Range) → q ∷ cond c x y ≡ cond c (q ∷ x) (q ∷ y)
push true q x y = refl
push false q x y = refl

-- (r goes into the list of its own number, before the first there whose size is at least its own; the other lists stay)
pub of_list-place : (k : ℕ) (r : Range) (l : List Range) → Pairwise Smaller l → of_list k (before size r l) ≡ cond (eqb (num r) k) (before size r (of_list k l)) (of_list k l)
unfolding of_list before
of_list-place k r [] h = refl
of_list-place k r (q ∷ l) h = elim (T-or-not (leb (size r) (size q))) [
  | inl t ↦ let le = leb→le (size r) (size q) t in rw (T_true (leb (size r) (size q)) t) (elim (T-or-not (eqb (num r) k)) [
    | inl u ↦ rw (T_true (eqb (num r) k) u) (sym (before-first size r (of_list k (q ∷ l))
        (λ p i. elim (of_list-in k (q ∷ l) p i) [ inl e ↦ let e' : size p ≡ size q = ap size e in omega arith | inr j ↦ omega (arith, h.0 p j) ])))
    | inr u ↦ rw (T_false (eqb (num r) k) u) refl
  ])
  | inr t ↦ rw (T_false (leb (size r) (size q)) t) (elim (T-or-not (eqb (num q) k)) [
    | inl u ↦ rw (T_true (eqb (num q) k) u, T_false (leb (size r) (size q)) t) (ap (λ (m : List Range). q ∷ m) (of_list-place k r l h.1) ∙ push (eqb (num r) k) q (before size r (of_list k l)) (of_list k l))
    | inr u ↦ rw (T_false (eqb (num q) k) u) (of_list-place k r l h.1)
  ])
]

-- ---- at most n ranges; n of them exactly where all records are used

shorter : (i : ℕ) (l : List Range) → Pairwise Other l → length l ≤ suc (length (without i l))
unfolding without
shorter i [] h = omega arith
shorter i (q ∷ l) h = if (eqb i q.number) (λ m. length (q ∷ l) ≤ suc (length m)) {x = without i l} {y = q ∷ without i l}
    (λ t. let e : length (without i l) ≡ length l = ap length (without-none i l (λ p j d. h.0 p j (sym (eqb→eq i q.number t) ∙ d))) in omega arith)
    (λ t. omega (arith, shorter i l h.1))

no_longer : (i : ℕ) (l : List Range) → length (without i l) ≤ length l
unfolding without
no_longer i [] = omega arith
no_longer i (q ∷ l) = if (eqb i q.number) (λ m. length m ≤ length (q ∷ l)) {x = without i l} {y = q ∷ without i l} (λ t. omega (arith, no_longer i l)) (λ t. omega (arith, no_longer i l))

strictly : (l : List Range) (q : Range) → In q l → length (without q.number l) < length l
unfolding without
strictly [] q i = elim i [ ]
strictly (p ∷ l) q i = if (eqb q.number p.number) (λ m. length m < length (p ∷ l)) {x = without q.number l} {y = p ∷ without q.number l} (λ t. omega (arith, no_longer q.number l))
    (λ t. elim i [ inl e ↦ absurd (neq q.number p.number t (ap (λ (x : Range). x.number) e)) | inr j ↦ omega (arith, strictly l q j) ])

pub at_most : (n : ℕ) (l : List Range) → Pairwise Other l → ((q : Range) → In q l → q.number < n) → length l ≤ n
at_most zero [] h f = omega arith
at_most zero (q ∷ l) h f = absurd (omega (arith, f q (inl refl)))
at_most (suc n) l h f = omega (
  arith,
  shorter n l h,
  at_most n (without n l) (pairwise-without n Other l h)
      (λ q i. let w = in-without→ n l q i in let d : n ≢ q.number = w.1 in omega (arith, f q w.0)),
)

at_least : (n : ℕ) (l : List Range) → ((k : ℕ) → k < n → (q : Range) × In q l × (k ≡ q.number)) → n ≤ length l
at_least zero l f = omega arith
at_least (suc n) l f = let w = f n (omega arith) in
    omega (
      arith,
      strictly l w.0 w.1,
      at_least n (without w.0.number l)
          (λ k h. let v = f k (omega arith) in (v.0, in-without← w.0.number l v.0 v.1 (let e = w.2 in let e' = v.2 in omega arith), v.2)),
    )

pub length-le : (n : ℕ) (b : Book) → Sound n b → length b.chain ≤ n
length-le n b s = at_most n b.chain s.once (λ q i. (s.good q i).known)

pub full-length : (n : ℕ) (b : Book) → Sound n b → T (full n b) → length b.chain ≡ n
full-length n b s t = omega (arith, length-le n b s, at_least n b.chain (full-uses n b t))
