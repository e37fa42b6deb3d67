-- A mapping leaves tables apart that were apart: none is reached twice afterwards. Assumes nothing.
use mathlib.Core.Path.{◌≡◌, refl, sym, ◌∙◌, subst}
use mathlib.Core.Logic.{◌⊎◌, inl, inr, ◌≢◌}
use mathlib.Core.Bool.{Bool, true, false, not, cond}
use mathlib.Core.List.{List, [], ◌∷◌, ◌++◌}
use Prim.Native.Nat.{ℕ, zero, suc, ◌+◌, ◌*◌, ◌≤◌, ◌<◌}
use native.Mathlib.Omega.{arith}
use native.Mathlib.Nat.{mod-eq_of_lt}
use lib.Dec.{ltb, ltb→lt, nltb→le}
use Rattle.rules_laws.proofs.Lists.{T-or-not}
use Rattle.mapper_rules.specs.Walk.{span}
use Rattle.mapper_laws.specs.declared.Mapping.{Mapping}
use Rattle.mapper_laws.specs.Tree.{Entry, Ends, Leads, table, joined, sum, tables, In, Once}
use Rattle.mapper_laws.specs.Mapping.{meets, opens, leaf_word_lem, table_word_lem, wants, mapped}
use Rattle.mapper_laws.proofs.Apart.{Has, ends-none, Apart, apart-ends}
use Rattle.mapper_laws.proofs.Once.{in_either, of-joined, in-has}
use Rattle.mapper_laws.proofs.Handed.{slot, Between, has-mapped, sum-part}

-- ---- lists

pub once-append : (a b : List ℕ) → Once a → Once b → ((p : ℕ) → In p a → In p b → ⊥) → Once (a ++ b)
unfolding Once
once-append [] b oa ob d = ob
once-append (x ∷ a) b oa ob d = (
  λ i. elim (in_either x a b i) [ inl l ↦ oa.0 l | inr r ↦ d x (inl refl) r ],
  once-append a b oa.1 ob (λ p i j. d p (inr i) j),
)

pub once-joined : (n : ℕ) (f : ℕ → List ℕ) → ((j : ℕ) → j < n → Once (f j)) → ((i j : ℕ) → i < n → j < n → i ≢ j → (p : ℕ) → In p (f i) → In p (f j) → ⊥) → Once (joined n f)
unfolding joined Once
once-joined zero f each two = tt
once-joined (suc n) f each two =
    once-append (joined n f) (f n) (once-joined n f (λ j l. each j (omega arith)) (λ i j li lj. two i j (omega arith) (omega arith))) (each n (omega arith))
    (λ p i j. let at = of-joined n f p i in let l = at.1 in two at.0 n (omega arith) (omega arith) (λ g. let z : ⊥ = omega arith in z) p at.2 j)

module _ (page_of : ℕ → ℕ) where
  pub apart-once : (h : ℕ) (E : Entry) → Apart page_of h E → Once (tables page_of h E)
  unfolding Apart tables Once
  apart-once zero E a = tt
  apart-once (suc h) (Ends d) a = tt
  apart-once (suc h) (Leads d f) a = (
    λ i. let at = of-joined 512 (λ k. tables page_of h (f k)) (page_of d) i in (a.0 at.0 at.1).1 (in-has page_of h (f at.0) (page_of d) at.2),
    once-joined 512 (λ k. tables page_of h (f k)) (λ j l. apart-once h (f j) (a.0 j l).0)
        (λ i j li lj d p x y. a.1 i j li lj d p (in-has page_of h (f i) p x) (in-has page_of h (f j) p y)),
  )

-- ---- entries of one table, m of them, whose pages are counted from n on

module _ (q : Mapping) (page page_of : ℕ → ℕ) (N : ℕ) (once : (k l : ℕ) → k < N → l < N → slot q page page_of k ≡ slot q page page_of l → k ≡ l) where
  abbrev Keeps : ℕ → Type 0
  Keeps h = (e n : ℕ) (E : Entry) → Apart page_of h E → n + wants q h e E ≤ N → ((k : ℕ) → n ≤ k → k < N → Has page_of h E (slot q page page_of k) → ⊥)
      → Apart page_of h (mapped q page h e n E)

  module _ (h e n m : ℕ) (f : ℕ → Entry) where
    abbrev pub wanted : ℕ → ℕ
    wanted j = wants q h (e + j * span h) (f j)

    abbrev pub made : ℕ → Entry
    made j = mapped q page h (e + j * span h) (n + sum j wanted) (f j)

    pub record Before : Type 0 where
      pub apart : (j : ℕ) → j < m → Apart page_of h (f j)
      pub two : (i j : ℕ) → i < m → j < m → i ≢ j → (p : ℕ) → Has page_of h (f i) p → Has page_of h (f j) p → ⊥
      pub fresh : (k : ℕ) → n ≤ k → k < N → (j : ℕ) → j < m → Has page_of h (f j) (slot q page page_of k) → ⊥
      pub room : n + sum m wanted ≤ N

    -- where a page of the j-th comes from
    came : (j : ℕ) → j < m → (p : ℕ) → Has page_of h (made j) p → Has page_of h (f j) p ⊎ Between q page page_of (n + sum j wanted) (n + sum j wanted + wanted j) p
    came j l p = has-mapped q page page_of h (e + j * span h) (n + sum j wanted) (f j) p

    module _ (b : Before) where
      pub apart-made : Keeps h → (j : ℕ) → j < m → Apart page_of h (made j)
      apart-made keeps j l =
          let part = sum-part m wanted j l in
          let room = b.room in
          keeps (e + j * span h) (n + sum j wanted) (f j) (b.apart j l) (omega arith) (λ k low high g. b.fresh k (omega arith) high j l g)

      -- a page that is no table and is not handed out is no table afterwards
      pub none_made : (p : ℕ) → ((k : ℕ) → n ≤ k → k < N → p ≢ slot q page page_of k) → (j : ℕ) → j < m → (Has page_of h (f j) p → ⊥) → Has page_of h (made j) p → ⊥
      none_made p other j l old g =
          let part = sum-part m wanted j l in
          let room = b.room in
          elim (came j l p g) [
            | inl o ↦ old o
            | inr z ↦ other z.0 (let low = z.1 in omega arith) (let high = z.2 in omega arith) z.3
          ]

      -- pages handed out for two entries are two
      handed-apart : (i j : ℕ) → i < j → j < m → (p : ℕ) → Between q page page_of (n + sum i wanted) (n + sum i wanted + wanted i) p
          → Between q page page_of (n + sum j wanted) (n + sum j wanted + wanted j) p → ⊥
      handed-apart i j less l p x y =
          let before = sum-part j wanted i less in
          let part = sum-part m wanted j l in
          let room = b.room in
          let x2 = x.2 in
          let y1 = y.1 in
          let y2 = y.2 in
          let same = once x.0 y.0 (omega arith) (omega arith) (sym x.3 ∙ y.3) in
          let z : ⊥ = omega arith in z

      pub two_made : (i j : ℕ) → i < m → j < m → i ≢ j → (p : ℕ) → Has page_of h (made i) p → Has page_of h (made j) p → ⊥
      two_made i j li lj d p x y =
          let room = b.room in
          let part-i = sum-part m wanted i li in
          let part-j = sum-part m wanted j lj in
          elim (came i li p x) [
            | inl v ↦ elim (came j lj p y) [
              | inl w ↦ b.two i j li lj d p v w
              | inr w ↦ b.fresh w.0 (let low = w.1 in omega arith) (let high = w.2 in omega arith) i li (subst (Has page_of h (f i)) w.3 v)
            ]
            | inr v ↦ elim (came j lj p y) [
              | inl w ↦ b.fresh v.0 (let low = v.1 in omega arith) (let high = v.2 in omega arith) j lj (subst (Has page_of h (f j)) v.3 w)
              | inr w ↦ elim (T-or-not (ltb i j)) [
                | inl t ↦ handed-apart i j (ltb→lt i j t) lj p v w
                | inr t ↦ let more = nltb→le i j t in handed-apart j i (omega arith) li p w v
              ]
            ]
          ]

  -- a table over them
  over : (h e n d : ℕ) (f : ℕ → Entry) → Before h e n 512 f → Keeps h → ((k : ℕ) → n ≤ k → k < N → page_of d ≢ slot q page page_of k)
      → ((j : ℕ) → j < 512 → Has page_of h (f j) (page_of d) → ⊥) → Apart page_of (suc h) (Leads d (table (made h e n 512 f)))
  unfolding Apart
  over h e n d f b keeps other old = (
    λ j l. (
      subst (λ (i : ℕ). Apart page_of h (made h e n 512 f i)) (sym (mod-eq_of_lt l)) (apart-made h e n 512 f b keeps j l),
      λ g. none_made h e n 512 f b (page_of d) other j l (old j l) (at j l (page_of d) g),
    ),
    λ i j li lj d p x y. two_made h e n 512 f b i j li lj d p (at i li p x) (at j lj p y),
  )
    where
      at : (j : ℕ) → j < 512 → (p : ℕ) → Has page_of h (table (made h e n 512 f) j) p → Has page_of h (made h e n 512 f j) p
      at j l p = subst (λ (i : ℕ). Has page_of h (made h e n 512 f i) p) (mod-eq_of_lt l)

  pub keeps : (h : ℕ) → Keeps h
  unfolding mapped wants Apart Has
  keeps zero e n E a room fresh = tt
  keeps (suc h) e n (Ends d) a room fresh = go (keeps h) (opens q (suc h) e) (meets q (suc h) e) room
    where
      go : Keeps h → (c m : Bool) → n + cond c (suc (sum 512 (λ j. wants q h (e + j * span h) (Ends 0)))) 0 ≤ N
          → Apart page_of (suc h) (cond c (Leads (table_word_lem (page n)) (table (made h e (suc n) 512 (λ j. Ends 0)))) (cond m (Ends (leaf_word_lem q (suc h) e)) (Ends d)))
      go below true m r = over h e (suc n) (table_word_lem (page n)) (λ j. Ends 0) (record {
        apart = λ j l. apart-ends page_of h 0;
        two = λ i j li lj d p x y. ends-none page_of h 0 p x;
        fresh = λ k low high j l g. ends-none page_of h 0 (slot q page page_of k) g;
        room = omega arith;
      }) below (λ k low high g. let same = once n k (omega arith) high g in let z : ⊥ = omega arith in z) (λ j l g. ends-none page_of h 0 (slot q page page_of n) g)
      go below false true r = tt
      go below false false r = tt
  keeps (suc h) e n (Leads d f) a room fresh = go (keeps h) (opens q (suc h) e) (meets q (suc h) e) room
    where
      go : Keeps h → (c m : Bool) → n + cond c (sum 512 (λ j. wants q h (e + j * span h) (f j))) 0 ≤ N
          → Apart page_of (suc h) (cond c (Leads d (table (made h e n 512 f))) (cond m (Ends (leaf_word_lem q (suc h) e)) (Leads d f)))
      go below true m r = over h e n d f (record {
        apart = λ j l. (a.0 j l).0;
        two = a.1;
        fresh = λ k low high j l g. fresh k low high (inr (j, l, g));
        room = r;
      }) below (λ k low high g. fresh k low high (inl (sym g))) (λ j l g. (a.0 j l).1 g)
      go below false true r = tt
      go below false false r = a
