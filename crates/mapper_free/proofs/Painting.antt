-- Marks that are added. Assumes nothing.
use mathlib.Core.Path.{◌≡◌, refl, sym, ◌∙◌, ap}
use mathlib.Core.Logic.{inl, inr}
use mathlib.Core.Bool.{Bool, true, false, ◌&&◌, ◌||◌, and-false, or-true, or-false, or_assoc}
use mathlib.Core.List.{List}
use Prim.Native.Nat.{ℕ, zero, suc, ◌+◌, ◌-◌, ◌/◌, ◌≤◌, ◌<◌}
use native.Mathlib.Omega.{arith}
use native.Mathlib.Nat.{zero-add}
use native.Mathlib.Numerals.{add-one}
use lib.Dec.{T, leb, ltb, eqb, leb→le, ltb→lt, le→leb, lt→ltb, eqb→eq}
use lib.ListN.{length, get_or, set, length-set}
use lib.Seq.{get_or-set_same, get_or-set_other}
use Rattle.rules_laws.proofs.Lists.{and_i, and_l, and_r, same_test, T-or-not, T_true, T_false, neq}
use Rattle.mapper_laws.specs.Tree.{some}
use Rattle.mapper_free.specs.Free.{every, inside_of, all_inside, touches_at, touches, Adds}

-- ---- a run of tests

pub every-not : (n i : ℕ) (f : ℕ → Bool) → i < n → f i ≡ false → every n f ≡ false
unfolding every
every-not zero i f l e = absurd (let z : ⊥ = omega arith in z)
every-not (suc n) i f l e = elim (T-or-not (eqb i n)) [
  | inl t ↦ let g : n ≡ i = let h = eqb→eq i n t in omega arith in rw (g, e) (and-false (every i f))
  | inr t ↦ let d = neq i n t in ap (λ (x : Bool). x && f n) (every-not n i f (omega arith) e)
]

module _ (low high : ℕ) (S L : List ℕ) where
  pub none-tested : true ≡ all_inside low high S L 0
  unfolding every
  none-tested = refl

  pub one-tested : (i : ℕ) → true ≡ all_inside low high S L i → true ≡ inside_of low high S L i → true ≡ all_inside low high S L (i + 1)
  unfolding every
  one-tested i all one = one ∙ rw (add-one, ← all)

  pub one-outside : (i n : ℕ) → i < n → false ≡ inside_of low high S L i → false ≡ all_inside low high S L n
  one-outside i n l e = sym (every-not n i (inside_of low high S L) l (sym e))

  pub all_tested : (i n : ℕ) (r : Bool) → r ≡ all_inside low high S L i → i ≡ n → r ≡ all_inside low high S L n
  all_tested i n r e g = e ∙ ap (all_inside low high S L) g

-- ---- two tests that exclude each other

nothing : (x y : Bool) → (T x → T y → ⊥) → (x && y) ≡ false
nothing true true f = absurd (f tt tt)
nothing true false f = refl
nothing false y f = refl

-- ---- none, more, and others of the same pages

module _ (lo : ℕ) (m : List Bool) where
  pub adds_none : (f : ℕ → Bool) → ((i : ℕ) → i < length m → f (lo + i) ≡ false) → Adds lo f m m
  adds_none f none = record { same_length = refl; marks = λ i h. sym (or-false (get_or m i false)) ∙ ap (λ (x : Bool). get_or m i false || x) (sym (none i h)) }

  pub adds_same : (lo' : ℕ) (f g : ℕ → Bool) (m' : List Bool) → Adds lo' f m m' → ((i : ℕ) → i < length m → f (lo' + i) ≡ g (lo + i)) → Adds lo g m m'
  adds_same lo' f g m' a same = record { same_length = a.same_length; marks = λ i h. a.marks i h ∙ ap (λ (x : Bool). get_or m i false || x) (same i h) }

  pub adds-more : (f g : ℕ → Bool) (m' m'' : List Bool) → Adds lo f m m' → Adds lo g m' m'' → Adds lo (λ p. f p || g p) m m''
  adds-more f g m' m'' a b = record {
    same_length = b.same_length ∙ a.same_length;
    marks = λ i h. b.marks i (let e = a.same_length in omega arith) ∙ ap (λ (x : Bool). x || g (lo + i)) (a.marks i h) ∙ or_assoc (get_or m i false) (f (lo + i)) (g (lo + i));
  }

-- ---- pages from `from` to `to`, in marks that begin with that of page lo

module _ (lo from to : ℕ) (m m' : List Bool) where
  abbrev pages : ℕ → Bool
  pages p = leb from p && leb p to

  pub before-them : to < lo → Adds lo pages m m
  before-them l = adds_none lo m pages (λ i h. nothing (leb from (lo + i)) (leb (lo + i) to) (λ s t. let g = leb→le (lo + i) to t in let z : ⊥ = omega arith in z))

  -- a is the place of the first; e that after the last, or after the last mark of all
  module _ (a e : ℕ) (begins : a ≡ from - lo) (low : lo ≤ to) where
    both : (i : ℕ) → i < length m → ((i < e → lo + i ≤ to) × (lo + i ≤ to → i < e)) → (leb a i && ltb i e) ≡ pages (lo + i)
    both i h (right, left) = same_test (leb a i && ltb i e) (pages (lo + i))
        (λ t. let s = leb→le a i (and_l (leb a i) (ltb i e) t) in and_i (leb from (lo + i)) (leb (lo + i) to) (le→leb from (lo + i) (omega arith)) (le→leb (lo + i) to (right (ltb→lt i e (and_r (leb a i) (ltb i e) t)))))
        (λ t. let s = leb→le from (lo + i) (and_l (leb from (lo + i)) (leb (lo + i) to) t) in and_i (leb a i) (ltb i e) (le→leb a i (omega arith)) (lt→ltb i e (left (leb→le (lo + i) to (and_r (leb from (lo + i)) (leb (lo + i) to) t)))))

    pub up-to-them : e ≡ to - lo + 1 → Adds 0 (λ i. leb a i && ltb i e) m m' → Adds lo pages m m'
    up-to-them ends adds = adds_same lo m 0 (λ i. leb a i && ltb i e) pages m' adds (λ i h. rw (zero-add i) (both i h ((λ l. omega arith), (λ l. omega arith))))

    pub up-to-all : e ≡ length m → length m ≤ to - lo → Adds 0 (λ i. leb a i && ltb i e) m m' → Adds lo pages m m'
    up-to-all ends far adds = adds_same lo m 0 (λ i. leb a i && ltb i e) pages m' adds (λ i h. rw (zero-add i) (both i h ((λ l. omega arith), (λ l. omega arith))))

-- ---- those of one range after another

module _ (lo : ℕ) (S L : List ℕ) (m : List Bool) where
  pub none-added : Adds lo (touches S L 0) m m
  unfolding some
  none-added = adds_none lo m (touches S L 0) (λ i h. refl)

  pub one-added : (i s l : ℕ) (m' m'' : List Bool) → s ≡ get_or S i 0 / 4096 → l ≡ get_or L i 0 / 4096 → Adds lo (touches S L i) m m' → Adds lo (λ p. leb s p && leb p l) m' m'' → Adds lo (touches S L (i + 1)) m m''
  unfolding some
  one-added i s l m' m'' se le a b = rw add-one (adds-more lo m (touches S L i) (λ p. touches_at S L p i) m' m'' a (rw (se, le) at b))

  pub all-added : (i n : ℕ) (m' : List Bool) → Adds lo (touches S L i) m m' → i ≡ n → Adds lo (touches S L n) m m'
  all-added i n m' a g = rw g at a
