-- The bytes of held ranges: what an entry adds to them, and that they fit. Assumes nothing.
use mathlib.Core.Path.{◌≡◌, refl, sym, ap, ◌∙◌, subst}
use mathlib.Core.Logic.{◌≢◌, ◌⊎◌, inl, inr}
use mathlib.Core.Bool.{Bool, true, false, cond, ◌&&◌, ◌||◌}
use mathlib.Core.List.{List, [], ◌∷◌}
use Prim.Native.Nat.{ℕ, zero, suc, ◌+◌, ◌-◌, ◌≤◌, ◌<◌}
use native.Mathlib.Omega.{arith}
use native.Mathlib.Numerals.{add-one}
use lib.Dec.{T, leb, leb→le, not_T, leb-suc-suc}
use lib.ListN.{length, get_or, drop, drop_of_length-le}
use lib.Seq.{drop-cons}
use Rattle.rules.specs.Rules.{top, Range, size, sum, any, holds, count}
use Rattle.rules.specs.Sound.{In, Pairwise}
use Rattle.rules_laws.proofs.Lists.{if, and_l, and_r, T_true, T_false, any→}
use Rattle.holder_rules.specs.Register.{blank, used, range_of, held, those}
use Rattle.holder_rules.specs.Sound.{Clear, Has, Held, SoundEntries}
use Rattle.holder_rules.specs.declared.Entry.{Entry}
use Rattle.holder_laws.proofs.Inserted.{in-those→}
use Rattle.holder_laws.proofs.Entered.{held-good}
use Rattle.holder_laws.proofs.Keeps.{no_byte, inside, inside→}
use Rattle.holder_laws.proofs.Bytes.{count-more}
use Rattle.holder_lists.specs.Whose.{concerns, found, belongs}
use Rattle.holder_lists.specs.declared.Whose.{Whose}

-- ---- the sum from number i on

module _ (w : Whose) (l : List Entry) (i : ℕ) (h : i < length l) where
  pub sum-on : sum (found w (drop i l)) ≡ cond (belongs w (get_or l i blank)) (size (range_of (get_or l i blank))) 0 + sum (found w (drop (i + 1) l))
  unfolding held those sum
  sum-on = ap (λ (m : List Entry). sum (found w m)) (drop-cons l i blank h) ∙ go (used (get_or l i blank)) ∙ ap (λ (k : ℕ). cond (belongs w (get_or l i blank)) (size (range_of (get_or l i blank))) 0 + sum (found w (drop k l))) (sym (add-one i))
    where
      go : (b : Bool) → sum (those (concerns w) (cond b (range_of (get_or l i blank) ∷ held (drop (suc i) l)) (held (drop (suc i) l))))
          ≡ cond (b && concerns w (range_of (get_or l i blank))) (size (range_of (get_or l i blank))) 0 + sum (found w (drop (suc i) l))
      go false = omega arith
      go true = if (concerns w (range_of (get_or l i blank))) (λ m. sum m ≡ cond (concerns w (range_of (get_or l i blank))) (size (range_of (get_or l i blank))) 0 + sum (found w (drop (suc i) l)))
          (λ t. rw (T_true (concerns w (range_of (get_or l i blank))) t))
          (λ t. rw (T_false (concerns w (range_of (get_or l i blank))) t) (omega arith))

pub sum-end : (w : Whose) (l : List Entry) (i : ℕ) → length l ≤ i → sum (found w (drop i l)) ≡ 0
unfolding held those sum
sum-end w l i h = ap (λ (m : List Entry). sum (found w m)) (drop_of_length-le l h)

-- ---- they fit

count-le : (m : ℕ) (p : ℕ → Bool) → count m p ≤ m
unfolding count
count-le zero p = omega arith
count-le (suc m) p = if (p m) (λ k. k + count m p ≤ suc m) (λ t. let i = count-le m p in omega arith) (λ t. let i = count-le m p in omega arith)

or-cond : (a b : Bool) → (a || b) ≡ cond a true b
or-cond true b = refl
or-cond false b = refl

count_none : (m : ℕ) → count m (λ x. false) ≡ 0
unfolding count
count_none zero = refl
count_none (suc m) = let i = count_none m in omega arith

sum-count : (l : List Range) → Pairwise Clear l → ((q : Range) → In q l → (q.start ≤ q.last) × (q.last < top)) → sum l ≡ count top (λ x. any (holds x) l)
unfolding sum any
sum-count [] h g = sym (count_none top)
sum-count (q ∷ l) h g =
    let b = g q (inl refl) in
    let i = sum-count l h.1 (λ p j. g p (inr j)) in
    let c = count-more q.start (suc q.last) (λ x. any (holds x) l) (λ x. holds x q || any (holds x) l) (omega arith) (λ x. either x) (λ x t. apart x t) top in
    omega arith
  where
    either : (x : ℕ) → (holds x q || any (holds x) l) ≡ cond (inside q.start (suc q.last) x) true (any (holds x) l)
    either x = rw (leb-suc-suc x q.last) (or-cond (leb q.start x && leb x q.last) (any (holds x) l))

    apart : (x : ℕ) → T (inside q.start (suc q.last) x) → any (holds x) l ≡ false
    apart x t = T_false (any (holds x) l) (not_T (any (holds x) l) (λ u.
        let v = any→ (holds x) l u in
        let o = inside→ q.start (suc q.last) x t in
        no_byte q v.0 (h.0 v.0 v.1) x (o.0, (let y = o.1 in omega arith)) (leb→le v.0.start x (and_l (leb v.0.start x) (leb x v.0.last) v.2), leb→le x v.0.last (and_r (leb v.0.start x) (leb x v.0.last) v.2))))

pub pairwise-those : (f : Range → Bool) (l : List Range) → Pairwise Clear l → Pairwise Clear (those f l)
unfolding those
pairwise-those f [] h = tt
pairwise-those f (q ∷ l) h = if (f q) (λ m. Pairwise Clear m) (λ t. (λ p i. h.0 p (in-those→ f l p i), pairwise-those f l h.1)) (λ t. pairwise-those f l h.1)

pub sum_fits : (w : Whose) (l : List Entry) → SoundEntries l → sum (found w l) ≤ top
sum_fits w l s =
    let e = sum-count (found w l) (pairwise-those (concerns w) (held l) s.apart) (λ q i. let g = held-good l s q (in-those→ (concerns w) (held l) q i) in (g.proper, g.below)) in
    let c = count-le top (λ x. any (holds x) (found w l)) in omega arith

-- a used entry has a byte, and ends below 2^63
pub entry-bounds : (l : List Entry) (i : ℕ) → i < length l → SoundEntries l → T (used (get_or l i blank)) → ((get_or l i blank).start.0 ≤ (get_or l i blank).last.0) × ((get_or l i blank).last.0 < top)
entry-bounds l i h s u = elim (s.good (get_or l i blank) (has l i h)) [
  | inl d ↦ absurd (subst (λ (x : Entry). T (used x)) d u)
  | inr g ↦ (g.proper, g.below)
]
  where
    has : (l : List Entry) (i : ℕ) → i < length l → Has (get_or l i blank) l
    has [] i h = absurd (let v : ⊥ = omega arith in v)
    has (q ∷ l) zero h = inl refl
    has (q ∷ l) (suc i) h = inr (has l i (omega arith))
