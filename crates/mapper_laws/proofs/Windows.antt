-- A list has no number twice if it has none twice in any window of w numbers; and marks tell. Assumes nothing.
use mathlib.Core.Path.{◌≡◌, refl, sym, ◌∙◌, ap, subst}
use mathlib.Core.Logic.{inl, inr}
use mathlib.Core.Bool.{Bool, true, false, not, cond, ◌&&◌}
use mathlib.Core.List.{List, [], ◌∷◌, ◌++◌}
use Prim.Native.Nat.{ℕ, ◌+◌, ◌*◌, ◌/◌, ◌<◌}
use native.Mathlib.Omega.{arith}
use native.Mathlib.Nat.{div-add-mod', mod-lt, div-lt_iff_lt-mul}
use lib.Dec.{T, leb, ltb, eqb, le→leb, lt→ltb, eqb→eq, eqb_refl}
use Rattle.rules_laws.proofs.Lists.{if, and_l, and_r, and_i, T-no, T-or-not, T_true, T_false}
use Rattle.mapper_laws.specs.Tree.{In, Once}
use Rattle.mapper_laws.specs.Marks.{in_window, part, Marks, marking, fine, marks}

in-part : (lo w p : ℕ) (l : List ℕ) → T (in_window lo w p) → In p l → In p (part lo w l)
unfolding part
in-part lo w p [] t x'' = elim x'' [ ]
in-part lo w p (x ∷ l) t (inl e) = if (in_window lo w x) (λ m. In p m) (λ _. inl e) (λ f. absurd (T-no (in_window lo w x) f (subst (λ (y : ℕ). T (in_window lo w y)) e t)))
in-part lo w p (x ∷ l) t (inr i) = if (in_window lo w x) (λ m. In p m) (λ _. inr (in-part lo w p l t i)) (λ _. in-part lo w p l t i)

module _ (w n : ℕ) (some : 0 < w) where
  pub once-by-windows : (l : List ℕ) → ((p : ℕ) → In p l → p < n * w) → ((k : ℕ) → k < n → Once (part (k * w) w l)) → Once l
  unfolding Once part
  once-by-windows [] all ok = tt
  once-by-windows (x ∷ l) all ok = (
    λ i. let k = x / w in
        let few : k < n = (div-lt_iff_lt-mul {k = w} {x = x} {y = n} some).1 (all x (inl refl)) in
        let d = div-add-mod' x w in
        let r = mod-lt x some in
        let here : T (in_window (k * w) w x) = and_i (leb (k * w) x) (ltb x (k * w + w)) (le→leb (k * w) x (omega arith)) (lt→ltb x (k * w + w) (omega arith)) in
        (rw (T_true (in_window (k * w) w x) here) at (ok k few)).0 (in-part (k * w) w x l here i),
    once-by-windows l (λ p i. all p (inr i)) (λ k few. if (in_window (k * w) w x) (λ m. Once m → Once (part (k * w) w l)) (λ _ o. o.1) (λ _ o. o) (ok k few)),
  )

-- ---- marks of one window
pub fine-append : (a b : List ℕ) (m : Marks) → fine (a ++ b) m ≡ (fine a m && fine b (marks a m))
unfolding fine marks
fine-append [] b m = refl
fine-append (p ∷ a) b m = ap (λ (c : Bool). not (m.at p) && c) (fine-append a b (marking p m)) ∙ sym (and_assoc (not (m.at p)) (fine a (marking p m)) (fine b (marks a (marking p m))))
  where
    and_assoc : (x y z : Bool) → ((x && y) && z) ≡ (x && (y && z))
    and_assoc true y z = refl
    and_assoc false y z = refl

-- a fine list has no number twice, and none that was marked
pub record Fine (l : List ℕ) (m : Marks) : Type 0 where
  pub once : Once l
  pub fresh : (p : ℕ) → In p l → T (not (m.at p))

pub fine→ : (l : List ℕ) (m : Marks) → T (fine l m) → Fine l m
unfolding fine Once
fine→ [] m t = record { once = tt; fresh = λ p i. absurd i }
fine→ (x ∷ l) m t =
    let r = fine→ l (marking x m) (and_r (not (m.at x)) (fine l (marking x m)) t) in
    record {
      once = (λ i. T-no (cond (eqb x x) true (m.at x)) (r.fresh x i) (rw (T_true (eqb x x) (eqb_refl x)) tt), r.once);
      fresh = λ p i. elim i [
        | inl e ↦ subst (λ (y : ℕ). T (not (m.at y))) (sym e) (and_l (not (m.at x)) (fine l (marking x m)) t)
        | inr j ↦ unmarked p x m (r.fresh p j)
      ];
    }
  where
    unmarked : (p x : ℕ) (m : Marks) → T (not (cond (eqb p x) true (m.at p))) → T (not (m.at p))
    unmarked p x m = if (eqb p x) (λ c. T (not c) → T (not (m.at p))) (λ _ f. absurd f) (λ _ f. f)

pub fine← : (l : List ℕ) (m : Marks) → Fine l m → T (fine l m)
unfolding fine Once
fine← [] m f = tt
fine← (x ∷ l) m f = and_i (not (m.at x)) (fine l (marking x m)) (f.fresh x (inl refl)) (fine← l (marking x m) (record {
  once = f.once.1;
  fresh = λ p i. elim (T-or-not (eqb p x)) [
    | inl e ↦ absurd (f.once.0 (subst (λ (y : ℕ). In y l) (eqb→eq p x e) i))
    | inr e ↦ rw (T_false (eqb p x) e) (f.fresh p (inr i))
  ];
}))
