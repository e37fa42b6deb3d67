-- Pages that lie apart in every window lie apart. Assumes nothing.
use mathlib.Core.Path.{◌≡◌, refl, sym, ◌∙◌, ap}
use mathlib.Core.Logic.{inl, inr}
use mathlib.Core.Bool.{Bool, true, false, ◌&&◌}
use mathlib.Core.List.{List}
use Prim.Native.Nat.{ℕ, zero, suc, ◌+◌, ◌-◌, ◌*◌, ◌/◌, ◌<◌}
use native.Mathlib.Omega.{arith}
use native.Mathlib.Numerals.{add-one}
use lib.Dec.{T, leb, ltb, eqb, leb→le, ltb→lt, le→leb, lt→ltb, eqb→eq}
use lib.ListN.{length}
use Rattle.rules_laws.proofs.Lists.{and_i, and_l, and_r, same_test, T-or-not, neq}
use Rattle.mapper_laws.specs.Tree.{In}
use Rattle.mapper_laws.specs.Marks.{in_window, part, Marks, fine}
use Rattle.mapper_laws.proofs.Windows.{Fine, fine→, fine←}
use Rattle.mapper_free.specs.Free.{every}
use Rattle.mapper_free.proofs.Painting.{every-not}
use Rattle.mapper_tables.specs.Apart.{inside_all, apart, window, apart_in, apart_up_to, windows}
use Rattle.mapper_tables.proofs.Pages.{inside-in, few-pages, in-part→, in-part←, once-part, once_by}

every_one : (n : ℕ) (f : ℕ → Bool) → T (every n f) → (i : ℕ) → i < n → T (f i)
unfolding every
every_one zero f t i h = absurd (let z : ⊥ = omega arith in z)
every_one (suc n) f t i h = elim (T-or-not (eqb i n)) [
  | inl e ↦ rw (eqb→eq i n e) (and_r (every n f) (f n) t)
  | inr e ↦ let d = neq i n e in every_one n f (and_l (every n f) (f n) t) i (omega arith)
]

each-one : (n : ℕ) (f : ℕ → Bool) → ((i : ℕ) → i < n → T (f i)) → T (every n f)
unfolding every
each-one zero f h = tt
each-one (suc n) f h = and_i (every n f) (f n) (each-one n f (λ i l. h i (omega arith))) (h n (omega arith))

module _ (low high : ℕ) (f : ℕ → Bool) (l : List ℕ) where
  abbrev M : Marks
  M = record { at = f }

  abbrev at : ℕ → ℕ
  at i = low + i * window

  -- ---- from the windows to the whole

  module _ (all : T (apart_up_to low high f l (windows low high))) where
    told : (i : ℕ) → i < windows low high → T (apart_in low high f l (at i))
    told i h = every_one (windows low high) (λ i. apart_in low high f l (at i)) all i h

    lies : (i : ℕ) → i < windows low high → T (inside_all low high l && fine (part (at i) window l) M)
    unfolding apart_in
    lies i h = and_r (leb (length l) (high - low)) (inside_all low high l && fine (part (at i) window l) M) (told i h)

    in_all : T (inside_all low high l)
    in_all = and_l (inside_all low high l) (fine (part (at 0) window l) M) (lies 0 (omega arith))

    fine-at : (i : ℕ) → i < windows low high → Fine (part (at i) window l) M
    fine-at i h = fine→ (part (at i) window l) M (and_r (inside_all low high l) (fine (part (at i) window l) M) (lies i h))

    -- the window of a page
    abbrev number : ℕ → ℕ
    number p = (p - low) / window

    few : (p : ℕ) → In p l → number p < windows low high
    few p i =
        let t = inside-in low high l in_all p i in
        let a = leb→le low p (and_l (leb low p) (ltb p high) t) in
        let b = ltb→lt p high (and_r (leb low p) (ltb p high) t) in
        omega arith

    own : (p : ℕ) → In p l → T (in_window (at (number p)) window p)
    own p i =
        let t = inside-in low high l in_all p i in
        let a = leb→le low p (and_l (leb low p) (ltb p high) t) in
        and_i (leb (at (number p)) p) (ltb p (at (number p) + window)) (le→leb (at (number p)) p (omega arith)) (lt→ltb p (at (number p) + window) (omega arith))

    pub whole : T (apart low high f l)
    unfolding apart
    whole = and_i (inside_all low high l) (fine l M) in_all (fine← l M (record {
      once = once_by window l (λ p i. (at (number p), own p i, (fine-at (number p) (few p i)).once));
      fresh = λ p i. (fine-at (number p) (few p i)).fresh p (in-part← (at (number p)) window p l (own p i) i);
    }))

  -- ---- and back

  module _ (whole : T (apart low high f l)) where
    inside-all : T (inside_all low high l)
    unfolding apart
    inside-all = and_l (inside_all low high l) (fine l M) whole

    is-fine : Fine l M
    unfolding apart
    is-fine = fine→ l M (and_r (inside_all low high l) (fine l M) whole)

    pub in-windows : (k : ℕ) → T (apart_up_to low high f l k)
    unfolding apart_in
    in-windows k = each-one k (λ i. apart_in low high f l (at i)) (λ i h.
        and_i (leb (length l) (high - low)) (inside_all low high l && fine (part (at i) window l) M) (le→leb (length l) (high - low) (few-pages low high l is-fine.once inside-all))
        (and_i (inside_all low high l) (fine (part (at i) window l) M) inside-all (fine← (part (at i) window l) M (record {
          once = once-part (at i) window l is-fine.once;
          fresh = λ p j. is-fine.fresh p (in-part→ (at i) window p l j);
        }))))

  pub in-all-windows : (k : ℕ) (r : Bool) → r ≡ apart_up_to low high f l k → k ≡ windows low high → r ≡ apart low high f l
  in-all-windows k r e g =
      e ∙ ap (apart_up_to low high f l) g ∙ same_test (apart_up_to low high f l (windows low high)) (apart low high f l) whole (λ w. in-windows w (windows low high))

  pub no-window : true ≡ apart_up_to low high f l 0
  unfolding every
  no-window = refl

  pub one-window : (k : ℕ) → true ≡ apart_up_to low high f l k → true ≡ apart_in low high f l (at k) → true ≡ apart_up_to low high f l (k + 1)
  unfolding every
  one-window k all one = one ∙ rw (add-one, ← all)

  pub window-not : (k n : ℕ) → k < n → false ≡ apart_in low high f l (at k) → false ≡ apart_up_to low high f l n
  window-not k n h e = sym (every-not n k (λ i. apart_in low high f l (at i)) h (sym e))
