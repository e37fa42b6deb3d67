-- The pages of a top table, one after another, and the run over all tables in a window. Assumes nothing.
use mathlib.Core.Path.{◌≡◌, refl, ◌∙◌, ap}
use mathlib.Core.Bool.{Bool, true, false, ◌&&◌, ◌||◌}
use mathlib.Core.List.{List, ◌++◌}
use Prim.Native.Nat.{ℕ, zero, suc, ◌+◌, ◌-◌, ◌<◌}
use native.Mathlib.Omega.{arith}
use native.Mathlib.Nat.{add-zero}
use native.Mathlib.Numerals.{add-one}
use lib.ListN.{length, get_or}
use Rattle.mapper_laws.specs.Tree.{joined}
use Rattle.mapper_laws.specs.Marks.{Marks, part, fine}
use lib.Dec.{leb}
use Rattle.mapper_marks.specs.declared.Limits.{Limits}
use Rattle.mapper_marks.specs.Marking.{Run, run, meet, meet_all}
use Rattle.mapper_marks.proofs.Meeting.{meet-more}
use Rattle.mapper_free.specs.Free.{Adds}
use Rattle.mapper_tables.specs.Apart.{inside_all, window, apart_in}
use Rattle.mapper_tables.specs.Reached.{pages_from}
use Rattle.mapper_tables.proofs.Windows.{Shown, window-run}

module _ (x : Limits) where
  pub one-page : (p : ℕ) (s : Run) → meet x p s ≡ meet_all x (pages_from p 1) s
  unfolding meet_all joined
  one-page p s = rw add-zero

  pub no-page : (p : ℕ) (s : Run) → s ≡ meet_all x (pages_from p 0) s
  unfolding meet_all joined
  no-page p s = refl

  next-page : (p k : ℕ) → pages_from p k ++ pages_from (p + k) 1 ≡ pages_from p (k + 1)
  unfolding joined
  next-page p k = rw (add-zero, add-one)

  pub page-more : (p k : ℕ) (s a r : Run) → a ≡ meet_all x (pages_from p k) s → r ≡ meet x (p + k) a → r ≡ meet_all x (pages_from p (k + 1)) s
  page-more p k s a r ae re = re ∙ one-page (p + k) a ∙ ap (meet_all x (pages_from (p + k) 1)) ae ∙ meet-more x (pages_from p k) (pages_from (p + k) 1) s ∙ ap (λ (l : List ℕ). meet_all x l s) (next-page p k)

  pub pages-all : (p k n : ℕ) (s r : Run) → r ≡ meet_all x (pages_from p k) s → k ≡ n → r ≡ meet_all x (pages_from p n) s
  pages-all p k n s r e g = e ∙ ap (λ (i : ℕ). meet_all x (pages_from p i) s) g

  one-told : (p n' : ℕ) (m' : List Bool) → run false n' m' ≡ meet x p (run false n' m')
  unfolding meet
  one-told p n' m' = refl

  -- what was told stays so, whatever comes after
  pub pages-told : (p : ℕ) (s : Run) (m j k n' : ℕ) (m' : List Bool) → k ≡ j + m → run false n' m' ≡ meet_all x (pages_from p j) s → run false n' m' ≡ meet_all x (pages_from p k) s
  pages-told p s zero j k n' m' g e = pages-all p j k s (run false n' m') e (omega arith)
  pages-told p s (suc m) j zero n' m' g e = absurd (let z : ⊥ = omega arith in z)
  pages-told p s (suc m) j (suc k) n' m' g e =
      pages-all p (k + 1) (suc k) s (run false n' m')
      (page-more p k s (run false n' m') (run false n' m') (pages-told p s m j k n' m' (omega arith) e) (one-told (p + k) n' m')) (add-one k)

  -- m₀ has no mark; m those of f in the window
  pub window-told : (f : ℕ → Bool) (a b : List ℕ) (m₀ m m₁ m₂ : List Bool) (n₁ n₂ : ℕ) (c r : Bool) → length m₀ ≡ window → ((i : ℕ) → i < length m₀ → get_or m₀ i false ≡ false) → Adds x.lo f m₀ m
      → run c n₁ m₁ ≡ meet_all x a (run true (x.past - x.lowest) m) → run r n₂ m₂ ≡ meet_all x b (run c n₁ m₁) → r ≡ apart_in x.lowest x.past f (a ++ b) x.lo
  unfolding apart_in
  window-told f a b m₀ m m₁ m₂ n₁ n₂ c r len none adds tops below =
      let n = x.past - x.lowest in
      let M : Marks = record { at = f } in
      let shown : Shown x.lo m M = record { each = λ i h. let e = adds.same_length in let h' : i < length m₀ = omega arith in adds.marks i h' ∙ ap (λ (y : Bool). y || f (x.lo + i)) (none i h') } in
      ap (λ (s : Run). s.fine) (below ∙ ap (meet_all x b) tops ∙ meet-more x a b (run true n m))
      ∙ window-run x (a ++ b) n m M shown
      ∙ ap (λ (k : ℕ). leb (length (a ++ b)) n && (inside_all x.lowest x.past (a ++ b) && fine (part x.lo k (a ++ b)) M)) (adds.same_length ∙ len)
