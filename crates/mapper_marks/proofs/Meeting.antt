-- A run over pages, on each way through. Assumes nothing.
use mathlib.Core.Path.{◌≡◌, refl, sym, ◌∙◌, ap}
use mathlib.Core.Logic.{◌≢◌}
use mathlib.Core.Bool.{Bool, true, false}
use mathlib.Core.List.{List, [], ◌∷◌, ◌++◌}
use Prim.Native.Nat.{ℕ, zero, suc, ◌+◌, ◌-◌, ◌*◌, ◌%◌, ◌≤◌, ◌<◌}
use native.Mathlib.Omega.{arith}
use native.Mathlib.Nat.{mod-eq_of_lt}
use native.Mathlib.Numerals.{add-one}
use lib.Dec.{ltb}
use borrow.Author.Tests.{lt-ltb, le-ltb, le-leb, lt-leb}
use Rattle.mapper_rules.specs.Walk.{is_table_lem}
use Rattle.mapper_laws.specs.Tree.{page_of, leads_to, joined, tables}
use Rattle.mapper_laws.specs.Arena.{shows}
use Rattle.mapper_laws.proofs.Once.{joined_same}
use Rattle.mapper_marks.specs.declared.Limits.{Limits}
use Rattle.mapper_marks.specs.Marking.{is_marked_lem, marked, Run, run, meet, meet_all, tables_at, tables_in}

-- ---- one page

module _ (x : Limits) (p n : ℕ) (m : List Bool) where
  pub no_room : n ≡ 0 → run false n m ≡ meet x p (run true n m)
  unfolding meet
  no_room e = rw e

  module _ (room : n ≢ 0) where
    some : ltb 0 n ≡ true
    some = lt-ltb 0 n (omega arith)

    pub too-low : p < x.lowest → run false n m ≡ meet x p (run true n m)
    unfolding meet
    too-low l = rw (some, lt-leb x.lowest p l)

    pub too-high : x.lowest ≤ p → x.past ≤ p → run false n m ≡ meet x p (run true n m)
    unfolding meet
    too-high l h = rw (some, le-leb x.lowest p l, le-ltb p x.past h)

    pub met-before : x.lowest ≤ p → p < x.past → is_marked_lem x.lo m p ≡ true → run false n m ≡ meet x p (run true n m)
    unfolding meet
    met-before l h e = rw (some, le-leb x.lowest p l, lt-ltb p x.past h, e)

    pub met-first : x.lowest ≤ p → p < x.past → is_marked_lem x.lo m p ≡ false → (m' : List Bool) → m' ≡ marked x.lo m p → run true (n - 1) m' ≡ meet x p (run true n m)
    unfolding meet
    met-first l h e m' g = ap (run true (n - 1)) g ∙ rw (some, le-leb x.lowest p l, lt-ltb p x.past h, e)

-- ---- many pages

module _ (x : Limits) where
  pub meet-more : (k l : List ℕ) (s : Run) → meet_all x l (meet_all x k s) ≡ meet_all x (k ++ l) s
  unfolding meet_all
  meet-more [] l s = refl
  meet-more (p ∷ k) l s = meet-more k l (meet x p s)

  pub told-before : (l : List ℕ) (n : ℕ) (m : List Bool) → run false n m ≡ meet_all x l (run false n m)
  unfolding meet_all meet
  told-before [] n m = refl
  told-before (p ∷ l) n m = told-before l n m

  module _ (b : ℕ) (A : List ℕ) where
    pub at-page : (h d : ℕ) (s : Run) → h ≡ 0 → s ≡ meet_all x (tables_at b A h d) s
    unfolding meet_all tables
    at-page h d s z = rw z

    pub at_other : (h d : ℕ) (s : Run) → h ≢ 0 → is_table_lem d ≡ false → s ≡ meet_all x (tables_at b A h d) s
    unfolding meet_all tables leads_to
    at_other zero d s n t = absurd (n refl)
    at_other (suc h) d s n t = rw t

    pub at_table : (h d p : ℕ) (s a r : Run) → h ≢ 0 → is_table_lem d ≡ true → p ≡ page_of d → a ≡ meet x p s
        → r ≡ meet_all x (tables_in b A (h - 1) (512 * p) 512) a → r ≡ meet_all x (tables_at b A h d) s
    unfolding meet_all tables leads_to
    at_table zero d p s a r n t g ea er = absurd (n refl)
    at_table (suc h) d p s a r n t g ea er =
        er ∙ ap (λ (i : ℕ). meet_all x (tables_in b A i (512 * p) 512) a) (let z : suc h - 1 ≡ h = omega arith in z) ∙ ap (meet_all x (tables_in b A h (512 * p) 512)) ea
        ∙ rw (t, g) (ap (λ (l : List ℕ). meet_all x l (meet x (page_of d) s)) (joined_same 512 (λ j. tables_at b A h (shows b A (512 * page_of d + j)))
        (λ j. tables_at b A h (shows b A (512 * page_of d + j % 512)))
        (λ j l. ap (λ (i : ℕ). tables_at b A h (shows b A (512 * page_of d + i))) (sym (mod-eq_of_lt l)))))

    -- ---- one entry after another

    module _ (h w : ℕ) (s : Run) where
      pub none_yet : s ≡ meet_all x (tables_in b A h w 0) s
      unfolding meet_all joined
      none_yet = refl

      -- what was told stays so, whatever comes after
      pub told_all : (m j k n' : ℕ) (m' : List Bool) → k ≡ j + m → run false n' m' ≡ meet_all x (tables_in b A h w j) s → run false n' m' ≡ meet_all x (tables_in b A h w k) s
      unfolding joined
      told_all zero j k n' m' g e = let z : j ≡ k = omega arith in e ∙ ap (λ (i : ℕ). meet_all x (tables_in b A h w i) s) z
      told_all (suc m) j zero n' m' g e = absurd (let z : ⊥ = omega arith in z)
      told_all (suc m) j (suc k) n' m' g e =
          told-before (tables_at b A h (shows b A (w + k))) n' m'
          ∙ ap (meet_all x (tables_at b A h (shows b A (w + k)))) (told_all m j k n' m' (omega arith) e)
          ∙ meet-more (tables_in b A h w k) (tables_at b A h (shows b A (w + k))) s

      pub one_more : (j d : ℕ) (a r : Run) → d ≡ shows b A (w + j) → a ≡ meet_all x (tables_in b A h w j) s → r ≡ meet_all x (tables_at b A h d) a → r ≡ meet_all x (tables_in b A h w (j + 1)) s
      unfolding joined
      one_more j d a r de ae re = re ∙ rw (de, ae, add-one) (meet-more (tables_in b A h w j) (tables_at b A h (shows b A (w + j))) s)

      pub all-met : (j n : ℕ) (r : Run) → r ≡ meet_all x (tables_in b A h w j) s → j ≡ n → r ≡ meet_all x (tables_in b A h w n) s
      all-met j n r k g = k ∙ ap (λ (i : ℕ). meet_all x (tables_in b A h w i) s) g
