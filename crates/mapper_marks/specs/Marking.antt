-- A run over pages, each marked where it is met, that tells whether one was marked before, lies outside, or is one too many. Assumes nothing.
use Rattle.std.specs.Prelude.{Bool, true, false, not, cond, ◌&&◌, List, [], ◌∷◌, ℕ, ◌+◌, ◌-◌, leb, ltb, get_or, set}
use Rattle.mapper_laws.specs.Tree.{page_of, leads_to, joined, tables}
use Rattle.mapper_laws.specs.Arena.{shows}
use Rattle.mapper_marks.specs.declared.Limits.{Limits}

-- the mark of page p, in marks that begin with that of page lo; there is none elsewhere
abbrev pub is_marked_lem : ℕ → List Bool → ℕ → Bool
is_marked_lem lo m p = leb lo p && get_or m (p - lo) false

abbrev pub marked : ℕ → List Bool → ℕ → List Bool
marked lo m p = cond (leb lo p) (set m (p - lo) true) m

-- all is well so far; how many pages may still be met; and the marks
pub record Run : Type 0 where
  pub fine : Bool
  pub left : ℕ
  pub marks : List Bool

abbrev pub run : Bool → ℕ → List Bool → Run
run f n m = record { fine = f; left = n; marks = m }

-- one more may be met, it lies inside, and it is not marked
abbrev pub welcome : Limits → ℕ → Run → Bool
welcome x p s = ltb 0 s.left && (leb x.lowest p && (ltb p x.past && not (is_marked_lem x.lo s.marks p)))

unfoldable pub meet : Limits → ℕ → Run → Run
meet x p s = cond (s.fine && welcome x p s) (run true (s.left - 1) (marked x.lo s.marks p)) (run false s.left s.marks)

unfoldable pub meet_all : Limits → List ℕ → Run → Run
meet_all x [] s = s
meet_all x (p ∷ l) s = meet_all x l (meet x p s)

-- the pages of the tables that the descriptor d at height h leads to, in an arena whose first word has the number b
abbrev pub tables_at : ℕ → List ℕ → ℕ → ℕ → List ℕ
tables_at b A h d = tables page_of h (leads_to page_of (shows b A) h d)

-- and of those that the n entries from the word w on lead to
abbrev pub tables_in : ℕ → List ℕ → ℕ → ℕ → ℕ → List ℕ
tables_in b A h w n = joined n (λ j. tables_at b A h (shows b A (w + j)))
