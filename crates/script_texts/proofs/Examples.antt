-- The document's cases of bad lines, lines that are good, and texts of answers, by computation.
-- Assumes nothing.
use mathlib.Core.Path.{◌≡◌, refl}
use mathlib.Core.List.{List, [], ◌∷◌, map}
use Prim.Native.Nat.{ℕ}
use Rattle.script_lines.specs.Fields.{fields, digits, leads, value, number_of, numbers_of}
use Rattle.script_lines.specs.Forms.{spoken_in, line_in}
use Rattle.script_lines.specs.Script.{said, line_of}
use Rattle.script_texts.specs.Answers.{digits_in, digits_of, ending, ok_at, no_text, range_text, list_text}
use Rattle.script_lines.specs.declared.parse.Line.TheVariants as Say
use Rattle.script_texts.proofs.Round.{free, allocate, reserve}

-- empty; ` l`; `l `; `f 1  2`; `f<tab>1 2`; `l<CR>`; `l<NUL>`; `f +1 2`; `f -0 2`; `f 00 2`; `f 01 2`; `f 1`; `a 1 2 3`; `l 1`; `F 1 2`; `f 18446744073709551616 1`; `f 1 x`
abbrev bad : List (List ℕ)
bad =
    ([]) ∷
    (32 ∷ 108 ∷ []) ∷
    (108 ∷ 32 ∷ []) ∷
    (102 ∷ 32 ∷ 49 ∷ 32 ∷ 32 ∷ 50 ∷ []) ∷
    (102 ∷ 9 ∷ 49 ∷ 32 ∷ 50 ∷ []) ∷
    (108 ∷ 13 ∷ []) ∷
    (108 ∷ 0 ∷ []) ∷
    (102 ∷ 32 ∷ 43 ∷ 49 ∷ 32 ∷ 50 ∷ []) ∷
    (102 ∷ 32 ∷ 45 ∷ 48 ∷ 32 ∷ 50 ∷ []) ∷
    (102 ∷ 32 ∷ 48 ∷ 48 ∷ 32 ∷ 50 ∷ []) ∷
    (102 ∷ 32 ∷ 48 ∷ 49 ∷ 32 ∷ 50 ∷ []) ∷
    (102 ∷ 32 ∷ 49 ∷ []) ∷
    (97 ∷ 32 ∷ 49 ∷ 32 ∷ 50 ∷ 32 ∷ 51 ∷ []) ∷
    (108 ∷ 32 ∷ 49 ∷ []) ∷
    (70 ∷ 32 ∷ 49 ∷ 32 ∷ 50 ∷ []) ∷
    (102 ∷ 32 ∷ 49 ∷ 56 ∷ 52 ∷ 52 ∷ 54 ∷ 55 ∷ 52 ∷ 52 ∷ 48 ∷ 55 ∷ 51 ∷ 55 ∷ 48 ∷ 57 ∷ 53 ∷ 53 ∷ 49 ∷ 54 ∷ 49 ∷ 54 ∷ 32 ∷ 49 ∷ []) ∷
    (102 ∷ 32 ∷ 49 ∷ 32 ∷ 120 ∷ []) ∷ []

pub all-bad : map line_of bad ≡ map (λ (l : List ℕ). Say.Bad) bad
unfolding fields digits leads value number_of numbers_of said spoken_in line_in
all-bad = refl

-- `f 65536 65536`; `a 0 0`; `a 1 64`; `r 70000 100 12`; `f 18446744073709551615 1`; `l`
abbrev good : List (List ℕ)
good =
    (102 ∷ 32 ∷ 54 ∷ 53 ∷ 53 ∷ 51 ∷ 54 ∷ 32 ∷ 54 ∷ 53 ∷ 53 ∷ 51 ∷ 54 ∷ []) ∷
    (97 ∷ 32 ∷ 48 ∷ 32 ∷ 48 ∷ []) ∷
    (97 ∷ 32 ∷ 49 ∷ 32 ∷ 54 ∷ 52 ∷ []) ∷
    (114 ∷ 32 ∷ 55 ∷ 48 ∷ 48 ∷ 48 ∷ 48 ∷ 32 ∷ 49 ∷ 48 ∷ 48 ∷ 32 ∷ 49 ∷ 50 ∷ []) ∷
    (102 ∷ 32 ∷ 49 ∷ 56 ∷ 52 ∷ 52 ∷ 54 ∷ 55 ∷ 52 ∷ 52 ∷ 48 ∷ 55 ∷ 51 ∷ 55 ∷ 48 ∷ 57 ∷ 53 ∷ 53 ∷ 49 ∷ 54 ∷ 49 ∷ 53 ∷ 32 ∷ 49 ∷ []) ∷
    (108 ∷ []) ∷ []

pub all-good : map line_of good ≡ free 65536 65536 ∷ allocate 0 0 ∷ allocate 1 64 ∷ reserve 70000 100 12 ∷ free 18446744073709551615 1 ∷ Say.List ∷ []
unfolding fields digits leads value number_of numbers_of said spoken_in line_in
all-good = refl

-- `ok 65536`; `no 4`; `list 2 61440`; `65536 69631`; `ok 0`, each with its newline
pub texts : ok_at 65536 ∷ no_text 4 ∷ list_text 2 61440 ∷ range_text 65536 69631 ∷ ok_at 0 ∷ [] ≡
    (111 ∷ 107 ∷ 32 ∷ 54 ∷ 53 ∷ 53 ∷ 51 ∷ 54 ∷ 10 ∷ []) ∷
    (110 ∷ 111 ∷ 32 ∷ 52 ∷ 10 ∷ []) ∷
    (108 ∷ 105 ∷ 115 ∷ 116 ∷ 32 ∷ 50 ∷ 32 ∷ 54 ∷ 49 ∷ 52 ∷ 52 ∷ 48 ∷ 10 ∷ []) ∷
    (54 ∷ 53 ∷ 53 ∷ 51 ∷ 54 ∷ 32 ∷ 54 ∷ 57 ∷ 54 ∷ 51 ∷ 49 ∷ 10 ∷ []) ∷
    (111 ∷ 107 ∷ 32 ∷ 48 ∷ 10 ∷ []) ∷ []
unfolding digits_in digits_of ending
texts = refl
