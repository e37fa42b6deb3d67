-- A line of the script: `f start size`, `a size order`, `r start size order`, `l`, at most 80 bytes; any other line is bad.
use Rattle.std.specs.Prelude.{ℕ, cond, List, [], ◌∷◌, eqb, Option}
use Rattle.calls.specs.declared.Request.TheVariants as asks
use Rattle.script_lines.specs.Forms.{spoken_in, line_in}
use Rattle.script_lines.specs.declared.parse.Line.{Line}
use Rattle.script_lines.specs.declared.parse.Line.TheVariants as Say

-- a letter and its numbers: 97 is `a`, 102 `f`, 108 `l`, 114 `r`
unfoldable pub said : ℕ → List ℕ → Line
said c [] = cond (eqb c 108) Say.List Say.Bad
said c (x ∷ []) = Say.Bad
said c (x ∷ y ∷ []) = cond (eqb c 102) (Say.Asks (asks.Free (record { 0 = x }) y)) (cond (eqb c 97) (Say.Asks (asks.Allocate x y)) Say.Bad)
said c (x ∷ y ∷ z ∷ []) = cond (eqb c 114) (Say.Asks (asks.Reserve (record { 0 = x }) y z)) Say.Bad
said c (x ∷ y ∷ z ∷ w ∷ l) = Say.Bad

abbrev pub spoken : ℕ → Option (List ℕ) → Line
spoken c ns = spoken_in said Say.Bad c ns

abbrev pub line_of : List ℕ → Line
line_of l = line_in said Say.Bad l
