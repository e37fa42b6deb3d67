-- A line of the script after a first line `holders`: `o start size`, `a holder size order`, `r holder start size order`, `f holder start size`, `h holder`, `h`, `l`,
-- at most 80 bytes; any other line is bad. Assumes nothing.
use Rattle.std.specs.Prelude.{ℕ, cond, List, [], ◌∷◌, eqb, Option}
use Rattle.calls.specs.declared.Request.{Request}
use Rattle.calls.specs.declared.Request.TheVariants.{Free, Allocate, Reserve}
use Rattle.holder_lists.specs.declared.Whose.TheVariants.{All, One}
use Rattle.holder_serve.specs.declared.HolderRequest.TheVariants as asks
use Rattle.script_lines.specs.Forms.{spoken_in, line_in}
use Rattle.holder_lines.specs.declared.HolderLine.{HolderLine}
use Rattle.holder_lines.specs.declared.HolderLine.TheVariants as Say

-- a holder's call
abbrev pub by : ℕ → Request → HolderLine
by h q = Say.Asks (asks.By (record { 0 = h }) q)

-- a letter and its numbers: 97 is `a`, 102 `f`, 104 `h`, 108 `l`, 111 `o`, 114 `r`
unfoldable pub said : ℕ → List ℕ → HolderLine
said c [] = cond (eqb c 108) Say.List (cond (eqb c 104) (Say.Held All) Say.Bad)
said c (x ∷ []) = cond (eqb c 104) (Say.Held (One (record { 0 = x }))) Say.Bad
said c (x ∷ y ∷ []) = cond (eqb c 111) (Say.Asks (asks.Offer (record { 0 = x }) y)) Say.Bad
said c (x ∷ y ∷ z ∷ []) = cond (eqb c 102) (by x (Free (record { 0 = y }) z)) (cond (eqb c 97) (by x (Allocate y z)) Say.Bad)
said c (x ∷ y ∷ z ∷ w ∷ []) = cond (eqb c 114) (by x (Reserve (record { 0 = y }) z w)) Say.Bad
said c (x ∷ y ∷ z ∷ w ∷ v ∷ l) = Say.Bad

abbrev pub spoken : ℕ → Option (List ℕ) → HolderLine
spoken c ns = spoken_in said Say.Bad c ns

abbrev pub holder_line_of : List ℕ → HolderLine
holder_line_of l = line_in said Say.Bad l
