-- A list of calls in words: four words a call, its kind first. Assumes nothing.
use Rattle.std.specs.Prelude.{ℕ, Bool, true, false, cond, List, [], ◌∷◌, eqb, get_or, Option, Some, None}
use Rattle.rules.specs.Rules as rules
use Rattle.rules.specs.Rules.{Book, step, refused}
use Rattle.calls.specs.Calls.{call_of}
use Rattle.calls.specs.declared.Request.{Request}
use Rattle.calls.specs.declared.Request.TheVariants.{Allocate, Reserve, Free}
use Rattle.batch.specs.declared.Words.{Words}

-- a call in words asks for a request, or for nothing that is known
abbrev pub Asked : Type 0
Asked = Option Request

-- what a kind and three numbers ask for; a number that the call has not is not looked at
abbrev pub asked_of : ℕ → ℕ → ℕ → ℕ → Asked
asked_of kind x y z =
    cond (eqb kind 1) (Some (Free (record { 0 = x }) y))
    (cond (eqb kind 2) (Some (Allocate x y))
    (cond (eqb kind 3) (Some (Reserve (record { 0 = x }) y z)) None))

-- the words of a request
abbrev pub words_of_lem : Request → List ℕ
words_of_lem (Free a z) = 1 ∷ a.0 ∷ z ∷ 0 ∷ []
words_of_lem (Allocate z o) = 2 ∷ z ∷ o ∷ 0 ∷ []
words_of_lem (Reserve a z o) = 3 ∷ a.0 ∷ z ∷ o ∷ []

abbrev pub asked_by_lem : Words → Asked
asked_by_lem w = asked_of w.kind w.x w.y w.z

-- the calls of a list of words; fewer than four words are none
unfoldable pub asked : List ℕ → List Asked
asked [] = []
asked (kind ∷ []) = []
asked (kind ∷ x ∷ []) = []
asked (kind ∷ x ∷ y ∷ []) = []
asked (kind ∷ x ∷ y ∷ z ∷ l) = asked_of kind x y z ∷ asked l

-- the one at a place; past the list, none is known
abbrev pub asked_at_lem : List ℕ → ℕ → Asked
asked_at_lem l k = get_or (asked l) k None

-- no word is left over
unfoldable pub whole : List ℕ → Bool
whole [] = true
whole (kind ∷ []) = false
whole (kind ∷ x ∷ []) = false
whole (kind ∷ x ∷ y ∷ []) = false
whole (kind ∷ x ∷ y ∷ z ∷ l) = whole l

-- the rule of what is asked for; an unknown kind is refused with 4
abbrev pub rule_of : ℕ → Asked → Book → rules.Answer
rule_of n (Some q) = step n (call_of q)
rule_of n None = refused 4
