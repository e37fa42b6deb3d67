-- Whose ranges are meant. Assumes nothing.
use Rattle.std.specs.Prelude.{Bool, true, ◌&&◌, List}
use Rattle.rules.specs.Rules.{Range}
use Rattle.holder_rules.specs.Register.{known, used, range_of, held, by_address, those, of_holder}
use Rattle.holder_rules.specs.declared.Entry.{Entry}
use Rattle.holder_lists.specs.declared.Whose.{Whose}
use Rattle.holder_lists.specs.declared.Whose.TheVariants.{All, One}

abbrev pub is_known_lem : Whose → Bool
is_known_lem All = true
is_known_lem (One h) = known h.0

abbrev pub concerns : Whose → Range → Bool
concerns All q = true
concerns (One h) q = of_holder h.0 q

-- the ranges, in the order of their entries, and by address
abbrev pub found : Whose → List Entry → List Range
found w r = those (concerns w) (held r)

abbrev pub ranges : Whose → List Entry → List Range
ranges w r = by_address (found w r)

-- a used entry, of these
abbrev pub belongs : Whose → Entry → Bool
belongs w e = used e && concerns w (range_of e)
