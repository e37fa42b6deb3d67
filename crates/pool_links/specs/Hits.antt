-- The answer of a search for a range. Assumes nothing.
use Rattle.std.specs.Prelude.{Option, Some, None}
use Rattle.std.proofs.Math.Option as found
use Rattle.rules.specs.Rules.{Range}
use Rattle.pool_state.specs.declared.RecordIndex.{RecordIndex}

-- the record of the range that was found
abbrev pub hit_of : found.Option Range → Option RecordIndex
hit_of found.none = None
hit_of (found.some r) = Some (record { 0 = r.number })
