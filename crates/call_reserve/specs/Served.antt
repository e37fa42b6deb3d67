-- The answer of a reservation, by what came of its piece. Assumes nothing.
use Rattle.std.specs.Prelude.{Result, Ok, Err}
use Rattle.calls.specs.Calls.{Answer}
use Rattle.calls.specs.declared.MemoryError.{MemoryError}

abbrev pub served_as : Result (Unit {0}) MemoryError → Answer
served_as (Ok u) = Ok (record { 0 = 0 })
served_as (Err e) = Err e
