-- What is promised of the register by value; `crates/promises/proofs/Holders.antt` shows each sentence. n is the number of records. Assumes nothing.
use Rattle.std.specs.Prelude.{ℕ}
use Rattle.memory_allocator.specs.States.{states}
use Rattle.holder_rules.specs.Register.{entries}
use Rattle.holder_laws.specs.Demand.{Demand, Grows}

pub record HolderPromises (n : ℕ) : Type 0 where
  -- demands 2 and 3 as request T-07 reads them, from nothing free and nothing held
  pub books-close : Demand (states n) entries
  -- from any sound state on, total and held bytes grow by exactly the accepted offers
  pub grows : Grows (states n) entries
