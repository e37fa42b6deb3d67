-- Demands 2 and 3 as request T-07 reads them, of the calls by value: from the empty allocator of n records with no range held, after any list of calls. Assumes nothing.
use Prim.Native.Nat.{ℕ, ◌≤◌}
use Rattle.linked_lists.specs.Links.{none}
use Rattle.memory_allocator.specs.States.{states}
use Rattle.memory_allocator.proofs.Demand.{obeys}
use Rattle.holder_rules.specs.Register.{entries}
use Rattle.holder_laws.specs.Demand.{Demand}
use Rattle.holder_laws.proofs.Demand as laws

pub demand : (n : ℕ) → n ≤ none → Demand (states n) entries
demand n small = laws.demand (obeys n small) entries
