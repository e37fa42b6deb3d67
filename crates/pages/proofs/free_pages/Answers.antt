use Prim.Native.Nat.{ℕ}
use mathlib.Core.Path.{sym, ap, ◌∙◌}
use lib.Dec.{lit≤}
use Rattle.memory_allocator.specs.Names.{pool}
use Rattle.memory_allocator.specs.Promises.{free_of}
use Rattle.check_meaning.proofs.Owned.{owned-sized}
use Rattle.pages.proofs.Same.{free-same}
use Rattle.pages.proofs.free_pages.Goals as goal

pub returns : goal.returns
returns c =
    let start = c in
    c.free.ensures
    ∙ ap (λ (z : ℕ). free_of pool start.args.s start.args.address.0 z) c.freed_bytes.ensures
    ∙ sym (free-same pool (lit≤ tt) _ (owned-sized _ _ start.well_formed.0) _ _)
