use Prim.Native.Nat.{ℕ}
use mathlib.Core.Path.{sym, ap, ◌∙◌}
use lib.Dec.{lit≤}
use Rattle.memory_allocator.specs.Names.{pool}
use Rattle.memory_allocator.specs.Promises.{allocate_of}
use Rattle.check_meaning.proofs.Owned.{owned-sized}
use Rattle.pages.specs.Pages.{bytes_of_lem}
use Rattle.pages.proofs.Same.{allocate-same}
use Rattle.pages.proofs.allocate_pages.Goals as goal

pub returns : goal.returns
returns c =
    let raised = c in
    let counted = raised in
    let start = counted in
    c.allocate.ensures
    ∙ ap (λ (z : ℕ). allocate_of pool start.args.s z raised.raised_order.result) counted.bytes_of.ensures
    ∙ ap (λ (o : ℕ). allocate_of pool start.args.s (bytes_of_lem start.args.count) o) raised.raised_order.ensures
    ∙ sym (allocate-same pool (lit≤ tt) _ (owned-sized _ _ start.well_formed.0) _ _)
