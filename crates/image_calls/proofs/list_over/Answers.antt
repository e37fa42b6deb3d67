use mathlib.Core.Path.{sym, ◌∙◌}
use Rattle.image_parts.specs.Layout.{current}
use Rattle.image_calls.proofs.Lists.{no-list}
use Rattle.image_calls.proofs.list_over.Goals as goal

pub read_current-readable-requires : goal.read_current-readable-requires
read_current-readable-requires c =
    c.new-ranges.ensures

pub serve_held-requires : goal.serve_held-requires
serve_held-requires c =
    let reads = c in
    let read = reads.read_current-readable.ensures in
    record { serves = sym read.told ∙ reads.if-readable.true; state = read.state reads.if-readable.true }

pub returns : goal.returns
returns c =
    no-list current _ _ _ (sym c.read_current-readable.ensures.told ∙ c.if-readable.false)
