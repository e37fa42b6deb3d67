use mathlib.Core.Bool.{not}
use mathlib.Core.Path.{ap}
use native.Mathlib.Omega.{arith}
use mathlib.Core.Path.{sym, ◌∙◌}
use borrow.Author.Tests.{not-false}
use Rattle.journal_blocks.proofs.Ways.{known-length, unknown-call, wrong-length, a_call}
use Rattle.journal_blocks.proofs.reading.read_whole.Goals as goal

pub slice_bounds-read_be-end : goal.slice_bounds-read_be-end
slice_bounds-read_be-end c =
    omega (arith, known-length c.args.size c.requires.0, c.requires.1)

pub returns-then-not-is_kind : goal.returns-then-not-is_kind
returns-then-not-is_kind c =
    unknown-call _ _ c.args.block.now _ c.read_be-kind.ensures.value _ c.is_kind.ensures (ap not c.if-not-is_kind.true)

pub returns-then-size-length_of : goal.returns-then-size-length_of
returns-then-size-length_of c =
    wrong-length _ _ c.args.block.now _ c.read_be-kind.ensures.value _ c.is_kind.ensures (ap not c.if-not-is_kind.false) _ c.length_of.ensures c.if-size-length_of.true

pub entry_in-entry-requires : goal.entry_in-entry-requires
entry_in-entry-requires c =
    record {
      kind_in_bounds = omega (arith, c.length_of.ensures, c.if-size-length_of.false, c.requires.1);
      kind_value = sym c.is_kind.ensures ∙ not-false _ (ap not c.if-not-is_kind.false);
    }

pub returns : goal.returns
returns c =
    a_call _ _ c.args.block.now _ c.read_be-kind.ensures.value _ c.is_kind.ensures (ap not c.if-not-is_kind.false) _ c.length_of.ensures
    c.if-size-length_of.false _ c.entry_in-entry.ensures
