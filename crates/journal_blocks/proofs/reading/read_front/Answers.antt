use mathlib.Core.Bool.{not}
use mathlib.Core.Path.{ap}
use native.Mathlib.Omega.{arith}
use mathlib.Core.Path.{sym, ◌∙◌}
use borrow.Author.Tests.{not-false}
use Rattle.journal_blocks.proofs.Ways.{one_byte, no_length, cut_off, all_there}
use Rattle.journal_blocks.proofs.reading.read_front.Goals as goal

pub returns-then-bytes-lt-KIND : goal.returns-then-bytes-lt-KIND
returns-then-bytes-lt-KIND c =
    one_byte _ _ c.requires.0 c.if-bytes-lt-KIND.true

pub returns-then-not-is_length : goal.returns-then-not-is_length
returns-then-not-is_length c =
    let told = c in
    let read = told in
    let some = read in
    no_length _ some.args.bytes.now _ read.read_be-size.ensures.value some.if-bytes-lt-KIND.false _ told.is_length.ensures (ap not c.if-not-is_length.true)

pub returns-then-bytes-size : goal.returns-then-bytes-size
returns-then-bytes-size c =
    let known = c in
    let read = known in
    let some = read in
    cut_off _ some.args.bytes.now _ read.read_be-size.ensures.value some.if-bytes-lt-KIND.false _ known.is_length.ensures (ap not known.if-not-is_length.false) c.if-bytes-size.true

pub read_whole-requires : goal.read_whole-requires
read_whole-requires c =
    let known = c in
    let some = known in
    let s = some in
    (sym known.is_length.ensures ∙ not-false _ (ap not known.if-not-is_length.false), omega (arith, c.if-bytes-size.false, some.if-bytes-lt-KIND.false), s.requires.1)

pub returns : goal.returns
returns c =
    let there = c in
    let known = there in
    let read = known in
    let some = read in
    all_there _ some.args.bytes.now _ read.read_be-size.ensures.value some.if-bytes-lt-KIND.false _ known.is_length.ensures (ap not known.if-not-is_length.false)
    there.if-bytes-size.false _ c.read_whole.ensures
