use native.Mathlib.Omega.{arith}
use Rattle.journal_blocks.proofs.Ways.{least-length, reserve-kind, length-reserve, free_in, allocate-in, reserve-in}
use Rattle.journal_blocks.proofs.reading.entry_in.Goals as goal

pub word_at-x-requires : goal.word_at-x-requires
word_at-x-requires c =
    omega (arith, least-length c.args.kind, c.requires.kind_in_bounds)

pub word_at-y-requires : goal.word_at-y-requires
word_at-y-requires c =
    omega (arith, least-length c.args.kind, c.requires.kind_in_bounds)

pub word_at-z-requires : goal.word_at-z-requires
word_at-z-requires c =
    omega (arith, least-length c.args.kind, c.requires.kind_in_bounds)

pub returns-in-1 : goal.returns-in-1
returns-in-1 c =
    free_in c.args.block.now c.args.kind _ _ _ c.word_at-x.ensures c.word_at-y.ensures c.word_at-z.ensures c.in-1.is

pub returns-in-2 : goal.returns-in-2
returns-in-2 c =
    allocate-in c.args.block.now c.args.kind _ _ _ c.word_at-x.ensures c.word_at-y.ensures c.word_at-z.ensures c.in-2.is

pub word_at-requires : goal.word_at-requires
word_at-requires c =
    let three = reserve-kind c.args.kind c.requires.kind_value (λ e. omega arith) (λ e. omega arith) in
    omega (arith, length-reserve c.args.kind three, c.requires.kind_in_bounds)

pub returns-in_default : goal.returns-in_default
returns-in_default c =
    reserve-in c.args.block.now c.args.kind _ _ _ c.word_at-x.ensures c.word_at-y.ensures c.word_at-z.ensures
    (λ e. omega arith) (λ e. omega arith) _ c.word_at.ensures
