use native.Mathlib.Omega.{arith}
use Rattle.batch.proofs.InWords.{asked-length, words-at}
use Rattle.batch.proofs.words_at.Goals as goal

pub overflow_mul-at : goal.overflow_mul-at
overflow_mul-at c =
    omega (arith, asked-length c.args.calls.now)

pub offset_bounds-calls-at : goal.offset_bounds-calls-at
offset_bounds-calls-at c =
    omega (arith, asked-length c.args.calls.now)

pub bounds-calls-at : goal.bounds-calls-at
bounds-calls-at c =
    omega (arith, asked-length c.args.calls.now)

pub overflow_add-result : goal.overflow_add-result
overflow_add-result c =
    omega (arith, asked-length c.args.calls.now)

pub offset_bounds-calls-at-2 : goal.offset_bounds-calls-at-2
offset_bounds-calls-at-2 c =
    omega (arith, asked-length c.args.calls.now)

pub bounds-calls-at-2 : goal.bounds-calls-at-2
bounds-calls-at-2 c =
    omega (arith, asked-length c.args.calls.now)

pub overflow_add-result-2 : goal.overflow_add-result-2
overflow_add-result-2 c =
    omega (arith, asked-length c.args.calls.now)

pub offset_bounds-calls-at-3 : goal.offset_bounds-calls-at-3
offset_bounds-calls-at-3 c =
    omega (arith, asked-length c.args.calls.now)

pub bounds-calls-at-3 : goal.bounds-calls-at-3
bounds-calls-at-3 c =
    omega (arith, asked-length c.args.calls.now)

pub overflow_add-result-3 : goal.overflow_add-result-3
overflow_add-result-3 c =
    omega (arith, asked-length c.args.calls.now)

pub offset_bounds-calls-at-4 : goal.offset_bounds-calls-at-4
offset_bounds-calls-at-4 c =
    omega (arith, asked-length c.args.calls.now)

pub bounds-calls-at-4 : goal.bounds-calls-at-4
bounds-calls-at-4 c =
    omega (arith, asked-length c.args.calls.now)

pub returns : goal.returns
returns c =
    let start = c in words-at start.args.calls.now start.args.k start.requires
