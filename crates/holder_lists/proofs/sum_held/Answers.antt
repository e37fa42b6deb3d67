use native.Mathlib.Omega.{arith}
use Rattle.holder_rules.proofs.Owned.{owned-entries}
use Rattle.holder_lists.proofs.Sums.{sum-on, sum-end, sum_fits, entry-bounds}
use Rattle.holder_lists.proofs.sum_held.Goals as goal

pub size_held-bytes-requires : goal.size_held-bytes-requires
size_held-bytes-requires c =
    let n = owned-entries c.args.register _ c.well_formed.0 in let l = c.loop-e-test.true in
    entry-bounds c.args.register.entries c.loop-e.e-index (omega arith) c.requires

pub overflow_add-bytes : goal.overflow_add-bytes
overflow_add-bytes c =
    let x = c.args in let n = owned-entries x.register _ c.well_formed.0 in let l = c.loop-e-test.true in
    let o = sum-on x.whose x.register.entries c.loop-e.e-index (omega arith) in
    let f = sum_fits x.whose x.register.entries c.requires in let v = c.loop-e.invariant in let z = c.size_held-bytes.ensures in omega arith

pub loop-e-preserved : goal.loop-e-preserved
loop-e-preserved c =
    let x = c.args in let n = owned-entries x.register _ c.well_formed.0 in let l = c.loop-e-test.true in
    let o = sum-on x.whose x.register.entries c.loop-e.e-index (omega arith) in
    let v = c.loop-e.invariant in let z = c.size_held-bytes.ensures in omega arith

pub returns : goal.returns
returns c =
    let x = c.args in let n = owned-entries x.register _ c.well_formed.0 in let l = c.loop-e-test.false in
    let o = sum-end x.whose x.register.entries c.loop-e.e-index (omega arith) in
    let v = c.loop-e.invariant in omega arith
