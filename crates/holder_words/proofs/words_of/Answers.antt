use native.Mathlib.Omega.{arith}
use mathlib.Core.Path.{refl}
use Rattle.holder_rules.proofs.Owned.{owned-entries}
use Rattle.holder_words.proofs.Storing.{stored-none, stored_more, stored-all}
use Rattle.holder_words.proofs.words_of.Goals as goal

pub loop-i-init : goal.loop-i-init
loop-i-init c = stored-none _ _ refl

pub loop-i-preserved : goal.loop-i-preserved
loop-i-preserved c =
    let e = owned-entries c.args.register _ c.well_formed.0 in stored_more _ _ _ _ _ _ c.loop-i-test.true e c.loop-i.invariant refl

pub returns : goal.returns
returns c =
    let l = c.loop-i-test.false in let h = c.loop-i.auto.i-end in
    stored-all _ _ _ (owned-entries c.args.register _ c.well_formed.0) (omega arith) c.loop-i.invariant
