use native.Mathlib.Omega.{arith}
use mathlib.Core.Path.{refl}
use Rattle.holder_words.proofs.Storing.{read_none, read_more, read_all}
use Rattle.holder_words.proofs.register_in.Goals as goal

pub loop-i-init : goal.loop-i-init
loop-i-init c = read_none _ _ refl

pub loop-i-preserved : goal.loop-i-preserved
loop-i-preserved c = read_more _ _ _ _ c.loop-i-test.true c.loop-i.invariant c.entry_at.ensures

pub returns : goal.returns
returns c = let l = c.loop-i-test.false in let h = c.loop-i.auto.i-end in read_all _ _ _ (omega arith) c.loop-i.invariant
