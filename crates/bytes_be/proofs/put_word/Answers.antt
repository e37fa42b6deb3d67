use mathlib.Core.Path.{◌≡◌, ◌∙◌}
use native.Mathlib.Omega.{arith}
use lib.ListN.{length-set}
use Rattle.bytes_be.specs.Numbers.{be}
use Rattle.bytes_be.proofs.Loops.{put-before}
use Rattle.bytes_be.proofs.put_word.Goals as goal

pub loop-i-preserved : goal.loop-i-preserved
loop-i-preserved c =
    (omega arith, (simp length-set (omega arith), put-before _ _ _ (omega arith) (omega arith) ∙ c.loop-i.invariant.1.1))

pub returns : goal.returns
unfolding be
returns c =
    let e : c.loop-i.i ≡ 0 = omega arith in
    rw e at c.loop-i.invariant.1.1
