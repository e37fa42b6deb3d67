use mir.Syntax.{w64}
use mir.Facts.{to_z-of_z}
use Rattle.mapper_pages.proofs.Asking.{signed_test, no_address, an-address, address-fits}
use Rattle.mapper_pages.proofs.page_address.Goals as goal

-- src/lib.rt:42:9
pub returns-then-answer-lt0 : goal.returns-then-answer-lt0
returns-then-answer-lt0 c =
    no_address c.args.answer (signed_test c.args.answer _ _ (to_z-of_z {w = w64} c.ranges.answer) c.if-answer-lt0.true)

-- src/lib.rt:44:5
pub overflow_cast-result : goal.overflow_cast-result
overflow_cast-result c =
    address-fits c.args.answer _ (to_z-of_z {w = w64} c.ranges.answer) c.ranges.answer c.if-answer-lt0.false

-- src/lib.rt:38:1
pub returns : goal.returns
returns c =
    an-address c.args.answer _ (to_z-of_z {w = w64} c.ranges.answer) c.if-answer-lt0.false
