use native.Mathlib.Omega.{arith}
use Rattle.mapper_lies.proofs.Tops.{past_top, below_top}
use Rattle.mapper_lies.proofs.top_byte.Goals as goal

-- src/lib.rt:60:9
pub returns-then-room-many : goal.returns-then-room-many
returns-then-room-many c =
    past_top _ _ c.requires c.if-room-many.true

-- src/lib.rt:62:12
pub overflow_mul-result : goal.overflow_mul-result
overflow_mul-result c =
    let low = c.requires in omega arith

-- src/lib.rt:62:5
pub overflow_add-result : goal.overflow_add-result
overflow_add-result c =
    let low = c.requires in omega arith

-- src/lib.rt:53:1
pub returns : goal.returns
returns c =
    below_top _ _ c.requires c.if-room-many.false
