use Prim.Native.Nat.{◌-◌}
use native.Mathlib.Omega.{arith}
use mathlib.Core.Path.{sym}
use lib.Dec.{lit≤}
use Rattle.rules.specs.Rules.{size_lists, list_number}
use Rattle.rounding.proofs.Zeros.{first-list, zeros-le, within, beyond}
use Rattle.rounding.proofs.size_to_page_order.Goals as goal

pub returns-then-size-le-PAGE : goal.returns-then-size-le-PAGE
unfolding list_number
returns-then-size-le-PAGE c =
    record { result_value = sym (first-list (size_lists - 1) _ (omega (arith, c.if-size-le-PAGE.true))); result_lt_size_lists = lit≤ tt }

pub overflow_sub-k-2 : goal.overflow_sub-k-2
overflow_sub-k-2 c =
    zeros-le 64 _ (omega (arith, c.if-size-le-PAGE.false)) (omega arith)

pub returns-then-k-gt-LAST_LIST : goal.returns-then-k-gt-LAST_LIST
unfolding list_number
returns-then-k-gt-LAST_LIST c =
    record { result_value = sym (beyond (size_lists - 1) 64 _ (omega arith) (omega (arith, c.if-k-gt-LAST_LIST.true))); result_lt_size_lists = lit≤ tt }

pub returns : goal.returns
unfolding list_number
returns c =
    record { result_value = sym (within (size_lists - 1) 64 _ (omega arith) (omega (arith, c.if-k-gt-LAST_LIST.false))); result_lt_size_lists = omega (arith, c.if-k-gt-LAST_LIST.false) }
