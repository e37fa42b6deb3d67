use mathlib.Core.Bool.{true, false}
use mathlib.Core.Path.{refl}
use native.Mathlib.Omega.{arith}
use Rattle.mapper_free.specs.Free.{touches}
use Rattle.mapper_tables.specs.Reached.{reached_in}
use Rattle.mapper_tables.proofs.Whole.{in-all-windows, no-window, one-window, window-not}
use Rattle.mapper_tables.proofs.tables_apart.Goals as goal

pub overflow_sub-windows : goal.overflow_sub-windows
overflow_sub-windows c =
    let room = c.requires.0 in omega arith

pub overflow_add-windows : goal.overflow_add-windows
overflow_add-windows c =
    let p = c.requires.1 in omega arith

pub loop-k-init : goal.loop-k-init
loop-k-init c =
    let s = c.args in no-window s.low s.high (touches s.starts.now s.lasts.now s.count) (reached_in s.first s.arena.now s.top)

pub overflow_mul-lo : goal.overflow_mul-lo
overflow_mul-lo c =
    let p = c.requires.1 in omega arith

pub overflow_add-lo : goal.overflow_add-lo
overflow_add-lo c =
    let p = c.requires.1 in omega arith

pub window_apart-requires : goal.window_apart-requires
window_apart-requires c =
    let p = c.requires in (p.0, p.2, p.3, p.4, p.5)

pub returns-then-not-window_apart : goal.returns-then-not-window_apart
returns-then-not-window_apart c =
    let s = c.args in
    in-all-windows s.low s.high (touches s.starts.now s.lasts.now s.count) (reached_in s.first s.arena.now s.top) _ false
    (window-not s.low s.high (touches s.starts.now s.lasts.now s.count) (reached_in s.first s.arena.now s.top) c.loop-k.k _ c.loop-k-test.true
    (rw c.if-not-window_apart.true at c.window_apart.ensures)) refl

pub loop-k-preserved : goal.loop-k-preserved
loop-k-preserved c =
    let s = c.args in
    one-window s.low s.high (touches s.starts.now s.lasts.now s.count) (reached_in s.first s.arena.now s.top) c.loop-k.k c.loop-k.invariant
    (rw c.if-not-window_apart.false at c.window_apart.ensures)

pub returns : goal.returns
returns c =
    let s = c.args in
    in-all-windows s.low s.high (touches s.starts.now s.lasts.now s.count) (reached_in s.first s.arena.now s.top) c.loop-k.k true c.loop-k.invariant
    (let most = c.loop-k.auto.k-end in let least = c.loop-k-test.false in omega arith)
