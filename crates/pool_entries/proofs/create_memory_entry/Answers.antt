use mathlib.Core.Bool.{not}
use Prim.Native.Nat.{ℕ, ◌+◌, ◌-◌, ◌<◌}
use mathlib.Core.Path.{◌≡◌, sym, ap, ◌∙◌}
use native.Mathlib.Omega.{arith}
use borrow.Author.Tests.{lt-ltb, not-true, not-false}
use Rattle.rules.specs.Rules.{lowest}
use Rattle.pool_state.specs.Shown.{pool}
use Rattle.pool_entries.proofs.Unused.{marked-any, lowest-skip, lowest-stop, lowest-end}
use Rattle.pool_entries.proofs.create_memory_entry.Goals as goal

pub returns-then-not-used : goal.returns-then-not-used
returns-then-not-used c l m =
    let i = c.loop-i.i in
    let b : i < pool = omega arith in
    let e : lowest pool 0 l ≡ i = c.loop-i.invariant l m ∙ lowest-stop (pool - i) i l (omega arith) (sym (marked-any pool l _ m i b) ∙ not-true _ (ap not c.if-not-used.true)) in
    rw (e, lt-ltb i pool b)

pub loop-i-preserved : goal.loop-i-preserved
loop-i-preserved c l m =
    let i = c.loop-i.i in
    let b : i < pool = omega arith in
    let q : pool - i - 1 ≡ pool - (i + 1) = omega arith in
    c.loop-i.invariant l m ∙ lowest-skip (pool - i) i l (omega arith) (sym (marked-any pool l _ m i b) ∙ not-false _ (ap not c.if-not-used.false)) ∙ ap (λ (k : ℕ). lowest k (i + 1) l) q

pub returns : goal.returns
returns c l m =
    let i = c.loop-i.i in
    let z : pool - i ≡ 0 = omega arith in
    let y : i ≡ pool = omega arith in
    let e : lowest pool 0 l ≡ pool = c.loop-i.invariant l m ∙ ap (λ (k : ℕ). lowest k i l) z ∙ lowest-end i l ∙ y in
    rw e
