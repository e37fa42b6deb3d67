use mathlib.Core.Path.{refl, sym, ◌∙◌}
use native.Mathlib.Omega.{arith}
use Rattle.std.specs.Prelude.{Err}
use Rattle.std.proofs.lemmas.Result.{err_from_is_err_and}
use Rattle.pool_state.specs.Shown.{pool}
use Rattle.calls.specs.declared.MemoryError.TheVariants.{NoMemory}
use Rattle.calls.proofs.Endings.{refusal}
use Rattle.pool_entries.proofs.Endings.{moved, unmoved}
use Rattle.call_allocate.proofs.Allocate.{none-serves, fitted, fit-known}
use Rattle.call_allocate.proofs.allocate_first.Goals as goal

pub find_fit-requires : goal.find_fit-requires
find_fit-requires c =
    let u = c.requires in
    record { by_index = (u.holds_some.0.shelf, _, u.holds_some.1.shape.shelved); size_nonzero = u.size_nonzero }

pub returns-in_default-clause-does : goal.returns-in_default-clause-does
returns-in_default-clause-does c b h =
    refusal pool 3 b _ (Err NoMemory) _
    (none-serves pool _ _ _ b (sym c.in_default.is ∙ c.find_fit.ensures b.shelf _ h.shape.shelved))
    refl refl h

pub bounds-f-n : goal.bounds-f-n
bounds-f-n c =
    let u = c.requires.holds_some in
    (fit-known pool _ _ _ u.0 _ _ u.1 (sym c.in-Some.is ∙ c.find_fit.ensures u.0.shelf _ u.1.shape.shelved)).0

pub align_up-a-requires : goal.align_up-a-requires
align_up-a-requires c =
    let u = c.requires.holds_some in
    let k = fit-known pool _ _ _ u.0 _ _ u.1 (sym c.in-Some.is ∙ c.find_fit.ensures u.0.shelf _ u.1.shape.shelved) in
    (omega (arith, k.1), c.requires.size_nonzero.1)

pub overflow_add-a : goal.overflow_add-a
overflow_add-a c =
    let u = c.requires.holds_some in
    let k = fit-known pool _ _ _ u.0 _ _ u.1 (sym c.in-Some.is ∙ c.find_fit.ensures u.0.shelf _ u.1.shape.shelved) in
    omega (arith, k.2, c.align_up-a.ensures)

pub define_used_memory-requires : goal.define_used_memory-requires
define_used_memory-requires c =
    let s = c.requires in
    let u = s.holds_some in
    let q = sym c.in-Some.is ∙ c.find_fit.ensures u.0.shelf _ u.1.shape.shelved in
    let g = fitted pool _ _ _ u.0 s.size_nonzero.0 _ _ _ u.1 q c.align_up-a.ensures in
    (u.0, g.range, g.asks)

pub returns-clause-does : goal.returns-clause-does
returns-clause-does c b h =
    let q = sym c.in-Some.is ∙ c.find_fit.ensures b.shelf _ h.shape.shelved in
    let g = fitted pool _ _ _ b c.requires.size_nonzero.0 _ _ _ h q c.align_up-a.ensures in
    moved pool _ b _ _ _ g.answer _ _ (c.define_used_memory.ensures.does b g.range g.asks) c.in_ok-define_used_memory.was

pub returns-in_err-define_used_memory-clause-does : goal.returns-in_err-define_used_memory-clause-does
returns-in_err-define_used_memory-clause-does c b h =
    let q = sym c.in-Some.is ∙ c.find_fit.ensures b.shelf _ h.shape.shelved in
    let g = fitted pool _ _ _ b c.requires.size_nonzero.0 _ _ _ h q c.align_up-a.ensures in
    let e = err_from_is_err_and c.from_residual.result c.from_residual.ensures.1 in
    rw (e.1, e.2) (unmoved pool _ b _ _ _ g.answer _ _ (c.define_used_memory.ensures.does b g.range g.asks) _ c.in_err-define_used_memory.was)
