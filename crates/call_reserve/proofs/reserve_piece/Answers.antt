use mathlib.Core.Path.{refl, sym, ◌∙◌}
use Rattle.std.specs.Prelude.{Err}
use Rattle.std.proofs.lemmas.Result.{err_from_is_err_and}
use Rattle.pool_state.specs.Shown.{pool}
use Rattle.calls.specs.declared.MemoryError.TheVariants.{InvalidRequest}
use Rattle.calls.proofs.Endings.{refusal}
use Rattle.pool_entries.proofs.Endings.{moved, unmoved}
use Rattle.pool_chain.proofs.Held.{chain-ordered}
use Rattle.call_reserve.proofs.Reserve.{not-inside, inside}
use Rattle.call_reserve.proofs.reserve_piece.Goals as goal

pub search_entry_containing_address-found-requires : goal.search_entry_containing_address-found-requires
search_entry_containing_address-found-requires c =
    let s = c.requires in
    let u = s.holds_some in
    record { ordered = (u.0.chain, chain-ordered pool u.0 _ u.1); address_lt_past = s.address_lt_past }

pub returns-in_default-clause-does : goal.returns-in_default-clause-does
returns-in_default-clause-does c b h =
    let s = c.requires in
    refusal pool 4 b _ (Err InvalidRequest) _
    (not-inside pool _ _ b s.address_lt_past.0 (sym c.in_default.is ∙ c.search_entry_containing_address-found.ensures b.chain (chain-ordered pool b _ h)))
    refl refl h

pub define_used_memory-requires : goal.define_used_memory-requires
define_used_memory-requires c =
    let s = c.requires in
    let u = s.holds_some in
    let q = sym c.in-Some.is ∙ c.search_entry_containing_address-found.ensures u.0.chain (chain-ordered pool u.0 _ u.1) in
    let g = inside pool _ _ u.0 s.address_lt_past.0 _ _ u.1 q in
    (u.0, g.range, g.asks)

pub returns-clause-does : goal.returns-clause-does
returns-clause-does c b h =
    let q = sym c.in-Some.is ∙ c.search_entry_containing_address-found.ensures b.chain (chain-ordered pool b _ h) in
    let g = inside pool _ _ b c.requires.address_lt_past.0 _ _ h q in
    moved pool _ b _ _ _ g.answer _ _ (c.define_used_memory.ensures.does b g.range g.asks) c.in_ok-define_used_memory.was

pub returns-in_err-define_used_memory-clause-does : goal.returns-in_err-define_used_memory-clause-does
returns-in_err-define_used_memory-clause-does c b h =
    let q = sym c.in-Some.is ∙ c.search_entry_containing_address-found.ensures b.chain (chain-ordered pool b _ h) in
    let g = inside pool _ _ b c.requires.address_lt_past.0 _ _ h q in
    let e = err_from_is_err_and c.from_residual.result c.from_residual.ensures.1 in
    rw (e.1, e.2) (unmoved pool _ b _ _ _ g.answer _ _ (c.define_used_memory.ensures.does b g.range g.asks) _ c.in_err-define_used_memory.was)
