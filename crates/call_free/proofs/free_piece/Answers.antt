use mathlib.Core.Path.{refl, sym, ◌∙◌}
use Rattle.std.specs.Prelude.{Err}
use Rattle.pool_state.specs.Shown.{pool}
use Rattle.calls.specs.declared.MemoryError.TheVariants.{InvalidRequest}
use Rattle.calls.proofs.Endings.{refusal}
use Rattle.pool_entries.proofs.Endings.{moved, unmoved}
use Rattle.pool_chain.proofs.Held.{chain-ordered, chain-placed}
use Rattle.call_free.proofs.Free.{free-overlaps, free-answer, offers}
use Rattle.call_free.proofs.free_piece.Goals as goal

pub search_entry_previous_address-gap-requires : goal.search_entry_previous_address-gap-requires
search_entry_previous_address-gap-requires c =
    let u = c.requires.holds_some in
    let o = chain-ordered pool u.0 _ u.1 in
    (u.0.chain, _, o)

pub overlaps_neighbour-requires : goal.overlaps_neighbour-requires
overlaps_neighbour-requires c =
    c.requires.address_lt_past.0

pub returns-then-overlaps_neighbour-clause-does : goal.returns-then-overlaps_neighbour-clause-does
returns-then-overlaps_neighbour-clause-does c b h =
    let o = chain-ordered pool b _ h in
    let g = c.search_entry_previous_address-gap.ensures b.chain _ o in
    refusal pool 4 b _ (Err InvalidRequest) _
    (free-overlaps pool _ _ b (sym (c.overlaps_neighbour.ensures b.chain (chain-placed pool b _ _ _ _ h g)) ∙ c.if-overlaps_neighbour.true))
    refl refl h

pub define_free_memory-moved-requires : goal.define_free_memory-moved-requires
define_free_memory-moved-requires c =
    let p = c.requires in
    let u = p.holds_some in
    let o = chain-ordered pool u.0 _ u.1 in
    let g = c.search_entry_previous_address-gap.ensures u.0.chain _ o in
    let n = sym (c.overlaps_neighbour.ensures u.0.chain (chain-placed pool u.0 _ _ _ _ u.1 g)) ∙ c.if-overlaps_neighbour.false in
    (u.0, offers pool _ _ u.0 _ _ _ u.1 g p.address_lt_past.0 p.address_lt_past.1 n)

pub returns-in-Ok-clause-does : goal.returns-in-Ok-clause-does
returns-in-Ok-clause-does c b h =
    let p = c.requires in
    let o = chain-ordered pool b _ h in
    let g = c.search_entry_previous_address-gap.ensures b.chain _ o in
    let n = sym (c.overlaps_neighbour.ensures b.chain (chain-placed pool b _ _ _ _ h g)) ∙ c.if-overlaps_neighbour.false in
    moved pool _ b _ _ _ (free-answer pool _ _ b n) _ _ (c.define_free_memory-moved.ensures.does b (offers pool _ _ b _ _ _ h g p.address_lt_past.0 p.address_lt_past.1 n)) c.in-Ok.is

pub returns-in-Err-clause-does : goal.returns-in-Err-clause-does
returns-in-Err-clause-does c b h =
    let p = c.requires in
    let o = chain-ordered pool b _ h in
    let g = c.search_entry_previous_address-gap.ensures b.chain _ o in
    let n = sym (c.overlaps_neighbour.ensures b.chain (chain-placed pool b _ _ _ _ h g)) ∙ c.if-overlaps_neighbour.false in
    unmoved pool _ b _ _ _ (free-answer pool _ _ b n) _ _ (c.define_free_memory-moved.ensures.does b (offers pool _ _ b _ _ _ h g p.address_lt_past.0 p.address_lt_past.1 n)) _ c.in-Err.is
