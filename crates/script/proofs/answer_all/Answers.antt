use Rattle.std.proofs.Common.{◌≡◌, false, List, sym, ap, ◌∙◌, inl, inr, lit≤, arith}
use lib.ListN.{replicate}
use Rattle.linked_lists.specs.Links.{none}
use Rattle.rules.specs.Rules.{empty, size_lists}
use Rattle.pool_state.specs.Shown.{pool}
use Rattle.pool_state.specs.State.{arrays, state_of}
use Rattle.pool_state.specs.declared.MemoryAllocator.{MemoryAllocator}
use Rattle.holder_rules.specs.Register.{entries}
use Rattle.holder_rules.specs.declared.Entry.{Entry}
use Rattle.holder_words.proofs.Fresh.{fresh-words}
use Rattle.script_forms.specs.Forms.{desk, desk_in, open_desk}
use Rattle.pool_state.proofs.States.{fresh-state}
use Rattle.script.proofs.Looping.{going-none, going-sound, going_on, over}
use Rattle.script.proofs.answer_all.Goals as goal

-- the twelve locals at first
fresh-desk : desk_in 0 (replicate 192 0) (arrays 0 none (replicate size_lists none) (replicate pool 0) (replicate pool 0) (replicate pool false) (replicate pool none) (replicate pool none) (replicate pool none) (replicate pool none)) ≡ open_desk pool
fresh-desk = ap (λ (m : MemoryAllocator). desk_in 0 (replicate 192 0) m) (fresh-state pool) ∙ ap (λ (r : List Entry). desk 0 (record { memory = state_of pool empty; register = record { entries = r } })) (fresh-words 192 entries)

pub loop-turns-init : goal.loop-turns-init
loop-turns-init c = going-none pool _ _ _ _ _ fresh-desk c.begun-session.ensures c.requires.0 c.requires.1

pub turn-session-requires-clause-sound_in : goal.turn-session-requires-clause-sound_in
turn-session-requires-clause-sound_in c = going-sound pool _ _ _ _ _ _ _ _ _ c.loop-turns.invariant (lit≤ tt) (sym c.goes_on.ensures ∙ c.if-not-goes_on.false)

pub loop-turns-preserved : goal.loop-turns-preserved
loop-turns-preserved c =
    going_on pool _ _ _ _ _ _ _ _ _ c.loop-turns.invariant _ _ _ _ _ (sym c.goes_on.ensures ∙ c.if-not-goes_on.false)
    c.turn-session.auto.carry
    c.turn-session.auto.chunk
    c.turn-session.auto.out
    c.turn-session.ensures

pub returns-then-not-goes_on : goal.returns-then-not-goes_on
returns-then-not-goes_on c = over pool _ _ _ _ _ _ _ _ _ c.loop-turns.invariant (inl (sym c.goes_on.ensures ∙ c.if-not-goes_on.true))

pub returns : goal.returns
returns c = over pool _ _ _ _ _ _ _ _ _ c.loop-turns.invariant (inr (omega arith))
