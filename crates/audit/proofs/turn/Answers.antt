use Rattle.std.proofs.Common.{length, take, arith, lit≤}
use lib.Seq.{length-take-le}
use Rattle.pool_state.specs.Shown.{pool}
use Rattle.pool_state.specs.State.{arrays}
use Rattle.journal_audit.specs.Audit.{Auditing}
use Rattle.audit.proofs.Turns.{led, more-seated}
use Rattle.audit.proofs.turn.Goals as goal

pub read_on-requires : goal.read_on-requires
read_on-requires c =
    let s = c.args.s.held in
    let room = c.requires.held_in_bounds.0 in
    let size = length-take-le s c.args.buf.now room in
    let l = led pool (lit≤ tt) _ (take s c.args.buf.now) s size c.requires.fields _ c.audit_part-done.ensures in
    (l.used, room)

pub returns-then-wants_more : goal.returns-then-wants_more
returns-then-wants_more c =
    let s = c.args.s.held in
    let room = c.requires.held_in_bounds.0 in
    let size = length-take-le s c.args.buf.now room in
    let l = led pool (lit≤ tt) _ (take s c.args.buf.now) s size c.requires.fields _ c.audit_part-done.ensures in
    more-seated _ pool _ _ _ _ l.sound (omega (arith, l.few, room)) c.read_on.ensures
