use native.Mathlib.Omega.{arith}
use mir.Syntax.{w64}
use mir.Facts.{to_z_pos}
use Prim.Native.Nat.{◌<◌, ◌^◌}
use Rattle.journal_blocks.specs.Journal.{block_bytes}
use Rattle.journal_blocks.proofs.Rounds.{block_size}
use Rattle.journal_calls.proofs.Ways.{not-put, is-place, in-room, is-put}
use Rattle.journal_calls.proofs.put_entry.Goals.{Else-next-at}
use Rattle.journal_calls.proofs.put_entry.Goals as goal

pub returns-then-next-at : goal.returns-then-next-at
returns-then-next-at c =
    not-put (block_bytes c.args.entry) c.args.journal.now c.args.at (omega (arith, block_size c.args.entry)) _ _ c.write_block-next.ensures c.if-next-at.true

-- a slice has fewer than 2^63 bytes
below : (c : Else-next-at) → c.write_block-next.result < 2 ^ 63
below c =
    let t = block_bytes c.args.entry in
    let some = block_size c.args.entry in
    let place = is-place t c.args.journal.now c.args.at (omega arith) _ _ c.write_block-next.ensures c.if-next-at.false in
    let room = in-room t c.args.journal.now c.args.at (omega arith) _ _ c.write_block-next.ensures c.if-next-at.false in
    omega (arith, c.well_formed)

pub overflow_cast-result : goal.overflow_cast-result
overflow_cast-result c =
    record { sfits = below (goal.at.overflow_cast-result c).Else-next-at }

pub returns : goal.returns
returns c =
    let small = below (goal.at.returns c).Else-next-at in
    let put = c.write_block-next.ensures in
    is-put (block_bytes c.args.entry) c.args.journal.now c.args.at (omega (arith, block_size c.args.entry)) _ _ put c.if-next-at.false _ (to_z_pos w64 small)
