-- A block more that is shown. Assumes nothing.
use Rattle.std.proofs.Common.{◌≡◌, ℕ, ◌+◌, ◌≤◌, List, sym, ◌∙◌, subst, length, drop, length-drop, arith}
use Rattle.journal_blocks.specs.Journal.{block_at}
use Rattle.journal_blocks.specs.declared.Entry.{Entry}
use Rattle.journal_blocks.specs.declared.Block.{Block}
use Rattle.journal_blocks.specs.declared.Block.TheVariants as block
use Rattle.journal_blocks.proofs.Seen.{Ahead, ahead}
use Rattle.show.specs.Shown.{Further}
use Rattle.show.specs.declared.Showing.{Showing}

-- a call
pub goes : (l : List ℕ) (s : Showing) (w : Block) → w ≡ block_at l s.at → (e : Entry) (next : ℕ) → w ≡ block.Call e next → s.at ≤ length l
    → Further (length l) s (record { at = next; index = s.index + 1 })
goes l s w is e next told h =
    let a = subst (Ahead s.at (drop s.at l)) (sym is ∙ told) (ahead s.at (drop s.at l)) in
    let far = a.0 in
    let there = a.1 in
    let size = length-drop s.at l in
    record { within = omega arith; further = omega arith; few = omega arith }
