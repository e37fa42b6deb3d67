use Prim.Native.Nat.{◌-◌, ◌+◌, ◌*◌}
use mathlib.Core.Path.{◌≡◌, refl, ◌∙◌}
use mathlib.Core.List.{[], append_assoc}
use native.Mathlib.Omega.{arith}
use lib.ListN.{length}
use Rattle.image_parts.proofs.Parts.{begin, put-number, put_last}
use Rattle.journal_blocks.specs.Journal.{laid_out}
use Rattle.journal_blocks.proofs.writing.fill_block.Goals as goal

pub returns : goal.returns
unfolding laid_out
returns c =
    let xs = c.args.part.now in
    let all : length xs ≡ 3 + 8 * length c.args.words.now = c.requires in
    let rest : length xs - 2 ≡ 1 + 8 * length c.args.words.now = omega arith in
    let s₁ = put-number xs [] _ _ 0 2 _ _ (omega arith) (begin xs) c.put_be.ensures rest in
    let s₂ = put-number xs _ _ _ 2 1 _ _ (omega arith) s₁ c.put_be-2.ensures refl in
    put_last xs _ _ _ _ 3 (length xs - 3) (omega arith) s₂ c.put_words.ensures ∙ simp append_assoc
