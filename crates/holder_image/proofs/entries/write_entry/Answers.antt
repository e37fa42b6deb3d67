use mathlib.Core.List.{[], append_assoc}
use mathlib.Core.Path.{refl, ◌∙◌}
use native.Mathlib.Omega.{arith}
use Rattle.image_parts.specs.Layout.{word}
use Rattle.image_parts.proofs.Parts.{begin, put-number, put_all}
use Rattle.holder_image.specs.Layout.{start_at, last_at, entry_size}
use Rattle.holder_image.specs.Bytes.{entry_bytes}
use Rattle.holder_image.proofs.entries.write_entry.Goals as goal

pub returns : goal.returns
unfolding entry_bytes
returns c =
    let c₃ = c in
    let c₂ = c₃ in
    let c₁ = c₂ in
    let xs = c₁.args.part.now in
    let s₁ = put-number xs [] _ _ 0 start_at _ _ (omega arith) (begin xs) c₁.put_be.ensures refl in
    let s₂ = put-number xs _ _ _ start_at word _ _ (omega arith) s₁ c₂.put_word.ensures refl in
    let s₃ = put-number xs _ _ _ last_at word _ _ (omega arith) s₂ c₃.put_word-2.ensures refl in
    put_all xs _ _ entry_size (omega arith) s₃ ∙ simp append_assoc
