use Prim.Native.Nat.{◌*◌}
use mathlib.Core.List.{[], append_assoc}
use mathlib.Core.Path.{refl, ◌∙◌}
use native.Mathlib.Omega.{arith}
use Rattle.image_parts.specs.Layout.{length_at, length_size}
use Rattle.image_parts.proofs.Parts.{begin, put-number, put-part}
use Rattle.holder_rules.specs.Register.{entries}
use Rattle.holder_image.specs.Layout.{entries_at, entry_size}
use Rattle.holder_image.specs.Bytes.{front_bytes_lem}
use Rattle.holder_image.proofs.Parts.{length-entries}
use Rattle.holder_image.proofs.entries.write_front.Goals as goal

pub returns : goal.returns
unfolding front_bytes_lem
returns c =
    let c₃ = c in
    let c₂ = c₃ in
    let c₁ = c₂ in
    let xs = c₁.args.image.now in
    let s₁ = put-number xs [] _ _ 0 length_at _ _ (omega arith) (begin xs) c₁.put_be.ensures refl in
    let s₂ = put-number xs _ _ _ length_at length_size _ _ (omega arith) s₁ c₂.put_be-2.ensures refl in
    let s₃ = put-part xs _ _ _ _ entries_at (entry_size * entries) (omega arith) s₂ c₃.write_entries.ensures (length-entries _) in
    s₃.parts ∙ simp append_assoc
