use Prim.Native.Nat.{◌*◌}
use Rattle.image_parts.specs.Layout.{current, word, end_at, enabled_at, links_at}
use mathlib.Core.Path.{refl, ◌∙◌}
use mathlib.Core.List.{[], append_assoc}
use native.Mathlib.Omega.{arith}
use Rattle.image_parts.specs.Written.{record_bytes}
use Rattle.image_parts.proofs.Parts.{begin, put-number, put_last}
use Rattle.image_parts.proofs.records.write_record.Goals as goal

pub put_be-requires : goal.put_be-requires
put_be-requires c =
    tt

pub returns : goal.returns
unfolding record_bytes
returns c =
    let c₃ = c in
    let c₂ = c₃ in
    let c₁ = c₂ in
    let xs = c₁.args.part.now in
    let s₁ = put-number xs [] _ _ 0 word _ _ (omega arith) (begin xs) c₁.put_word.ensures refl in
    let s₂ = put-number xs _ _ _ end_at word _ _ (omega arith) s₁ c₂.put_word-2.ensures refl in
    let s₃ = put-number xs _ _ _ enabled_at 1 _ _ (omega arith) s₂ c₃.put_be.ensures c₃.flag_number.ensures in
    put_last xs _ _ _ _ links_at (current.link * 4) (omega arith) s₃ c.write_links.ensures ∙ simp append_assoc
