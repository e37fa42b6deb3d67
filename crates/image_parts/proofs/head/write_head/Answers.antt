use Prim.Native.Nat.{ℕ, ◌*◌}
use Rattle.rules.specs.Rules.{size_lists}
use Rattle.image_parts.specs.Layout.{current, word, length_at, length_size, total_at, first_at, heads_at, low_at, records_at_lem}
use mathlib.Core.Path.{◌≡◌, refl, ap, ◌∙◌}
use mathlib.Core.List.{[], append_assoc}
use native.Mathlib.Omega.{arith}
use lib.ListN.{length}
use Rattle.image_parts.specs.Written.{head_bytes}
use Rattle.image_parts.proofs.Parts.{length-links, begin, put-part, put-number, put_all}
use borrow.Author.Rules.{rules}
use Rattle.image_parts.proofs.head.write_head.Goals as goal

pub put_be-requires : goal.put_be-requires
put_be-requires c =
    tt

pub put_be-requires-2 : goal.put_be-requires-2
put_be-requires-2 c =
    tt

pub link_number-requires : goal.link_number-requires
link_number-requires c =
    tt

pub put_be-requires-3 : goal.put_be-requires-3
put_be-requires-3 c =
    tt

pub returns : goal.returns
unfolding head_bytes
returns c =
    let c₅ = c in
    let c₄ = c₅ in
    let c₃ = c₄ in
    let c₂ = c₃ in
    let c₁ = c₂ in
    let start = c₁ in
    let xs = start.args.part.now in
    let count : length start.args.heads.now ≡ size_lists = search rules in
    let s₁ = put-number xs [] _ _ 0 length_at _ _ (omega arith) (begin xs) c₁.put_be.ensures refl in
    let s₂ = put-number xs _ _ _ length_at length_size _ _ (omega arith) s₁ c₂.put_be-2.ensures refl in
    let s₃ = put-number xs _ _ _ total_at word _ _ (omega arith) s₂ c₃.put_word.ensures refl in
    let s₄ = put-number xs _ _ _ first_at current.link _ _ (omega arith) s₃ c₄.put_be-3.ensures c₄.link_number.ensures in
    let s₅ = put-part xs _ _ _ _ (heads_at current) (current.link * size_lists) (omega arith) s₄ c₅.write_links.ensures (length-links current _ ∙ ap (λ (n : ℕ). current.link * n) count) in
    let s₆ = put-number xs _ _ _ (low_at current) current.low _ _ (omega arith) s₅ c.put_word-2.ensures refl in
    put_all xs _ _ (records_at_lem current) (omega arith) s₆ ∙ simp append_assoc
