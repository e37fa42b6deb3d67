use mathlib.Core.Path.{◌≡◌, ap, ◌∙◌}
use mathlib.Core.List.{List, [], ◌∷◌}
use Prim.Native.Nat.{ℕ}
use native.Mathlib.Omega.{arith}
use borrow.Author.Tests.{ne_eqb}
use Rattle.std.specs.Prelude.{slice_get, unwrap_or}
use Rattle.bytes_be.specs.Numbers.{more}
use Rattle.image_parts.specs.Layout.{current, layout_of, length_at}
use Rattle.image_parts.specs.Read.{number_in}
use Rattle.image_parts.proofs.Places.{one_byte}
use Rattle.image_parts.proofs.layout.layout_of.Goals as goal

-- the first byte is the version; no byte tells no version
told : (l : List ℕ) (b : ℕ) → b ≡ unwrap_or (slice_get l 0) 0 → b ≡ number_in l 0 length_at
unfolding more
told [] b e = e
told (x ∷ l) b e = e ∙ one_byte (x ∷ l) 0 (omega arith)

other : (v : ℕ) → (v ≡ 1 → ⊥) → (v ≡ 2 → ⊥) → current ≡ layout_of v
other v h k = rw (ne_eqb v 1 h, ne_eqb v 2 k)

pub returns-in-1 : goal.returns-in-1
returns-in-1 c =
    let t = told c.args.image.now c.unwrap_or.result (c.unwrap_or.ensures ∙ ap (λ o. unwrap_or o 0) (c.copied.ensures ∙ c.first.ensures.value)) in
    let e : 1 ≡ number_in c.args.image.now 0 length_at = omega arith in
    ap layout_of e

pub returns-in-2 : goal.returns-in-2
returns-in-2 c =
    let t = told c.args.image.now c.unwrap_or.result (c.unwrap_or.ensures ∙ ap (λ o. unwrap_or o 0) (c.copied.ensures ∙ c.first.ensures.value)) in
    let e : 2 ≡ number_in c.args.image.now 0 length_at = omega arith in
    ap layout_of e

pub returns-in_default : goal.returns-in_default
returns-in_default c =
    let t = told c.args.image.now c.unwrap_or.result (c.unwrap_or.ensures ∙ ap (λ o. unwrap_or o 0) (c.copied.ensures ∙ c.first.ensures.value)) in
    other (number_in c.args.image.now 0 length_at) (λ e. omega arith) (λ e. omega arith)
