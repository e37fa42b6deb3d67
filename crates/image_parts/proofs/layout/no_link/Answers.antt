use Prim.Native.Nat.{ℕ, ◌-◌, ◌^◌}
use mathlib.Core.Path.{◌≡◌, sym, ap}
use native.Mathlib.Omega.{arith}
use Rattle.image_parts.proofs.Lawful.{narrow}
use Rattle.image_parts.proofs.layout.no_link.Goals as goal

-- 256 ^ k - 1, by the bytes of a link
greatest : (k j : ℕ) → k ≡ j → 256 ^ j - 1 ≡ 256 ^ k - 1
greatest k j e = sym (ap (λ (i : ℕ). 256 ^ i - 1) e)

pub returns-in_default : goal.returns-in_default
returns-in_default c =
    let w = c.args.form.link in
    let none : w ≡ 0 = let n = narrow c.args.form c.requires in omega arith in
    greatest w 0 none
