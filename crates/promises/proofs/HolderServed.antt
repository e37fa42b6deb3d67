-- What is read by value is what the C calls of the register serve. Assumes nothing.
use Prim.Native.Nat.{ℕ}
use mathlib.Core.Bool.{Bool, true, false, ◌&&◌}
use mathlib.Core.List.{List}
use mathlib.Core.Logic.{◌↔◌}
use mathlib.Core.Path.{◌≡◌, refl, sym, ap, ◌∙◌}
use native.Mathlib.Omega.{arith}
use lib.Dec.{eqb}
use borrow.Author.Tests.{eqb-true}
use Rattle.std.specs.Prelude.{Err}
use Rattle.calls.specs.Calls.{signed_of}
use Rattle.calls.specs.declared.MemoryError.TheVariants.{InvalidEntry}
use Rattle.image_parts.specs.Layout.{Layout}
use Rattle.c_over.specs.CCalls.{returned}
use Rattle.c_over.specs.Images.{book_in}
use Rattle.holder_rules.specs.Holders.{Call}
use Rattle.holder_rules.specs.Sound.{register_sound}
use Rattle.holder_rules.specs.States.{is_sound_lem}
use Rattle.holder_image.specs.Bytes.{memory_in, register_in_lem, headed}
use Rattle.holder_images.specs.Reading.{memory_read, state_in_lem, readable, reading_of}
use Rattle.holder_images.proofs.Rounds.{register-left, read-exactly}
use Rattle.holder_calls.specs.Calls.{sound_in_lem, serves, over, call_over_lem}

module _ (f : Layout) (l : List ℕ) where
  -- an allocator that was read is sound, so that the register is what is left to look at
  same_test : readable f l ≡ serves f l
  unfolding readable sound_in_lem
  same_test = ap (λ (b : Bool). headed f l && b) (go (eqb (memory_read f l).number 0) refl)
    where
      go : (b : Bool) → eqb (memory_read f l).number 0 ≡ b → (b && is_sound_lem f.records (state_in_lem f l)) ≡ (b && register_sound (book_in f (memory_in l)).chain (register_in_lem l))
      go true e = register-left f l (eqb-true (memory_read f l).number 0 e)
      go false e = refl

  pub read-served : ((reading_of f l).number ≡ 0) ↔ (serves f l ≡ true)
  read-served = (λ e. sym same_test ∙ (read-exactly f l).0 e, λ e. (read-exactly f l).1 (same_test ∙ e))

  not-served : (c : Call) → serves f l ≡ false → call_over_lem f c l ≡ returned (signed_of (Err InvalidEntry)) l
  unfolding call_over_lem over
  not-served c off = rw off

  -- bytes that are refused by value
  pub refused_over : (c : Call) → (reading_of f l).number ≡ 2 → call_over_lem f c l ≡ returned (signed_of (Err InvalidEntry)) l
  refused_over c e = not-served c (go (serves f l) refl)
    where
      go : (b : Bool) → serves f l ≡ b → b ≡ false
      go true s = absurd (let k = read-served.1 s in let v : ⊥ = omega arith in v)
      go false s = refl
