-- The piece of a take that the allocator's C call accepted can be worked out in 64 bits. Assumes nothing.
use Prim.Native.Nat.{ℕ, suc, ◌+◌, ◌-◌, ◌^◌, ◌<◌}
use native.Mathlib.Omega.{arith}
use mathlib.Core.Bool.{Bool, true, false, not, cond, ◌&&◌}
use mathlib.Core.List.{List}
use mathlib.Core.Path.{◌≡◌, refl, sym, ap, ◌∙◌, subst}
use lib.Dec.{T, eqb}
use lib.ListN.{length, get_or, drop, length-drop}
use lib.Seq.{get_or-drop}
use lib.IntN.{ℤ, pos, negsuc, nat_abs}
use lib.Signed.{lt_z, non_neg}
use mir.Syntax.{w64}
use mir.Val.{Fits, SFits}
use borrow.Author.Tests.{eqb-true}
use Rattle.rules.specs.Rules as rules
use Rattle.rules.specs.Rules.{frees}
use Rattle.linked_lists.proofs.Laws.{true≢false}
use Rattle.bytes_be.specs.Numbers.{Bytes}
use Rattle.calls.specs.Calls.{number_of, address_of, signed_of, voucher_of, voucher_from, address_from, number_from}
use Rattle.calls.proofs.Numbers.{signed-voucher}
use Rattle.core_serve.specs.Made as ranges
use Rattle.account_calls.proofs.Refusals.{ranges-answer}
use Rattle.account_state.proofs.Exact as accounts
use Rattle.check_meaning.proofs.Exact.{sound-sized, sound-passes}
use Rattle.image_parts.specs.Layout.{Layout, Figured}
use Rattle.image_parts.proofs.Lawful.{small-pool}
use Rattle.image.specs.Reading.{reading_of}
use Rattle.image.proofs.Rounds.{accepted-image}
use Rattle.c_over.specs.CCalls.{Returned, returned, call_over_lem}
use Rattle.c_over.proofs.Images.{call-voucher}
use Rattle.holder_rules.specs.Sound.{register_sound}
use Rattle.holder_rules.specs.declared.Entry.{Entry}
use Rattle.holder_image.specs.Layout.{memory_at}
use Rattle.holder_image.specs.Bytes.{memory_in}
use Rattle.holder_serve.specs.Pieces.{Moves}
use Rattle.holder_serve.proofs.Accepted.{accepted-moves}
use Rattle.holder_calls.specs.Calls.{sound_in_lem}

first : (a b : Bool) → (a && b) ≡ true → a ≡ true
first true b e = refl
first false b e = true≢false (sym e)

not-below : (i : ℤ) → lt_z i (pos 0) ≡ false → number_from i ≡ 0
not-below (pos a) e = refl
not-below (negsuc j) e = true≢false e

pub part_bytes : (l : List ℕ) → Bytes l → Bytes (memory_in l)
part_bytes l h i b = let d = length-drop memory_at l in rw (get_or-drop memory_at l i 0) (h (memory_at + i) (omega arith))

module _ (f : Layout) (full : Figured f) (m : List ℕ) (bytes : Bytes m) (r : List Entry) (s : sound_in_lem f m r ≡ true) where
  pub call-moves : (c : rules.Call) → T (not (frees c)) → (i : ℤ) (m' : List ℕ) → returned i m' ≡ call_over_lem f c m → lt_z i (pos 0) ≡ false → Moves c (address_from i)
  unfolding sound_in_lem
  call-moves c t i m' e n =
      let read = eqb-true (reading_of f m).number 0 (first (eqb (reading_of f m).number 0) _ s) in
      let image = accepted-image f full.lawful m bytes read in
      let small = small-pool f full.lawful in
      let a = image.state in
      let answer = ranges-answer f.records a (rules.step f.records c) (accounts.sound-passes f.records small a image.sound) in
      let same : voucher_from c i ≡ voucher_of c (ranges.made f.records a.ranges c).answer =
      ap (λ (x : Returned). voucher_from c x.number) e ∙ ap (λ (x : List ℕ). voucher_from c (call_over_lem f c x).number) (sym image.bytes) ∙ call-voucher f full a image.sound c
      ∙ ap (voucher_of c) answer in
      subst (Moves c) (ap (λ (v : rules.Voucher). v.address) (sym same))
      (accepted-moves f.records small a.ranges (sound-sized f.records small a.ranges image.sound.ranges) (sound-passes f.records small a.ranges image.sound.ranges) c t
      (ap (λ (v : rules.Voucher). v.number) (sym same) ∙ not-below i n))

-- ---- the address of an accepted call, as a number of 64 bits

pub not_negative : (j : ℤ) → lt_z j (pos 0) ≡ false → nat_abs j ≡ address_from j
not_negative (pos a) n = refl
not_negative (negsuc k) n = true≢false n

pub address-fits : (i j : ℤ) → j ≡ i → SFits w64 i → lt_z j (pos 0) ≡ false → T (non_neg j) × Fits w64 (nat_abs j)
address-fits (pos a) j e s t = rw e (tt, record { fits = (let v : a < 2 ^ 63 = s.sfits in omega arith) })
address-fits (negsuc k) j e s t = true≢false (ap (λ (x : ℤ). lt_z x (pos 0)) (sym e) ∙ t)
