-- A call on the image of a sound account is the call on that account. Assumes nothing.
use Prim.Native.Nat.{ℕ}
use mathlib.Core.Bool.{Bool, true, false, cond}
use mathlib.Core.Logic.{◌≢◌}
use mathlib.Core.Path.{◌≡◌, refl, sym, ap, ◌∙◌}
use borrow.Author.Tests.{eqb-false}
use Rattle.rules.specs.Rules.{Call}
use Rattle.account_state.specs.Account.{SoundAccount}
use Rattle.account_state.specs.declared.Account.{Account}
use Rattle.account_state.specs.declared.Entered.{Entered}
use Rattle.account_state.proofs.Exact.{sound-sized}
use Rattle.calls.specs.Calls.{number_of, is_accepted, signed_of, voucher_of, voucher_from}
use Rattle.calls.proofs.Numbers.{signed-voucher}
use Rattle.account_calls.specs.Made.{made}
use Rattle.account_calls.proofs.Refusals.{refused-same}
use Rattle.image_parts.specs.Layout.{Layout, Figured}
use Rattle.image_writing.specs.Writing.{image_of}
use Rattle.image_parts.proofs.Lawful.{small-pool}
use Rattle.image.proofs.Rounds.{read_same}
use Rattle.c_over.specs.CCalls.{Returned, finished, over, call_over_lem}

-- over the image of the account that a refusal hands back, every outcome leaves the image of its account
pub leaves-image : (f : Layout) (r : Entered) (s : Account) → (number_of r.answer ≢ 0 → r.state ≡ s) → (finished f r (image_of f s)).bytes ≡ image_of f r.state
unfolding finished
leaves-image f r s h = go (is_accepted r.answer) refl
  where
    go : (t : Bool) → is_accepted r.answer ≡ t → cond t (image_of f r.state) (image_of f s) ≡ image_of f r.state
    go true e = refl
    go false e = ap (image_of f) (sym (h (eqb-false _ _ e)))

module _ (f : Layout) (full : Figured f) where
  abbrev n : ℕ
  n = f.records

  -- a call on the image of a sound account
  module _ (s : Account) (h : SoundAccount n s) (c : Call) where
    call-image : call_over_lem f c (image_of f s) ≡ finished f (made n s c) (image_of f s)
    unfolding call_over_lem over
    call-image = rw (read_same f full s h)

    pub call-bytes : (call_over_lem f c (image_of f s)).bytes ≡ image_of f (made n s c).state
    call-bytes = ap (λ (x : Returned). x.bytes) call-image ∙ leaves-image f (made n s c) s (refused-same n (small-pool f full.lawful) s c (sound-sized n (small-pool f full.lawful) s h))

    pub call-number : (call_over_lem f c (image_of f s)).number ≡ signed_of (made n s c).answer
    unfolding finished
    call-number = ap (λ (x : Returned). x.number) call-image

    pub call-voucher : voucher_from c (call_over_lem f c (image_of f s)).number ≡ voucher_of c (made n s c).answer
    call-voucher = ap (voucher_from c) call-number ∙ signed-voucher c (made n s c).answer
