-- What the functions say that are lent the eleven fields of the allocator in an image. Assumes nothing.
use Rattle.std.specs.Prelude.{ℕ, List, ◌≡◌, ℤ}
use Rattle.std.specs.Borrow.{MutBor}
use Rattle.rules.specs.Rules.{Call}
use Rattle.account_state.specs.Lent.{OfEleven, eleven, OfLentEleven, turns_eleven}
use Rattle.account_state.specs.declared.Account.{Account}
use Rattle.calls.specs.Calls.{signed_of}
use Rattle.account_calls.specs.Made.{made}
use Rattle.image_parts.specs.Layout.{Layout}
use Rattle.image_calls.specs.Lists.{Held}
use Rattle.holder_image.specs.Bytes.{memory_in}

-- of the call c, r is returned, and the account becomes a'
pub record Answered (n : ℕ) (c : Call) (a : Account) (r : ℤ) (a' : Account) : Type 0 where
  pub number : r ≡ signed_of (made n a c).answer
  pub state : a' ≡ (made n a c).state

abbrev pub AnsweredIn : ℕ → Call → ℤ → OfLentEleven
AnsweredIn n c r = turns_eleven (λ a a'. Answered n c a r a')

-- the eleven fields are those of the allocator in the image
abbrev pub HeldIn : Layout → MutBor (List ℕ) → OfEleven
HeldIn f image = eleven (Held f (memory_in image.now))
