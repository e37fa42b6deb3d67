-- What each call answers and leaves, for every state. n is the number of records. Assumes nothing.
use Rattle.std.specs.Prelude.{ℕ}
use Rattle.rules.specs.Rules.{Free, Allocate, Reserve}
use Rattle.holder_rules.specs.Holders.{Offer, By}
use Rattle.holder_rules.specs.declared.HolderAllocator.{HolderAllocator}
use Rattle.holder_serve.specs.Made.{made}
use Rattle.holder_serve.specs.declared.HolderOutcome.{HolderOutcome}

abbrev pub offer_of : ℕ → HolderAllocator → ℕ → ℕ → HolderOutcome
offer_of n s a z = made n s (Offer a z)

abbrev pub allocate_of : ℕ → HolderAllocator → ℕ → ℕ → ℕ → HolderOutcome
allocate_of n s h z o = made n s (By h (Allocate z o))

abbrev pub reserve_of : ℕ → HolderAllocator → ℕ → ℕ → ℕ → ℕ → HolderOutcome
reserve_of n s h a z o = made n s (By h (Reserve a z o))

abbrev pub free_of : ℕ → HolderAllocator → ℕ → ℕ → ℕ → HolderOutcome
free_of n s h a z = made n s (By h (Free a z))
