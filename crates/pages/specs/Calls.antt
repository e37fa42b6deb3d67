-- Page calls, and lists of them made at a door for pages over any engine. Assumes nothing.
use Rattle.std.specs.Prelude.{ℕ, ◌*◌, Bool, List, [], ◌∷◌}
use Rattle.rules.specs.Rules.{Call, Free, Allocate, Voucher, covers}
use Rattle.rules_engine.specs.Engine.{Engine, free_in_lem}
use Rattle.pages.specs.Pages.{page, bytes_of_lem, raised, freed_bytes_lem}

-- count and order; address and count
pub data PageCall : Type 0 where
  AllocatePages : ℕ → ℕ → PageCall
  FreePages : ℕ → ℕ → PageCall

-- the call of the allocator that it is
abbrev pub byte_call : PageCall → Call
byte_call (AllocatePages c o) = Allocate (bytes_of_lem c) (raised o)
byte_call (FreePages a c) = Free a (freed_bytes_lem a c)

-- what a page call answers, kept as the voucher of that call, and the state that it leaves
pub record Door (e : Engine) : Type 0 where
  pub answer : PageCall → e.State → Voucher
  pub next : PageCall → e.State → e.State

-- the state that a list of page calls leaves
unfoldable pub after : (e : Engine) → Door e → e.State → List PageCall → e.State
after e d s [] = s
after e d s (p ∷ ps) = after e d (d.next p s) ps

-- their vouchers, oldest first
unfoldable pub vouchers : (e : Engine) → Door e → e.State → List PageCall → List Voucher
vouchers e d s [] = []
vouchers e d s (p ∷ ps) = d.answer p s ∷ vouchers e d (d.next p s) ps

-- page k is the bytes k * 4096 to k * 4096 + 4095; it is free, or covered, as its first byte is
abbrev pub first_byte : ℕ → ℕ
first_byte k = k * page

abbrev pub page_free : (e : Engine) → e.State → ℕ → Bool
page_free e s k = free_in_lem e s (first_byte k)

abbrev pub covers_page : Voucher → ℕ → Bool
covers_page v k = covers v (first_byte k)
