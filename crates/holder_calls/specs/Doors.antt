-- The five C calls over one slice: the bytes that a list of calls leaves, and what is kept of them, from the bytes and the signed answers alone. And that these are those of the register
-- above the allocator's C calls, of which demands 2 and 3 hold as request T-07 reads them. Assumes nothing.
use Rattle.std.specs.Prelude.{ℕ, List, [], ◌∷◌, ◌≡◌, ℤ}
use Rattle.calls.specs.Calls.{number_from, address_from}
use Rattle.image_parts.specs.Layout.{Layout}
use Rattle.c_over.specs.Images.{images}
use Rattle.holder_rules.specs.Register.{entries}
use Rattle.holder_rules.specs.Holders.{Call, Voucher}
use Rattle.holder_laws.specs.Demand as demands
use Rattle.holder_image.specs.Bytes.{bytes_of_lem, memory_in}
use Rattle.holder_calls.specs.Calls.{call_over_lem, new_over}

unfoldable pub after : Layout → List ℕ → List Call → List ℕ
after f l [] = l
after f l (c ∷ cs) = after f (call_over_lem f c l).bytes cs

abbrev pub voucher_from : Call → ℤ → Voucher
voucher_from c i = record { call = c; number = number_from i; address = address_from i }

unfoldable pub vouchers : Layout → List ℕ → List Call → List Voucher
vouchers f l [] = []
vouchers f l (c ∷ cs) = voucher_from c (call_over_lem f c l).number ∷ vouchers f (call_over_lem f c l).bytes cs

-- from what the call that begins an image leaves of the bytes l, after any list of calls
pub record AtDoor (f : Layout) (l : List ℕ) : Type 0 where
  pub left : (cs : List Call) → after f (new_over f l).bytes cs ≡ bytes_of_lem f (demands.left (images f (memory_in l)) entries cs)
  pub kept : (cs : List Call) → vouchers f (new_over f l).bytes cs ≡ demands.kept (images f (memory_in l)) entries cs
  pub demand : demands.Demand (images f (memory_in l)) entries
