-- All C calls over one slice as a client of the images: single calls, page calls and lists in any order, the call that writes the image of `new` again among them. f is the layout
-- of the image, l what lies in the slice at first. Assumes nothing.
use Rattle.std.specs.Prelude.{ℕ, Bool, true, false, List, [], ◌∷◌, length}
use Rattle.rules.specs.Rules.{Call, Voucher}
use Rattle.calls.specs.Calls.{voucher_from}
use Rattle.pages.specs.Calls.{PageCall, byte_call}
use Rattle.batch.specs.Histories.{Batch, vouchers_in}
use Rattle.image_parts.specs.Layout.{Layout}
use Rattle.c_over.specs.CCalls.{call_over_lem, pages_over, new_over}
use Rattle.c_over.specs.Lists.{list_over_lem, answers_over}
use Rattle.c_over.specs.Images.{images}
use Rattle.promises.specs.Clients.{Client}

pub data AnyAct : Type 0 where
  AnyNew : AnyAct
  AnyCall : Call → AnyAct
  AnyPages : PageCall → AnyAct
  AnyList : Batch → AnyAct

abbrev pub any_renews : AnyAct → Bool
any_renews AnyNew = true
any_renews (AnyCall c) = false
any_renews (AnyPages p) = false
any_renews (AnyList b) = false

abbrev pub any_gives : Layout → AnyAct → List ℕ → List Voucher
any_gives f AnyNew m = []
any_gives f (AnyCall c) m = voucher_from c (call_over_lem f c m).number ∷ []
any_gives f (AnyPages p) m = voucher_from (byte_call p) (pages_over f p m).number ∷ []
any_gives f (AnyList b) m = vouchers_in b (answers_over f b.words b.places m)

abbrev pub any_next : Layout → AnyAct → List ℕ → List ℕ
any_next f AnyNew m = (new_over f m).bytes
any_next f (AnyCall c) m = (call_over_lem f c m).bytes
any_next f (AnyPages p) m = (pages_over f p m).bytes
any_next f (AnyList b) m = (list_over_lem f b.words (length b.places) m).bytes

abbrev pub any_client : (f : Layout) (l : List ℕ) → Client (images f l)
any_client f l = record { Act = AnyAct; renews = any_renews; gives = any_gives f; next = any_next f }
