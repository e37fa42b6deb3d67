-- The single C calls over one slice as a client of the images: any of them in any order, the call that writes the image of `new` again among them. f is the
-- layout of the image, l what lies in the slice at first. Assumes nothing.
use Rattle.std.specs.Prelude.{ℕ, Bool, true, false, List, [], ◌∷◌}
use Rattle.rules.specs.Rules.{Call, Voucher}
use Rattle.calls.specs.Calls.{voucher_from}
use Rattle.image_parts.specs.Layout.{Layout}
use Rattle.c_over.specs.CCalls.{call_over_lem, new_over}
use Rattle.c_over.specs.Images.{images}
use Rattle.promises.specs.Clients.{Client}

pub data ImageAct : Type 0 where
  ImageNew : ImageAct
  ImageCall : Call → ImageAct

abbrev pub image_renews : ImageAct → Bool
image_renews ImageNew = true
image_renews (ImageCall c) = false

abbrev pub image_gives : Layout → ImageAct → List ℕ → List Voucher
image_gives f ImageNew m = []
image_gives f (ImageCall c) m = voucher_from c (call_over_lem f c m).number ∷ []

abbrev pub image_next : Layout → ImageAct → List ℕ → List ℕ
image_next f ImageNew m = (new_over f m).bytes
image_next f (ImageCall c) m = (call_over_lem f c m).bytes

abbrev pub image_client : (f : Layout) (l : List ℕ) → Client (images f l)
image_client f l = record { Act = ImageAct; renews = image_renews; gives = image_gives f; next = image_next f }
