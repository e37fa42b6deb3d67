-- Demand 3 of the C calls over one slice, and the lowest figure, in any order, from the last `new` on: of the single ones, and of all. Assumes nothing.
use Prim.Native.Nat.{ℕ}
use mathlib.Core.Bool.{true, false}
use mathlib.Core.List.{List, [], ◌∷◌}
use mathlib.Core.Path.{◌≡◌, refl, sym, ap, ◌∙◌}
use lib.ListN.{length}
use Rattle.linked_lists.proofs.Laws.{true≢false}
use Rattle.rules.specs.Rules.{Call}
use Rattle.rules_engine.specs.Engine.{after, vouchers}
use Rattle.rules_engine.specs.Demand.{left}
use Rattle.pages.specs.Calls.{byte_call}
use Rattle.batch.specs.Histories.{calls_in, vouchers_in}
use Rattle.image_parts.specs.Layout.{Layout, image_size_lem, Figured}
use Rattle.image.specs.Writing.{Image}
use Rattle.image.proofs.Rounds.{framed-back}
use Rattle.c_over.specs.CCalls.{Returned, new_over}
use Rattle.c_over.specs.Images.{images, lowest_stored}
use Rattle.c_over.proofs.Demand.{demand, lowest, new-written}
use Rattle.c_over.proofs.Batches.{image-left, image-kept}
use Rattle.promises.specs.Clients.{ClientDemand}
use Rattle.promises.specs.Lowest.{ClientLowest}
use Rattle.promises.specs.Images.{ImageAct, ImageNew, ImageCall, image_renews, image_gives, image_next, image_client}
use Rattle.promises.specs.AllCalls.{AnyAct, AnyNew, AnyCall, AnyPages, AnyList, any_renews, any_gives, any_next, any_client}
use Rattle.promises.proofs.Clients.{Plays, client-demand, client-lowest}

module _ (f : Layout) (full : Figured f) where
  -- the image of a sound account has the length,
  image-sized : (m : List ℕ) → Image f m → length m ≡ image_size_lem f
  image-sized m i = ap length (sym i.bytes) ∙ (framed-back f full.lawful i.state i.sound).sized

  -- so `new` over it leaves what `new` over any other slice of that length does
  new-again : (l m : List ℕ) → length l ≡ image_size_lem f → Image f m → (new_over f m).bytes ≡ (new_over f l).bytes
  new-again l m sized i = ap (λ (x : Returned). x.bytes) (new-written f full m (image-sized m i) ∙ sym (new-written f full l sized))

  module _ (l : List ℕ) (sized : length l ≡ image_size_lem f) where
    abbrev at : List Call → List ℕ
    at cs = left (images f l) cs

    image : (cs : List Call) → Image f (at cs)
    image cs = (demand f full l sized).always-sound cs

    -- what `new` leaves and gives
    begins : (cs : List Call) → (new_over f (at cs)).bytes ≡ (new_over f l).bytes
    begins cs = new-again l (at cs) sized (image cs)

    calls : ImageAct → List Call
    calls ImageNew = []
    calls (ImageCall c) = c ∷ []

    anew : (a : ImageAct) (cs : List Call) → image_renews a ≡ true → (image_next f a (at cs) ≡ (new_over f l).bytes) × (image_gives f a (at cs) ≡ [])
    anew ImageNew cs e = (begins cs, refl)
    anew (ImageCall c) cs e = true≢false (sym e)

    onward : (a : ImageAct) (cs : List Call) → image_renews a ≡ false
        → (image_next f a (at cs) ≡ after (images f l) (at cs) (calls a)) × (image_gives f a (at cs) ≡ vouchers (images f l) (at cs) (calls a))
    unfolding calls after vouchers
    onward ImageNew cs e = true≢false e
    onward (ImageCall c) cs e = (refl, refl)

    -- Over whatever lies in a slice of the image's length: the call that writes the image of `new`, and then any list of acts.
    pub images-demand : ClientDemand (images f l) (image_client f l)
    images-demand = client-demand (images f l) (image_client f l) (record { calls = calls; anew = anew; onward = onward }) (demand f full l sized)

    pub images-lowest : ClientLowest (images f l) (image_client f l) (lowest_stored f)
    images-lowest = client-lowest (images f l) (image_client f l) (record { calls = calls; anew = anew; onward = onward }) (lowest_stored f) (lowest f full l sized)

    -- ---- pages and lists too

    any-calls : AnyAct → List Call
    any-calls AnyNew = []
    any-calls (AnyCall c) = c ∷ []
    any-calls (AnyPages p) = byte_call p ∷ []
    any-calls (AnyList b) = calls_in b

    any-anew : (a : AnyAct) (cs : List Call) → any_renews a ≡ true → (any_next f a (at cs) ≡ (new_over f l).bytes) × (any_gives f a (at cs) ≡ [])
    any-anew AnyNew cs e = (begins cs, refl)
    any-anew (AnyCall c) cs e = true≢false (sym e)
    any-anew (AnyPages p) cs e = true≢false (sym e)
    any-anew (AnyList b) cs e = true≢false (sym e)

    any-onward : (a : AnyAct) (cs : List Call) → any_renews a ≡ false
        → (any_next f a (at cs) ≡ after (images f l) (at cs) (any-calls a)) × (any_gives f a (at cs) ≡ vouchers (images f l) (at cs) (any-calls a))
    unfolding any-calls after vouchers
    any-onward AnyNew cs e = true≢false e
    any-onward (AnyCall c) cs e = (refl, refl)
    any-onward (AnyPages p) cs e = (refl, refl)
    any-onward (AnyList b) cs e = (image-left f full l (at cs) (image cs) b, image-kept f full l (at cs) (image cs) b)

    pub all-calls-demand : ClientDemand (images f l) (any_client f l)
    all-calls-demand = client-demand (images f l) (any_client f l) (record { calls = any-calls; anew = any-anew; onward = any-onward }) (demand f full l sized)

    pub all-calls-lowest : ClientLowest (images f l) (any_client f l) (lowest_stored f)
    all-calls-lowest = client-lowest (images f l) (any_client f l) (record { calls = any-calls; anew = any-anew; onward = any-onward }) (lowest_stored f) (lowest f full l sized)
