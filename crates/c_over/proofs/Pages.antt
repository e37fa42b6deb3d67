-- The page calls over an image: demand 3 in pages, and the lines of a page call on the ranges that were read. Assumes nothing.
use Prim.Native.Nat.{ℕ}
use mathlib.Core.Bool.{Bool, true, false}
use mathlib.Core.List.{List}
use mathlib.Core.Path.{◌≡◌, refl, sym, ap, ◌∙◌, subst}
use lib.Dec.{eqb}
use lib.ListN.{length}
use borrow.Author.Tests.{eqb-true}
use Rattle.rules.specs.Rules.{step}
use Rattle.rules_lowest.specs.Lowest.{noted}
use Rattle.calls.specs.Calls.{number_of}
use Rattle.account_state.specs.Account.{account, SoundAccount}
use Rattle.account_state.specs.declared.Account.{Account}
use Rattle.account_state.specs.declared.Entered.{Entered}
use Rattle.account_state.proofs.Exact.{sound-sized, sound-passes}
use Rattle.account_calls.proofs.Judged.{served-judged}
use Rattle.calls.specs.declared.Outcome.{Outcome}
use Rattle.pages.specs.Calls.{PageCall, byte_call}
use Rattle.pages.specs.Demand.{PageDemand}
use Rattle.pages.specs.States.{page_made}
use Rattle.pages.proofs.Same.{page-same}
use Rattle.pages.proofs.Paged.{page-demand}
use Rattle.bytes_be.specs.Numbers.{Bytes}
use Rattle.image_parts.specs.Layout.{Layout, Figured, image_size_lem}
use Rattle.image.specs.Reading.{Handed, reading_of}
use Rattle.image_parts.proofs.Lawful.{small-pool}
use Rattle.image.proofs.Rounds.{read_same, accepted-image}
use Rattle.c_over.specs.CCalls.{over, call_over_lem, pages_over}
use Rattle.c_over.specs.Images.{images, pages_of_images}
use Rattle.c_over.proofs.Demand.{obeys}

-- an outcome on the ranges of an account, with the figure noted
abbrev pub noted_on : Account → Outcome → Entered
noted_on a r = record { answer = r.answer; state = account r.state (noted (number_of r.answer) r.state.free_size a.lowest) }

module _ (f : Layout) (full : Figured f) (l : List ℕ) where
  pub pages-demand : length l ≡ image_size_lem f → PageDemand (images f l) (pages_of_images f l)
  pages-demand sized = page-demand (obeys f full l sized) (pages_of_images f l) (record { answers = λ p m h. refl; leaves = λ p m h. refl })

  -- an image that serves: what the page call's own lines answer on the ranges that were read
  pub pages-read : Bytes l → (p : PageCall) → let a = (reading_of f l).state in
      pages_over f p l ≡ over f (eqb (reading_of f l).number 0) (noted_on a (page_made f.records a.ranges p)) l
  unfolding call_over_lem over
  pages-read bytes p = go (eqb (reading_of f l).number 0) refl
    where
      go : (t : Bool) → eqb (reading_of f l).number 0 ≡ t → let a = (reading_of f l).state in
          call_over_lem f (byte_call p) l ≡ over f (eqb (reading_of f l).number 0) (noted_on a (page_made f.records a.ranges p)) l
      go false e = rw e
      go true e =
          let n = f.records in
          let small = small-pool f full.lawful in
          let a = (reading_of f l).state in
          let i = accepted-image f full.lawful l bytes (eqb-true (reading_of f l).number 0 e) in
          let same : a ≡ i.state = ap (λ (h : Handed). h.state) (ap (reading_of f) (sym i.bytes) ∙ read_same f full i.state i.sound) in
          let sound : SoundAccount n a = subst (SoundAccount n) (sym same) i.sound in
          ap (λ (r : Entered). over f (eqb (reading_of f l).number 0) r l)
          (sym (served-judged n a (step n (byte_call p)) (page_made n a.ranges p) _ (sound-passes n small a sound) (page-same n small a.ranges (sound-sized n small a sound) p) refl))
