-- What a refusal leaves, and which images are refused. Assumes nothing.
use Prim.Native.Nat.{ℕ}
use mathlib.Core.Bool.{Bool, true, false, cond}
use mathlib.Core.List.{List}
use mathlib.Core.Logic.{◌≢◌}
use mathlib.Core.Path.{◌≡◌, refl, sym}
use lib.ListN.{length}
use Rattle.std.specs.Prelude.{Ok, Err}
use Rattle.rules.specs.Rules.{Call}
use Rattle.calls.specs.Calls.{Answer, is_accepted, signed_of, number_from}
use Rattle.calls.specs.declared.MemoryError.TheVariants.{NoEntry, InvalidEntry, NoMemory, InvalidRequest}
use Rattle.account_state.specs.declared.Entered.{Entered}
use Rattle.bytes_be.specs.Numbers.{Bytes}
use Rattle.image_parts.specs.Layout.{Layout, Lawful, image_size_lem}
use Rattle.image_writing.specs.Writing.{image_of}
use Rattle.image.specs.Writing.{Image}
use Rattle.image.proofs.Ways.{framed-not, unframed}
use Rattle.image.proofs.Rounds.{refused-exactly}
use Rattle.c_over.specs.CCalls.{Returned, returned, finished, over, call_over_lem, new_over}
use Rattle.c_over.proofs.Ways.{no_room}

module _ (f : Layout) (l : List ℕ) where
  abbrev Unchanged : Returned → Type 0
  Unchanged x = number_from x.number ≢ 0 → x.bytes ≡ l

  finished-unchanged : (r : Entered) → Unchanged (finished f r l)
  unfolding finished
  finished-unchanged r = go r.answer
    where
      go : (k : Answer) → number_from (signed_of k) ≢ 0 → cond (is_accepted k) (image_of f r.state) l ≡ l
      go (Ok a) d = absurd (d refl)
      go (Err NoEntry) d = refl
      go (Err InvalidEntry) d = refl
      go (Err NoMemory) d = refl
      go (Err InvalidRequest) d = refl

  over-unchanged : (serves : Bool) (r : Entered) → Unchanged (over f serves r l)
  unfolding over
  over-unchanged true r = finished-unchanged r
  over-unchanged false r = λ d. refl

  -- A refusal changes no byte of the image, whatever it is,
  pub refusal-unchanged : (c : Call) → Unchanged (call_over_lem f c l)
  unfolding call_over_lem
  refusal-unchanged c = over-unchanged _ _

  -- also where the image of `new` was asked for.
  pub new-unchanged : Unchanged (new_over f l)
  unfolding new_over
  new-unchanged = over-unchanged _ _

  -- A slice of another length is -2, before all else:
  pub wrong-length : (c : Call) → length l ≢ image_size_lem f → call_over_lem f c l ≡ returned (signed_of (Err InvalidEntry)) l
  unfolding call_over_lem over
  wrong-length c h = rw (← unframed f l false (framed-not f l h) refl)

  pub new-wrong-length : length l ≢ image_size_lem f → new_over f l ≡ returned (signed_of (Err InvalidEntry)) l
  new-wrong-length h = sym (no_room f l h)

  -- and so are bytes that no sound account writes.
  pub no-image : Lawful f → Bytes l → (Image f l → ⊥) → (c : Call) → call_over_lem f c l ≡ returned (signed_of (Err InvalidEntry)) l
  unfolding call_over_lem over
  no-image lawful bytes none-writes c = rw ((refused-exactly f lawful l bytes).1 none-writes)
