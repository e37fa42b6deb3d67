-- A list of calls over an image, by each way through the code. Assumes nothing.
use Prim.Native.Nat.{ℕ}
use mathlib.Core.Bool.{true, false}
use mathlib.Core.List.{List}
use mathlib.Core.Path.{◌≡◌, refl, sym, ◌∙◌, ap, subst}
use lib.IntN.{ℤ, pos}
use lib.ListN.{length}
use Rattle.std.specs.Prelude.{Ok, Err}
use Rattle.account_state.specs.Account.{SoundAccount, is_sound_lem}
use Rattle.account_state.specs.declared.Account.{Account}
use Rattle.account_state.specs.declared.Entered.{Entered}
use Rattle.account_state.proofs.Exact.{passes-sound}
use Rattle.calls.specs.Calls.{signed_of}
use Rattle.calls.specs.declared.MemoryError.TheVariants.{InvalidEntry, InvalidRequest}
use Rattle.batch.specs.Lists.{fitted, Served, Serves}
use Rattle.batch.proofs.Histories.{list-sound}
use Rattle.batch.proofs.Ways.{unfitted, done}
use Rattle.bytes_be.specs.Numbers.{Bytes}
use Rattle.image_parts.specs.Layout.{Layout, Lawful, image_size_lem}
use Rattle.image_parts.proofs.Lawful.{small-pool}
use Rattle.image_parts.proofs.Loops.{both}
use Rattle.image_writing.specs.Writing.{entry_at_lem, image_of, Standing}
use Rattle.image_reading.specs.Reading.{account_in, framed, readable}
use Rattle.image_reading.proofs.Whole.{state-sized}
use Rattle.image.proofs.Ways.{framed-frame, unread, read_whole}
use Rattle.image.proofs.Standing.{stands}
use Rattle.image_calls.specs.Lists.{returned, finished, over, list_over_lem, answers_over, BatchOver, Held}

module _ (f : Layout) (l calls : List ℕ) (old : List ℤ) where
  pub no-list : readable f l ≡ false → BatchOver f l calls old (signed_of (Err InvalidEntry)) l old
  unfolding list_over_lem answers_over over
  no-list off = let e = unread f l false (sym off) refl in record { image-now = rw (← e); answers-now = rw (← e) }

  module _ (s : Account) (h : Held f l s) where
    -- what the list is answered and leaves, written
    served-list : (r : Entered) (now : List ℤ) → Serves f.records s calls old r now → (x : ℤ) (l' : List ℕ) → returned x l' ≡ finished f r l → BatchOver f l calls old x l' now
    unfolding list_over_lem answers_over over
    served-list r now sv x l' is =
        let e = read_whole f l true (sym h.serves) refl s h.state in
        record { image-now = rw (← e, ← sv.outcome) is; answers-now = rw (← e) sv.answers }

    passes : is_sound_lem f.records s ≡ true
    passes = rw h.state (both (framed f l) _ h.serves).1

    pub held-sized : length l ≡ image_size_lem f
    held-sized = (framed-frame f l (both (framed f l) _ h.serves).0).sized

    pub list-unfitted : fitted calls (length old) ≡ false → BatchOver f l calls old (signed_of (Err InvalidRequest)) l old
    unfolding finished
    list-unfitted off = served-list _ old (unfitted f.records s calls old passes off) _ l refl

    module _ (lawful : Lawful f) where
      pub held-sound : SoundAccount f.records s
      held-sound = rw h.state (passes-sound f.records (small-pool f lawful) (account_in f l) (state-sized f l) (both (framed f l) _ h.serves).1)

      module _ (fits : fitted calls (length old) ≡ true) (s' : Account) (now : List ℤ) (sv : Served f.records s calls old s' now) where
        outcome : Serves f.records s calls old (record { answer = Ok (record { 0 = 0 }); state = s' }) now
        outcome = done f.records s calls old passes s' now fits sv

        left-sound : SoundAccount f.records s'
        left-sound = subst (SoundAccount f.records) (sym (ap (λ (r : Entered). r.state) outcome.outcome)) (list-sound f.records (small-pool f lawful) s held-sound (record { words = calls; places = old }))

        -- the records that are passed over stand in the image
        pub list-stands : Bytes l → Standing f f.records l (entry_at_lem s'.ranges)
        list-stands bytes = stands f lawful l bytes h.serves s'.ranges left-sound.ranges

        pub list_written : (l' : List ℕ) → l' ≡ image_of f s' → BatchOver f l calls old (pos 0) l' now
        unfolding finished
        list_written l' e = served-list _ now outcome (pos 0) l' (rw e)
