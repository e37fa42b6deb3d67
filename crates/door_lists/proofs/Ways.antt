-- What the definitions give on each way through the code. n is the number of records, f the layout of an image. Assumes nothing.
use Prim.Native.Nat.{ℕ, ◌≤◌}
use mathlib.Core.Bool.{Bool, true, false, ◌&&◌}
use mathlib.Core.List.{List}
use mathlib.Core.Path.{◌≡◌, refl, sym, ap, ◌∙◌}
use lib.IntN.{ℤ, pos, neg_ℤ}
use lib.ListN.{length}
use Rattle.std.specs.Prelude.{Err}
use Rattle.linked_lists.specs.Links.{none}
use Rattle.account_state.specs.Account.{SoundAccount, is_sound_lem}
use Rattle.account_state.specs.declared.Account.{Account}
use Rattle.account_state.specs.declared.Entered.{Entered}
use Rattle.account_state.proofs.Exact.{passes-sound}
use Rattle.check_records.proofs.Tests.{and-true}
use Rattle.calls.specs.Calls.{signed_of}
use Rattle.calls.specs.declared.MemoryError.TheVariants.{InvalidEntry, InvalidRequest}
use Rattle.batch.specs.Lists.{fitted, Served, Serves}
use Rattle.batch.proofs.Ways.{unsound, unfitted, done}
use Rattle.door_fields.specs.Fields.{is_sized_lem, sound_here}
use Rattle.door_fields.proofs.Sized.{passes-sized}
use Rattle.image_parts.specs.Layout.{Layout}
use Rattle.image_reading.specs.Reading.{account_in, readable}
use Rattle.image.specs.Writing.{number_of, Written, written, writing_of, ImageAnswer}
use Rattle.image.proofs.Ways.{unread, read_whole}
use Rattle.door_lists.specs.Lists.{listed_here_lem, answered_here, Lists, imported, Imports, Exports}

-- ---- lists

-- fields that pass the check are a sound account
pub held-here : (n : ℕ) → n ≤ none → (s : Account) → sound_here n s ≡ true → SoundAccount n s
held-here n small s h = let w = and-true _ _ h in passes-sound n small s (passes-sized n s.ranges w.0) w.1

module _ (n : ℕ) (s : Account) (l : List ℕ) (old : List ℤ) where
  -- of arrays with the places that their types say, the list is the one on an account by value
  listed : is_sized_lem n s.ranges ≡ true → (w : Entered) (now : List ℤ) → Serves n s l old w now → Lists n s l old (signed_of w.answer) w.state now
  unfolding listed_here_lem answered_here
  listed z w now h =
      record { number = rw z (ap (λ (o : Entered). signed_of o.answer) h.outcome); state = rw z (ap (λ (o : Entered). o.state) h.outcome); answers = rw z h.answers }

  not_listed : is_sized_lem n s.ranges ≡ false → Lists n s l old (signed_of (Err InvalidEntry)) s old
  unfolding listed_here_lem answered_here
  not_listed e = record { number = rw e; state = rw e; answers = rw e }

  pub list-unsound : sound_here n s ≡ false → Lists n s l old (signed_of (Err InvalidEntry)) s old
  list-unsound h = go (is_sized_lem n s.ranges) refl
    where
      go : (t : Bool) → is_sized_lem n s.ranges ≡ t → Lists n s l old (signed_of (Err InvalidEntry)) s old
      go true e = listed e _ old (unsound n s l old (sym (ap (λ (t : Bool). t && is_sound_lem n s) e) ∙ h))
      go false e = not_listed e

  module _ (on : sound_here n s ≡ true) where
    pub list-unfitted : fitted l (length old) ≡ false → Lists n s l old (signed_of (Err InvalidRequest)) s old
    list-unfitted off = let w = and-true _ _ on in listed w.0 _ old (unfitted n s l old w.1 off)

    pub list_done : fitted l (length old) ≡ true → (s' : Account) (now : List ℤ) → Served n s l old s' now → Lists n s l old (pos 0) s' now
    list_done fits s' now h = let w = and-true _ _ on in listed w.0 _ now (done n s l old w.1 s' now fits h)

-- ---- images

module _ (f : Layout) (l : List ℕ) (s : Account) where
  pub import-done : readable f l ≡ true → (s' : Account) → s' ≡ account_in f l → Imports f l (pos 0) s s'
  unfolding imported
  import-done on s' is = let e = read_whole f l true (sym on) refl (account_in f l) refl in record { number = rw (← e); state = rw (← e) is }

  pub import-refused : readable f l ≡ false → Imports f l (signed_of (Err InvalidEntry)) s s
  unfolding imported
  import-refused off = let e = unread f l false (sym off) refl in record { number = rw (← e); state = rw (← e) }

pub exported : (f : Layout) (s : Account) (l l' : List ℕ) (a : ImageAnswer) → written a l' ≡ writing_of f s l → Exports f s l (neg_ℤ (pos (number_of a))) l'
exported f s l l' a h = record { number = ap (λ (w : Written). neg_ℤ (pos w.number)) h; bytes = ap (λ (w : Written). w.bytes) h }
