-- What an unchecked call requires is kept here too: by a list of calls, and by an image that is taken in. n is the number of records. Assumes nothing.
use Prim.Native.Nat.{ℕ, ◌≤◌}
use mathlib.Core.Bool.{Bool, true, false, cond}
use mathlib.Core.List.{List}
use mathlib.Core.Path.{◌≡◌, refl, sym, ap, subst, ◌∙◌}
use lib.Dec.{eqb}
use lib.IntN.{ℤ}
use lib.ListN.{length}
use borrow.Author.Tests.{eqb-true}
use Rattle.std.specs.Prelude.{Ok, Err}
use Rattle.linked_lists.specs.Links.{none}
use Rattle.account_state.specs.Account.{SoundAccount}
use Rattle.account_state.specs.declared.Account.{Account}
use Rattle.account_state.specs.declared.Entered.{Entered}
use Rattle.calls.specs.declared.MemoryError.TheVariants.{InvalidEntry}
use Rattle.batch.specs.Lists.{list_served}
use Rattle.batch.proofs.Histories.{list-sound}
use Rattle.account_state.proofs.Exact.{sound-sized}
use Rattle.door_fields.proofs.Sized.{sized-passes}
use Rattle.bytes_be.specs.Numbers.{Bytes}
use Rattle.image_parts.specs.Layout.{Layout, Figured}
use Rattle.image.specs.Reading.{Handed, reading_of}
use Rattle.image.proofs.Rounds.{read_same, accepted-image}
use Rattle.door_lists.specs.Lists.{listed_here_lem, Lists, imported, Imports}

module _ (n : ℕ) (small : n ≤ none) (s : Account) (good : SoundAccount n s) (l : List ℕ) (k : ℕ) where
  listed_same : listed_here_lem n s l k ≡ list_served n s l k
  unfolding listed_here_lem
  listed_same = rw (sized-passes n s.ranges (sound-sized n small s good))

pub list-keeps : (n : ℕ) → n ≤ none → (s s' : Account) (l : List ℕ) (old now : List ℤ) (r : ℤ) → SoundAccount n s → Lists n s l old r s' now → SoundAccount n s'
list-keeps n small s s' l old now r good j =
    let is = j.state ∙ ap (λ (o : Entered). o.state) (listed_same n small s good l (length old)) in
    subst (SoundAccount n) (sym is) (list-sound n small s good (record { words = l; places = old }))

module _ (f : Layout) (full : Figured f) (l : List ℕ) (bytes : Bytes l) where
  read-sound : (reading_of f l).number ≡ 0 → SoundAccount f.records (reading_of f l).state
  read-sound e =
      let i = accepted-image f full.lawful l bytes e in
      let same = sym (ap (reading_of f) i.bytes) ∙ read_same f full i.state i.sound in
      subst (SoundAccount f.records) (sym (ap (λ (r : Handed). r.state) same)) i.sound

  pub import-keeps : (s s' : Account) (r : ℤ) → SoundAccount f.records s → Imports f l r s s' → SoundAccount f.records s'
  unfolding imported
  import-keeps s s' r h j = go (eqb (reading_of f l).number 0) refl j.state
    where
      go : (t : Bool) → eqb (reading_of f l).number 0 ≡ t
          → s' ≡ (cond {A = Entered} t (record { answer = Ok (record { 0 = 0 }); state = (reading_of f l).state }) (record { answer = Err InvalidEntry; state = s })).state
          → SoundAccount f.records s'
      go true e is = subst (SoundAccount f.records) (sym is) (read-sound (eqb-true _ _ e))
      go false e is = subst (SoundAccount f.records) (sym is) h
