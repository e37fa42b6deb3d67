-- The check of an account says yes exactly for a sound one. n is the number of records. Assumes nothing.
use Prim.Native.Nat.{ℕ, ◌≤◌}
use mathlib.Core.Bool.{Bool, true, false, ◌&&◌}
use mathlib.Core.Path.{◌≡◌, refl, sym, ◌∙◌}
use Rattle.linked_lists.specs.Links.{none}
use Rattle.linked_lists.proofs.Laws.{true≢false}
use Rattle.rules.specs.Rules.{empty, sum}
use Rattle.rules_lowest.specs.Lowest.{never, low_sound}
use Rattle.pool_state.specs.State.{state_of}
use Rattle.check_state.specs.IsSound as ranges
use Rattle.check_meaning.specs.Paragraph.{Sized}
use Rattle.check_meaning.proofs.Exact as ranges-exact
use Rattle.account_state.specs.Account.{account, SoundAccount, is_sound_lem}
use Rattle.account_state.specs.declared.Account.{Account}

pub both : (p q : Bool) → (p && q) ≡ true → (p ≡ true) × (q ≡ true)
both true q e = (refl, e)
both false q e = true≢false (sym e)

module _ (n : ℕ) (small : n ≤ none) (a : Account) where
  pub passes-sound : Sized n a.ranges → is_sound_lem n a ≡ true → SoundAccount n a
  passes-sound z e = let p = both (ranges.is_sound_lem n a.ranges) _ e in record { ranges = ranges-exact.passes-sound n small a.ranges z p.0; low = p.1 }

  pub sound-passes : SoundAccount n a → is_sound_lem n a ≡ true
  sound-passes h = rw (ranges-exact.sound-passes n small a.ranges h.ranges, h.low)

  pub sound-sized : SoundAccount n a → Sized n a.ranges
  sound-sized h = ranges-exact.sound-sized n small a.ranges h.ranges
