-- What an unchecked call requires holds by construction: of a new account, and of whatever a call leaves of an account of which it holds.
-- n is the number of records. Assumes nothing.
use Prim.Native.Nat.{ℕ, ◌≤◌}
use mathlib.Core.Path.{◌≡◌, refl, sym, ap, subst, ◌∙◌}
use lib.IntN.{ℤ}
use Rattle.linked_lists.specs.Links.{none}
use Rattle.rules.specs.Rules.{empty, sum}
use Rattle.rules_laws.proofs.Kept.{empty-sound}
use Rattle.rules_lowest.specs.Lowest.{never}
use Rattle.account_state.specs.Account.{opened, SoundAccount}
use Rattle.account_state.specs.declared.Account.{Account}
use Rattle.account_state.specs.declared.Entered.{Entered}
use Rattle.account_state.proofs.Exact.{sound-sized}
use Rattle.account_calls.proofs.Steps.{sound-held}
use Rattle.batch.specs.InWords.{rule_of, Asked}
use Rattle.batch.proofs.Histories.{served-sound}
use Rattle.door_own.specs.Own.{Judged}
use Rattle.door_own.proofs.Own.{same-judged}

pub new-sound : (n : ℕ) → n ≤ none → SoundAccount n (opened n)
unfolding sum
new-sound n small = sound-held n small empty never (empty-sound n) refl

pub call-keeps : (n : ℕ) → n ≤ none → (a a' : Account) (q : Asked) (r : ℤ) → SoundAccount n a → Judged n (rule_of n q) r a a' → SoundAccount n a'
call-keeps n small a a' q r h j =
    let same = j.state ∙ ap (λ (o : Entered). o.state) (same-judged n small a (rule_of n q) (sound-sized n small a h)) in
    subst (SoundAccount n) (sym same) (served-sound n small a h q)
