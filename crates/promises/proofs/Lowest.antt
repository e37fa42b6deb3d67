-- The promises of accounts by value, each where it is proved. n is the number of records. Assumes nothing.
use Prim.Native.Nat.{ℕ, ◌≤◌}
use Rattle.linked_lists.specs.Links.{none}
use Rattle.rules.specs.Rules.{step}
use Rattle.account_state.proofs.Exact.{passes-sound, sound-passes}
use Rattle.account_calls.proofs.Refusals.{ranges-answer, ranges-left, refused-same}
use Rattle.account_calls.proofs.Demand.{demand, lowest, lowest-from}
use Rattle.promises.specs.Lowest.{AccountPromises}

pub account-promises : (n : ℕ) → n ≤ none → AccountPromises n
account-promises n small = record {
  exact = λ a z. (passes-sound n small a z, sound-passes n small a);
  same_answer = λ a c e. ranges-answer n a (step n c) e;
  same_left = λ a c e. ranges-left n a (step n c) e;
  refused-same = refused-same n small;
  books-close = demand n small;
  lowest-counted = lowest n small;
  lowest-from = lowest-from n small;
}
