-- The calls on a state of one's own, eleven lent fields, as an engine and a client of it: what they answer and leave, by the definitions that their contracts
-- cite. An export changes no field, and an import ends the history: what an image holds has one of its own. `crates/promises/proofs/Own.antt` shows each sentence
-- of the record. n is the number of records. Assumes nothing.
use Rattle.std.specs.Prelude.{ℕ, Bool, true, false, List, [], ◌∷◌, ◌≡◌, ℤ, length, Some, None}
use Rattle.rules.specs.Rules.{Book, Answer, Voucher, step}
use Rattle.rules_engine.specs.Engine.{Engine}
use Rattle.rules_engine.specs.Demand.{Demand}
use Rattle.pool_state.specs.Sound.{book_of}
use Rattle.check_meaning.specs.Paragraph.{Sized}
use Rattle.account_state.specs.Account.{opened, SoundAccount}
use Rattle.account_state.specs.declared.Account.{Account}
use Rattle.account_calls.specs.Made.{judged}
use Rattle.account_calls.specs.Engine.{lowest_in}
use Rattle.calls.specs.Calls.{call_of, signed_of, voucher_from}
use Rattle.batch.specs.InWords.{rule_of, Asked}
use Rattle.batch.specs.Histories.{Batch, vouchers_in}
use Rattle.door_fields.specs.Fields.{asked_here}
use Rattle.door_own.specs.Own.{judged_here}
use Rattle.door_lists.specs.Lists.{listed_here_lem, answered_here}
use Rattle.promises.specs.Clients.{Client, ClientDemand}
use Rattle.promises.specs.Lowest.{ClientLowest}

abbrev pub own : ℕ → Engine
own n = record {
  State = Account;
  new = opened n;
  answer = λ c s. voucher_from c (signed_of (judged_here n (step n c) s).answer);
  next = λ c s. (judged_here n (step n c) s).state;
  book = λ s. book_of n s.ranges;
  total = λ s. s.ranges.free_size;
  Sound = SoundAccount n;
}

-- `new`; a kind and three numbers, page calls among them; a list of calls
pub data OwnAct : Type 0 where
  OwnNew : OwnAct
  OwnCall : ℕ → ℕ → ℕ → ℕ → OwnAct
  OwnList : Batch → OwnAct

abbrev pub own_renews : OwnAct → Bool
own_renews OwnNew = true
own_renews (OwnCall k x y z) = false
own_renews (OwnList b) = false

-- the voucher of what was asked for and answered; an unknown kind leaves none
abbrev pub voucher_if : Asked → ℤ → List Voucher
voucher_if (Some q) i = voucher_from (call_of q) i ∷ []
voucher_if None i = []

abbrev pub own_gives : ℕ → OwnAct → Account → List Voucher
own_gives n OwnNew s = []
own_gives n (OwnCall k x y z) s = voucher_if (asked_here k x y z) (signed_of (judged_here n (rule_of n (asked_here k x y z)) s).answer)
own_gives n (OwnList b) s = vouchers_in b (answered_here n s b.words b.places)

abbrev pub own_next : ℕ → OwnAct → Account → Account
own_next n OwnNew s = opened n
own_next n (OwnCall k x y z) s = (judged_here n (rule_of n (asked_here k x y z)) s).state
own_next n (OwnList b) s = (listed_here_lem n s b.words (length b.places)).state

abbrev pub own_client : (n : ℕ) → Client (own n)
own_client n = record { Act = OwnAct; renews = own_renews; gives = own_gives n; next = own_next n }

pub record OwnPromises (n : ℕ) : Type 0 where
  -- of arrays with as many places as their types say a call answers and leaves what it does on an account by value
  pub same-call : (s : Account) → Sized n s.ranges → (rule : Book → Answer) → judged_here n rule s ≡ judged n rule s
  -- demand 3 of the single calls; and of all acts in any order, from the last `new` on
  pub books-close : Demand (own n)
  pub acts-close : ClientDemand (own n) (own_client n)
  -- and the lowest figure is the least total after an accepted call since then, counted from the calls and their answers alone
  pub lowest-counted : ClientLowest (own n) (own_client n) lowest_in
