-- The calls on a state of one's own obey the rules; demand 3 of all of them, in any order, from the last `new` on, and the lowest figure. n is the number of records. Assumes nothing.
use Prim.Native.Nat.{ℕ, ◌≤◌}
use mathlib.Core.Bool.{true, false}
use mathlib.Core.List.{List, [], ◌∷◌}
use mathlib.Core.Path.{◌≡◌, refl, sym, ap, subst, ◌∙◌}
use lib.IntN.{ℤ}
use lib.ListN.{length}
use Rattle.std.specs.Prelude.{Some, None}
use Rattle.linked_lists.specs.Links.{none}
use Rattle.linked_lists.proofs.Laws.{true≢false}
use Rattle.rules.specs.Rules.{Book, Answer, Call, Voucher, step, sum, total}
use Rattle.rules.specs.Sound.{Sound}
use Rattle.rules_engine.specs.Engine.{after, vouchers}
use Rattle.rules_engine.specs.Demand.{left, Demand}
use Rattle.rules_engine.proofs.Obeys.{Obeys}
use Rattle.rules_engine.proofs.Demand as engine
use Rattle.pool_state.specs.State.{state_of}
use Rattle.pool_state.specs.Sound.{book_of}
use Rattle.pool_state.proofs.Book.{book-back}
use Rattle.rules_lowest.specs.Lowest.{never, noted}
use Rattle.rules_lowest.specs.Carried.{Lowest}
use Rattle.rules_lowest.proofs.Least.{noted-sound}
use Rattle.rules_lowest.proofs.Carried as figure
use Rattle.rules_lowest.proofs.Carried.{Carries}
use Rattle.account_state.specs.Account.{account, SoundAccount}
use Rattle.account_state.specs.declared.Account.{Account}
use Rattle.account_state.specs.declared.Entered.{Entered}
use Rattle.account_state.proofs.Exact.{sound-sized}
use Rattle.calls.specs.Calls.{call_of, signed_of, voucher_of, voucher_from}
use Rattle.calls.proofs.Numbers.{signed-voucher}
use Rattle.account_calls.specs.Made.{judged, made}
use Rattle.account_calls.specs.Engine.{accounts, lowest_in}
use Rattle.account_calls.proofs.Steps.{sound-held, made_held, made-voucher}
use Rattle.account_calls.proofs.Demand.{OfBook}
use Rattle.batch.specs.InWords.{rule_of, Asked}
use Rattle.batch.specs.Lists.{list_served, answered}
use Rattle.batch.specs.Histories.{Batch, calls_in, vouchers_in}
use Rattle.batch.proofs.Histories.{made-sound, unknown-left, list_left, list-kept}
use Rattle.door_fields.specs.Fields.{asked_here}
use Rattle.door_fields.proofs.Sized.{sized-passes}
use Rattle.door_own.specs.Own.{judged_here}
use Rattle.door_own.proofs.Own.{same-judged}
use Rattle.door_lists.specs.Lists.{listed_here_lem, answered_here}
use Rattle.promises.specs.Own.{own, OwnAct, OwnNew, OwnCall, OwnList, own_renews, voucher_if, own_gives, own_next, own_client, OwnPromises}
use Rattle.promises.proofs.Clients.{Plays, client-demand, client-lowest}

module _ (n : ℕ) (small : n ≤ none) where
  -- on a sound state a call is the call by value
  same : (s : Account) → SoundAccount n s → (rule : Book → Answer) → judged_here n rule s ≡ judged n rule s
  same s h rule = same-judged n small s rule (sound-sized n small s h)

  next-is : (s : Account) → SoundAccount n s → (c : Call) → (own n).next c s ≡ (accounts n).next c s
  next-is s h c = ap (λ (r : Entered). r.state) (same s h (step n c))

  answer-is : (s : Account) → SoundAccount n s → (c : Call) → (own n).answer c s ≡ (accounts n).answer c s
  answer-is s h c = ap (λ (r : Entered). voucher_from c (signed_of r.answer)) (same s h (step n c)) ∙ signed-voucher c (made n s c).answer

  -- what a call leaves of the account that holds a book
  leaves-book : (b : Book) (s : Account) (c : Call) → Sound n b → (o : OfBook n b s)
      → (own n).next c s ≡ account (state_of n (step n c b).book) (noted (step n c b).number (total (step n c b).book) o.low)
  leaves-book b s c h o =
      ap ((own n).next c) o.is ∙ next-is (account (state_of n b) o.low) (sound-held n small b o.low h o.fits) c
      ∙ ap (λ (r : Entered). r.state) (made_held n small b o.low c h o.fits)

  pub obeys : Obeys n (own n)
  unfolding state_of sum
  obeys = record {
    Of = OfBook n;
    begins = record { low = never; fits = refl; is = refl };
    answers = λ b s c h o.
        ap ((own n).answer c) o.is ∙ answer-is (account (state_of n b) o.low) (sound-held n small b o.low h o.fits) c ∙ made-voucher n small b o.low c h o.fits;
    leaves = λ b s c h o. record {
      low = noted (step n c b).number (total (step n c b).book) o.low;
      fits = noted-sound n b c h o.low o.fits;
      is = leaves-book b s c h o;
    };
    shows = λ b s h o. ap (λ (x : Account). book_of n x.ranges) o.is ∙ book-back n small b h;
    counts = λ b s h o. ap (λ (x : Account). x.ranges.free_size) o.is;
    sound = λ b s h o. subst (SoundAccount n) (sym o.is) (sound-held n small b o.low h o.fits);
  }

  pub own-demand : Demand (own n)
  own-demand = engine.demand obeys

  carries : Carries obeys lowest_in
  unfolding obeys
  carries = record {
    begins = refl;
    notes = λ b s c h o. ap lowest_in (leaves-book b s c h o) ∙ ap (noted (step n c b).number (total (step n c b).book)) (sym (ap lowest_in o.is));
  }

  own-lowest : Lowest (own n) lowest_in
  own-lowest = figure.lowest obeys lowest_in carries

  -- ---- lists of calls

  after_is : (s : Account) → SoundAccount n s → (cs : List Call) → after (accounts n) s cs ≡ after (own n) s cs
  unfolding after
  after_is s h [] = refl
  after_is s h (c ∷ cs) = after_is (made n s c).state (made-sound n small s h c) cs ∙ ap (λ (t : Account). after (own n) t cs) (sym (next-is s h c))

  vouchers-are : (s : Account) → SoundAccount n s → (cs : List Call) → vouchers (accounts n) s cs ≡ vouchers (own n) s cs
  unfolding vouchers
  vouchers-are s h [] = refl
  vouchers-are s h (c ∷ cs) =
      let first = sym (answer-is s h c) in
      let others = vouchers-are (made n s c).state (made-sound n small s h c) cs ∙ ap (λ (t : Account). vouchers (own n) t cs) (sym (next-is s h c)) in
      (λ i. first i ∷ others i)

  -- on a sound state a list is the list by value
  listed_same : (s : Account) → SoundAccount n s → (l : List ℕ) (k : ℕ) → listed_here_lem n s l k ≡ list_served n s l k
  unfolding listed_here_lem
  listed_same s h l k = rw (sized-passes n s.ranges (sound-sized n small s h))

  answered-same : (s : Account) → SoundAccount n s → (l : List ℕ) (old : List ℤ) → answered_here n s l old ≡ answered n s l old
  unfolding answered_here
  answered-same s h l old = rw (sized-passes n s.ranges (sound-sized n small s h))

  -- ---- the acts

  abbrev at : List Call → Account
  at cs = left (own n) cs

  sound : (cs : List Call) → SoundAccount n (at cs)
  sound cs = own-demand.always-sound cs

  asks : Asked → List Call
  asks (Some q) = call_of q ∷ []
  asks None = []

  calls : OwnAct → List Call
  calls OwnNew = []
  calls (OwnCall k x y z) = asks (asked_here k x y z)
  calls (OwnList b) = calls_in b

  asked-onward : (q : Asked) (s : Account) → SoundAccount n s
      → ((judged_here n (rule_of n q) s).state ≡ after (own n) s (asks q)) × (voucher_if q (signed_of (judged_here n (rule_of n q) s).answer) ≡ vouchers (own n) s (asks q))
  unfolding asks after vouchers
  asked-onward (Some q) s h = (refl, refl)
  asked-onward None s h = (ap (λ (r : Entered). r.state) (same s h (rule_of n None)) ∙ unknown-left n small s h, refl)

  anew : (a : OwnAct) (cs : List Call) → own_renews a ≡ true → (own_next n a (at cs) ≡ (own n).new) × (own_gives n a (at cs) ≡ [])
  anew OwnNew cs e = (refl, refl)
  anew (OwnCall k x y z) cs e = true≢false (sym e)
  anew (OwnList b) cs e = true≢false (sym e)

  onward : (a : OwnAct) (cs : List Call) → own_renews a ≡ false
      → (own_next n a (at cs) ≡ after (own n) (at cs) (calls a)) × (own_gives n a (at cs) ≡ vouchers (own n) (at cs) (calls a))
  unfolding calls
  onward OwnNew cs e = true≢false e
  onward (OwnCall k x y z) cs e = asked-onward (asked_here k x y z) (at cs) (sound cs)
  onward (OwnList b) cs e =
      let state = ap (λ (r : Entered). r.state) (listed_same (at cs) (sound cs) b.words (length b.places)) in
      let places = ap (vouchers_in b) (answered-same (at cs) (sound cs) b.words b.places) in (
        state ∙ list_left n small (at cs) (sound cs) b ∙ after_is (at cs) (sound cs) (calls_in b),
        places ∙ list-kept n small (at cs) (sound cs) b ∙ vouchers-are (at cs) (sound cs) (calls_in b),
      )

  plays : Plays (own n) (own_client n)
  plays = record { calls = calls; anew = anew; onward = onward }

  -- acts: from fields that hold the empty allocator, after any list of them
  pub own-promises : OwnPromises n
  own-promises = record {
    same-call = λ s z rule. same-judged n small s rule z;
    books-close = own-demand;
    acts-close = client-demand (own n) (own_client n) plays own-demand;
    lowest-counted = client-lowest (own n) (own_client n) plays lowest_in own-lowest;
  }
