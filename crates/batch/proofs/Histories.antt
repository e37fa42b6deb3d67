-- Lists of lists leave the states and the vouchers of their calls, made one by one; so demand 3 holds of them, and what is promised of the lowest figure. Assumes nothing.
use Prim.Native.Nat.{ℕ, ◌≤◌}
use mathlib.Core.Bool.{Bool, true, false}
use mathlib.Core.List.{List, [], ◌∷◌, ◌++◌}
use mathlib.Core.Path.{◌≡◌, refl, sym, ap, ◌∙◌, subst}
use lib.IntN.{ℤ}
use lib.ListN.{length, drop}
use Rattle.std.specs.Prelude.{Some, None}
use Rattle.linked_lists.specs.Links.{none}
use Rattle.rules.specs.Rules.{Book, Call, total, step}
use Rattle.rules.specs.Sound.{Sound}
use Rattle.rules_laws.proofs.Steps.{step-sound}
use Rattle.rules_engine.specs.Engine.{Engine, after, vouchers}
use Rattle.rules_engine.specs.Demand.{left, DemandOf, Demand}
use Rattle.rules_engine.proofs.Histories.{after-append, vouchers-append, carried}
use Rattle.pool_state.specs.Sound.{book_of}
use Rattle.rules_lowest.specs.Lowest.{noted, low_sound}
use Rattle.rules_lowest.specs.Carried.{LowestOf, Lowest}
use Rattle.rules_lowest.proofs.Least.{noted-sound}
use Rattle.rules_lowest.proofs.Carried as figure
use Rattle.pool_state.proofs.Book.{sound-holds}
use Rattle.account_state.specs.Account.{account, opened, SoundAccount}
use Rattle.account_state.specs.declared.Account.{Account}
use Rattle.account_state.proofs.Exact.{sound-passes}
use Rattle.calls.specs.Calls.{call_of}
use Rattle.account_state.specs.declared.Entered.{Entered}
use Rattle.calls.proofs.Numbers.{signed-voucher}
use Rattle.account_calls.specs.Made.{held, made}
use Rattle.account_calls.specs.Engine.{accounts}
use Rattle.account_calls.specs.Engine.{lowest_in}
use Rattle.account_calls.proofs.Steps.{sound-held}
use Rattle.account_calls.proofs.Judged.{passed-judged}
use Rattle.account_calls.proofs.Demand.{demand, lowest}
use Rattle.batch.specs.InWords.{asked, rule_of, Asked}
use Rattle.batch.specs.Lists.{served_of, left_by, answers_of, fitted, list_served, answered}
use Rattle.batch.specs.Histories.{Batch, Door, known, kept, calls_in, vouchers_in, after_lists, vouchers_of_lists, account_door}

-- ---- any engine

-- what is to be shown of a door, list by list: it leaves and keeps what the calls do
pub record Faithful (e : Engine) (d : Door e) : Type 0 where
  pub next-is : (cs : List Call) (b : Batch) → d.next b (left e cs) ≡ after e (left e cs) (calls_in b)
  pub kept-is : (cs : List Call) (b : Batch) → vouchers_in b (d.answers b (left e cs)) ≡ vouchers e (left e cs) (calls_in b)

abbrev all_calls : List Batch → List Call
all_calls [] = []
all_calls (b ∷ bs) = calls_in b ++ all_calls bs

module _ (e : Engine) (d : Door e) (f : Faithful e d) where
  -- a list of calls, and a list behind it
  behind : (cs : List Call) (b : Batch) → left e (cs ++ calls_in b) ≡ d.next b (left e cs)
  behind cs b = after-append e e.new cs (calls_in b) ∙ sym (f.next-is cs b)

  calls-left : (cs : List Call) (bs : List Batch) → after e (left e cs) (all_calls bs) ≡ after_lists e d (left e cs) bs
  unfolding after after_lists
  calls-left cs [] = refl
  calls-left cs (b ∷ bs) =
      after-append e (left e cs) (calls_in b) (all_calls bs)
      ∙ ap (λ (s : e.State). after e s (all_calls bs)) (sym (f.next-is cs b) ∙ sym (behind cs b))
      ∙ calls-left (cs ++ calls_in b) bs
      ∙ ap (λ (s : e.State). after_lists e d s bs) (behind cs b)

  calls-kept : (cs : List Call) (bs : List Batch) → vouchers e (left e cs) (all_calls bs) ≡ vouchers_of_lists e d (left e cs) bs
  unfolding vouchers vouchers_of_lists
  calls-kept cs [] = refl
  calls-kept cs (b ∷ bs) =
      let first = sym (f.kept-is cs b) in
      let rest =
      ap (λ (s : e.State). vouchers e s (all_calls bs)) (sym (f.next-is cs b) ∙ sym (behind cs b))
      ∙ calls-kept (cs ++ calls_in b) bs
      ∙ ap (λ (s : e.State). vouchers_of_lists e d s bs) (behind cs b) in
      vouchers-append e (left e cs) (calls_in b) (all_calls bs) ∙ (λ i. first i ++ rest i)

  -- What is promised of a figure that the states carry, of lists of lists.
  pub lowest-of-lists : (low : e.State → ℕ) → Lowest e low → LowestOf e low (List Batch) (after_lists e d e.new) (vouchers_of_lists e d e.new)
  unfolding after
  lowest-of-lists low = figure.carried e low (List Call) (List Batch) (left e) (vouchers e e.new) (after_lists e d e.new) (vouchers_of_lists e d e.new) all_calls (calls-left []) (calls-kept [])

  -- Demand 3 of lists of lists, from the first state on.
  pub of-lists : Demand e → DemandOf e (List Batch) (after_lists e d e.new) (vouchers_of_lists e d e.new)
  unfolding after
  of-lists = carried e (List Call) (List Batch) (left e) (vouchers e e.new) (after_lists e d e.new) (vouchers_of_lists e d e.new) all_calls (calls-left []) (calls-kept [])

-- ---- the accounts

module _ (n : ℕ) (small : n ≤ none) where
  rule-sound : (b : Book) (q : Asked) → Sound n b → Sound n (rule_of n q b).book
  rule-sound b (Some q) h = step-sound n b (call_of q) h
  rule-sound b None h = h

  rule_fits : (b : Book) (q : Asked) → Sound n b → (low : ℕ) → low_sound (total b) low ≡ true
      → low_sound (total (rule_of n q b).book) (noted (rule_of n q b).number (total (rule_of n q b).book) low) ≡ true
  rule_fits b (Some q) h low ok = noted-sound n b (call_of q) h low ok
  rule_fits b None h low ok = ok

  -- one call on a sound account
  module _ (s : Account) (h : SoundAccount n s) where
    low_fits : low_sound (total (book_of n s.ranges)) s.lowest ≡ true
    low_fits = ap (λ (t : ℕ). low_sound t s.lowest) (sym (sound-holds n s.ranges h.ranges).counts) ∙ h.low

    served-held : (q : Asked) → served_of n s q ≡ held n s.lowest (rule_of n q (book_of n s.ranges))
    served-held q = passed-judged n s (rule_of n q) (sound-passes n small s h)

    pub served-sound : (q : Asked) → SoundAccount n (served_of n s q).state
    served-sound q =
        let b = book_of n s.ranges in
        subst (λ (r : Entered). SoundAccount n r.state) (sym (served-held q)) (sound-held n small _ _ (rule-sound b q h.ranges.book) (rule_fits b q h.ranges.book s.lowest low_fits))

    pub made-sound : (c : Call) → SoundAccount n (made n s c).state
    made-sound c =
        let b = book_of n s.ranges in
        subst (λ (r : Entered). SoundAccount n r.state) (sym (passed-judged n s (step n c) (sound-passes n small s h)))
        (sound-held n small _ _ (step-sound n b c h.ranges.book) (noted-sound n b c h.ranges.book s.lowest low_fits))

    -- an unknown kind leaves the account
    pub unknown-left : (served_of n s None).state ≡ s
    unknown-left = ap (λ (r : Entered). r.state) (served-held None) ∙ (λ z. account (h.ranges.state z) s.lowest)

  pub left-sound : (s : Account) → SoundAccount n s → (qs : List Asked) → SoundAccount n (left_by n s qs)
  unfolding left_by
  left-sound s h [] = h
  left-sound s h (q ∷ qs) = left-sound (served_of n s q).state (served-sound s h q) qs

  pub left-known : (s : Account) → SoundAccount n s → (qs : List Asked) → left_by n s qs ≡ after (accounts n) s (known qs)
  unfolding left_by after known
  left-known s h [] = refl
  left-known s h (Some q ∷ qs) = left-known (made n s (call_of q)).state (served-sound s h (Some q)) qs
  left-known s h (None ∷ qs) = ap (λ (t : Account). left_by n t qs) (unknown-left s h) ∙ left-known s h qs

  pub kept-known : (s : Account) → SoundAccount n s → (qs : List Asked) (rest : List ℤ) → kept qs (answers_of n s qs ++ rest) ≡ vouchers (accounts n) s (known qs)
  unfolding answers_of vouchers known kept
  kept-known s h [] rest = refl
  kept-known s h (Some q ∷ qs) rest =
      let first = signed-voucher (call_of q) (made n s (call_of q)).answer in
      let others = kept-known (made n s (call_of q)).state (served-sound s h (Some q)) qs rest in
      (λ i. first i ∷ others i)
  kept-known s h (None ∷ qs) rest = ap (λ (t : Account). kept qs (answers_of n t qs ++ rest)) (unknown-left s h) ∙ kept-known s h qs rest

  -- a list on a sound state
  module _ (s : Account) (h : SoundAccount n s) (b : Batch) where
    pub list_left : (account_door n).next b s ≡ after (accounts n) s (calls_in b)
    unfolding list_served after
    list_left = go (fitted b.words (length b.places)) refl
      where
        go : (t : Bool) → fitted b.words (length b.places) ≡ t → (account_door n).next b s ≡ after (accounts n) s (calls_in b)
        go true e = rw (sound-passes n small s h, e) (left-known s h (asked b.words))
        go false e = rw (sound-passes n small s h, e)

    pub list-sound : SoundAccount n ((account_door n).next b s)
    unfolding list_served
    list-sound = go (fitted b.words (length b.places)) refl
      where
        go : (t : Bool) → fitted b.words (length b.places) ≡ t → SoundAccount n ((account_door n).next b s)
        go true e = rw (sound-passes n small s h, e) (left-sound s h (asked b.words))
        go false e = rw (sound-passes n small s h, e) h

    pub list-kept : vouchers_in b ((account_door n).answers b s) ≡ vouchers (accounts n) s (calls_in b)
    unfolding answered vouchers
    list-kept = go (fitted b.words (length b.places)) refl
      where
        go : (t : Bool) → fitted b.words (length b.places) ≡ t → vouchers_in b ((account_door n).answers b s) ≡ vouchers (accounts n) s (calls_in b)
        go true e = rw (sound-passes n small s h, e) (kept-known s h (asked b.words) (drop (length (answers_of n s (asked b.words))) b.places))
        go false e = rw e

  pub faithful : Faithful (accounts n) (account_door n)
  faithful = record {
    next-is = λ cs b. list_left (left (accounts n) cs) ((demand n small).always-sound cs) b;
    kept-is = λ cs b. list-kept (left (accounts n) cs) ((demand n small).always-sound cs) b;
  }

  pub lists-demand : DemandOf (accounts n) (List Batch) (after_lists (accounts n) (account_door n) (opened n)) (vouchers_of_lists (accounts n) (account_door n) (opened n))
  lists-demand = of-lists (accounts n) (account_door n) faithful (demand n small)

  pub lists-lowest : LowestOf (accounts n) lowest_in (List Batch) (after_lists (accounts n) (account_door n) (opened n)) (vouchers_of_lists (accounts n) (account_door n) (opened n))
  lists-lowest = lowest-of-lists (accounts n) (account_door n) faithful lowest_in (lowest n small)
