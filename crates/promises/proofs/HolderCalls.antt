-- The C calls of the register are its calls by value, on the state that the image holds. Between the two stands the register above an account: its image is what the C calls have, its ranges
-- are what the calls by value have. Assumes nothing.
use Prim.Native.Nat.{ℕ, zero, suc, ◌^◌, ◌≤◌, ◌<◌}
use mathlib.Core.Bool.{true, cond}
use mathlib.Core.List.{List, [], ◌∷◌}
use mathlib.Core.Path.{◌≡◌, refl, sym, ap, ◌∙◌, subst}
use native.Mathlib.Omega.{arith}
use lib.Dec.{eqb}
use lib.IntN.{pos}
use lib.ListN.{length, length-drop}
use borrow.Author.Tests.{eq-eqb, ne_eqb}
use Rattle.linked_lists.specs.Links.{none}
use Rattle.rules.specs.Rules as rules
use Rattle.rules.specs.Rules.{Book}
use Rattle.rules_lowest.specs.Lowest.{never, noted}
use Rattle.rules_lowest.proofs.Least.{noted-refused}
use Rattle.rules_laws.proofs.Steps.{step-sound}
use Rattle.account_state.specs.Account.{account, SoundAccount}
use Rattle.account_state.specs.declared.Account.{Account}
use Rattle.account_calls.specs.Engine.{accounts}
use Rattle.account_calls.proofs.Demand.{obeys, stands, carries}
use Rattle.memory_allocator.specs.States.{states}
use Rattle.image_parts.specs.Layout.{Layout, Figured, length_size, image_size_lem}
use Rattle.image_parts.proofs.Lawful.{small-pool}
use Rattle.image_writing.specs.Writing as allocator
use Rattle.c_over.specs.CCalls.{Returned, returned}
use Rattle.c_over.specs.Images.{images}
use Rattle.c_over.proofs.Images.{call-bytes, call-voucher}
use Rattle.c_over.proofs.Demand.{new-written}
use Rattle.holder_rules.specs.Register.{entries, blanks}
use Rattle.holder_rules.specs.Holders.{Holding, both, Answer, Call, below, step, Voucher, voucher, run, trail}
use Rattle.holder_rules.specs.Sound.{SoundRegister}
use Rattle.holder_rules.specs.States.{holding_of, with_register, new_of}
use Rattle.holder_rules.specs.declared.Entry.{Entry}
use Rattle.holder_rules.specs.declared.HolderAllocator.{HolderAllocator}
use Rattle.holder_laws.proofs.Demand as laws
use Rattle.holder_laws.proofs.Outcomes.{Kept, comes}
use Rattle.holder_laws.proofs.Keeps.{step_keeps}
use Rattle.holder_laws.proofs.Entries.{comes-sized}
use Rattle.holder_laws.proofs.Ends.{Ends, stays, goes, ends}
use Rattle.holder_laws.proofs.Alike.{turned, shown, step-alike}
use Rattle.holder_serve.specs.Made.{voucher_of, made}
use Rattle.holder_serve.specs.Made as outcome
use Rattle.holder_serve.specs.declared.HolderOutcome.{HolderOutcome}
use Rattle.holder_serve.proofs.Ladders.{sound-made}
use Rattle.holder_image.specs.Layout.{memory_at, whole_size, rest_of}
use Rattle.holder_image.specs.Bytes.{bytes_of_lem, memory_in, holding_in}
use Rattle.holder_image.proofs.Fitting.{sound-fits}
use Rattle.holder_image.proofs.Rounds.{holding-back}
use Rattle.holder_images.specs.Writing.{SoundWith, image_of}
use Rattle.holder_images.specs.Reading as reads
use Rattle.holder_images.proofs.Rounds.{passes, read-written}
use Rattle.holder_calls.specs.Calls.{serves, signed, finished, over, call_over_lem, new_over}
use Rattle.holder_calls.specs.Doors.{voucher_from, after, vouchers}
use Rattle.promises.specs.HolderImages.{noted_after, as_returned}
use Rattle.promises.proofs.Holders.{ranges_of, ranges-answers, ranges-leaves, kept-account}
use Rattle.promises.proofs.HolderVouchers.{told}
use Rattle.promises.proofs.HolderServed.{read-served}

module _ (f : Layout) (full : Figured f) (small : rest_of f < 256 ^ length_size) where
  abbrev pub n : ℕ
  n = f.records

  abbrev pub few : n ≤ none
  few = small-pool f full.lawful

  module _ (c : Call) (s : HolderAllocator) (low : ℕ) (h : SoundWith n s low) where
    abbrev r : List Entry
    r = s.register.entries

    -- the state as an account, with its register
    abbrev k : Holding Account
    k = both (account s.memory low) r

    kept : Kept (obeys n few) k
    kept = laws.kept_of (obeys n few) k (stands n few k.memory h.memory) h.register

    -- the call on it
    abbrev w : Answer Account
    w = step (accounts n) c k

    -- as the calls by value have it, and as the C calls do
    of-ranges : step (states n) c (holding_of s) ≡ shown ranges_of w
    of-ranges = step-alike (accounts n) (states n) ranges_of k (ranges-answers n few k.memory h.memory) (ranges-leaves n few k.memory h.memory) c

    of-bytes : step (images f []) c (turned (allocator.image_of f) k) ≡ shown (allocator.image_of f) w
    of-bytes = step-alike (accounts n) (images f []) (allocator.image_of f) k (λ d. call-voucher f full k.memory h.memory d) (λ d. call-bytes f full k.memory h.memory d) c

    -- ---- the figure

    -- an accepted call of the allocator notes the total that it leaves
    figure : (d : rules.Call) → ((accounts n).answer d k.memory).number ≡ 0 → ((accounts n).next d k.memory).lowest ≡ noted 0 ((accounts n).next d k.memory).ranges.free_size low
    figure d z =
        let b = kept.book in
        let answered = (obeys n few).answers b k.memory d kept.good kept.of in
        let zero : (rules.step n d b).number ≡ 0 = ap (λ (v : rules.Voucher). v.number) (sym answered) ∙ z in
        let t = sym ((obeys n few).counts (rules.step n d b).book ((accounts n).next d k.memory) (step-sound n b d kept.good) ((obeys n few).leaves b k.memory d kept.good kept.of)) in
        (carries n few).notes b k.memory d kept.good kept.of ∙ (λ i. noted (zero i) (t i) low)

    -- so of any call: the account that it leaves has its ranges, and the figure noted
    left-account : (w : Answer Account) → Ends (accounts n) k c w → w.holding.memory ≡ account w.holding.memory.ranges (noted w.number w.holding.memory.ranges.free_size low)
    left-account _ (stays j d) = ap (account s.memory) (sym (noted-refused j s.memory.free_size low d))
    left-account _ (goes q z) = ap (account ((accounts n).next (below c) k.memory).ranges) (figure (below c) z)

    -- ---- the outcome by value

    judged : made n s c ≡ outcome.held (step (states n) c (holding_of s))
    judged = sym (sound-made n s c (passes f full small s low h))

    o_is : made n s c ≡ outcome.held (shown ranges_of w)
    o_is = judged ∙ ap outcome.held of-ranges

    kept-of-it : voucher_of c (made n s c).answer ≡ voucher c w
    kept-of-it = ap (λ (x : HolderOutcome). voucher_of c x.answer) judged ∙ told n (holding_of s) c ∙ ap (voucher c) of-ranges

    -- ---- the C call

    served : serves f (image_of f s low) ≡ true
    served = (read-served f (image_of f s low)).0 (ap (λ (x : reads.Handed). x.number) (read-written f full small s low h))

    back : holding_in (image_of f s low) ≡ turned (allocator.image_of f) k
    unfolding image_of
    back = holding-back f r (allocator.image_of f k.memory) h.sized (λ i b. sound-fits r h.register.sound i (let e = h.sized in omega arith))

    called-over : call_over_lem f c (image_of f s low) ≡ finished f (shown (allocator.image_of f) w) (image_of f s low)
    unfolding call_over_lem over
    called-over = rw served (ap (λ (x : Holding (List ℕ)). finished f (step (images f []) c x) (image_of f s low)) back ∙ ap (λ (x : Answer (List ℕ)). finished f x (image_of f s low)) of-bytes)

    -- what it leaves is the image of what is left
    leaves : (w : Answer Account) → Ends (accounts n) k c w
        → cond (eqb w.number 0) (bytes_of_lem f (turned (allocator.image_of f) w.holding)) (image_of f s low) ≡ bytes_of_lem f (turned (allocator.image_of f) w.holding)
    unfolding image_of
    leaves _ (stays j d) = rw (ne_eqb j 0 d)
    leaves _ (goes q z) = refl

    bytes : bytes_of_lem f (turned (allocator.image_of f) w.holding) ≡ image_of f (made n s c).state (noted_after low (made n s c))
    unfolding image_of
    bytes =
        let number = ap (λ (v : Voucher). v.number) kept-of-it in
        let state = ap (λ (x : HolderOutcome). x.state) o_is in
        ap (λ (a : Account). bytes_of_lem f (both (allocator.image_of f a) w.holding.register)) (left-account w (ends (accounts n) k c))
        ∙ sym (λ i. image_of f (state i) (noted (number i) (state i).memory.free_size low))

    pub by_value : call_over_lem f c (image_of f s low) ≡ as_returned f low (made n s c)
    unfolding finished
    by_value =
        let v = kept-of-it in
        let b = leaves w (ends (accounts n) k c) ∙ bytes in
        called-over ∙ sym (λ i. returned (signed (v i).number (v i).address) (sym b i))

    -- as the register above an account has it
    pub over-bytes : (call_over_lem f c (image_of f s low)).bytes ≡ bytes_of_lem f (turned (allocator.image_of f) w.holding)
    unfolding finished
    over-bytes = ap (λ (x : Returned). x.bytes) called-over ∙ leaves w (ends (accounts n) k c)

    signs : (w : Answer Account) → Ends (accounts n) k c w → voucher_from c (signed w.number w.address) ≡ voucher c w
    signs _ (stays zero d) = absurd (d refl)
    signs _ (stays (suc j) d) = rw (ne_eqb (suc j) 0 d)
    signs _ (goes q z) = refl

    pub over-voucher : voucher_from c (call_over_lem f c (image_of f s low)).number ≡ voucher c w
    unfolding finished
    over-voucher = ap (λ (x : Returned). voucher_from c x.number) called-over ∙ signs w (ends (accounts n) k c)

    pub sound-left : SoundWith n (made n s c).state (noted_after low (made n s c))
    sound-left =
        let next = step_keeps (obeys n few) c k kept in
        let number = ap (λ (v : Voucher). v.number) kept-of-it in
        let state = ap (λ (x : HolderOutcome). x.state) o_is in
        let shows = (obeys n few).shows next.book w.holding.memory next.good next.of in
        subst (λ (x : HolderAllocator × ℕ). SoundWith n x.0 x.1) (sym (λ i. (state i, noted (number i) (state i).memory.free_size low))) (record {
          memory = subst (SoundAccount n) (left-account w (ends (accounts n) k c)) (kept-account n few w.holding next);
          register = subst (λ (b : Book). SoundRegister b.chain w.holding.register) (sym shows) next.register;
          sized = comes-sized (obeys n few) k kept c w (comes (obeys n few) k kept c) ∙ h.sized;
        })

  -- ---- lists of calls

  -- the state in such a holding, beside the account's figure
  pub sound-of : (k : Holding Account) → Kept (obeys n few) k → length k.register ≡ entries → SoundWith n (with_register (turned ranges_of k)) k.memory.lowest
  sound-of k κ e =
      let shows = (obeys n few).shows κ.book k.memory κ.good κ.of in
      record { memory = kept-account n few k κ; register = subst (λ (b : Book). SoundRegister b.chain k.register) (sym shows) κ.register; sized = e }

  next-sized : (c : Call) (k : Holding Account) → Kept (obeys n few) k → length k.register ≡ entries → length (step (accounts n) c k).holding.register ≡ entries
  next-sized c k κ e = comes-sized (obeys n few) k κ c (step (accounts n) c k) (comes (obeys n few) k κ c) ∙ e

  pub run-sized : (k : Holding Account) → Kept (obeys n few) k → length k.register ≡ entries → (cs : List Call) → length (run (accounts n) k cs).register ≡ entries
  unfolding run
  run-sized k κ e [] = e
  run-sized k κ e (c ∷ cs) = run-sized (step (accounts n) c k).holding (step_keeps (obeys n few) c k κ) (next-sized c k κ e) cs

  pub after-over : (k : Holding Account) → Kept (obeys n few) k → length k.register ≡ entries → (cs : List Call)
      → after f (bytes_of_lem f (turned (allocator.image_of f) k)) cs ≡ bytes_of_lem f (turned (allocator.image_of f) (run (accounts n) k cs))
  unfolding after run image_of
  after-over k κ e [] = refl
  after-over k κ e (c ∷ cs) =
      ap (λ (l : List ℕ). after f l cs) (over-bytes c (with_register (turned ranges_of k)) k.memory.lowest (sound-of k κ e))
      ∙ after-over (step (accounts n) c k).holding (step_keeps (obeys n few) c k κ) (next-sized c k κ e) cs

  pub vouchers-over : (k : Holding Account) → Kept (obeys n few) k → length k.register ≡ entries → (cs : List Call) → vouchers f (bytes_of_lem f (turned (allocator.image_of f) k)) cs ≡ trail (accounts n) k cs
  unfolding vouchers trail image_of
  vouchers-over k κ e [] = refl
  vouchers-over k κ e (c ∷ cs) =
      let s = with_register (turned ranges_of k) in
      let h = sound-of k κ e in
      let first = over-voucher c s k.memory.lowest h in
      let others = ap (λ (l : List ℕ). vouchers f l cs) (over-bytes c s k.memory.lowest h) ∙ vouchers-over (step (accounts n) c k).holding (step_keeps (obeys n few) c k κ) (next-sized c k κ e) cs in
      (λ i. first i ∷ others i)

  -- the call that begins an image
  pub new-by-value : (l : List ℕ) → length l ≡ whole_size f → new_over f l ≡ returned (pos 0) (image_of f (new_of n) never)
  unfolding new_over image_of
  new-by-value l e =
      let sized : length (memory_in l) ≡ image_size_lem f = length-drop memory_at l ∙ omega arith in
      rw (eq-eqb (length l) (whole_size f) e) (ap (λ (x : Returned). returned (pos 0) (bytes_of_lem f (both x.bytes (blanks entries)))) (new-written f full (memory_in l) sized))
