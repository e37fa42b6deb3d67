-- A call on the fields of the allocator in an image: its answer, and what is written of it. Assumes nothing.
use Prim.Native.Nat.{ℕ, ◌+◌, ◌≤◌, ◌<◌}
use mathlib.Core.Bool.{true, false}
use mathlib.Core.List.{List, [], ◌++◌, append-nil}
use mathlib.Core.Path.{◌≡◌, refl, sym, ap, ◌∙◌, subst}
use native.Mathlib.Omega.{arith}
use lib.IntN.{ℤ, pos}
use lib.Signed.{lt_z}
use lib.ListN.{length, take, drop, length-drop, drop_of_length-le}
use borrow.Rule.Slice.PartMut.{put_mid}
use Rattle.std.specs.Prelude.{Ok, Err}
use Rattle.linked_lists.proofs.Laws.{true≢false}
use Rattle.bytes_be.specs.Numbers.{Bytes}
use Rattle.linked_lists.specs.Links.{none}
use Rattle.rules.specs.Rules.{top, Book, Call, step}
use Rattle.rules_lowest.specs.Lowest.{noted}
use Rattle.pool_state.specs.State.{Holds}
use Rattle.pool_state.specs.Sound.{book_of}
use Rattle.pool_state.specs.declared.MemoryAllocator.{MemoryAllocator}
use Rattle.pool_state.proofs.Book.{sound-holds}
use Rattle.calls.specs.Calls.{Answer, address_of, number_of, signed_of, is_accepted}
use Rattle.calls.specs.Answers.{Answers}
use Rattle.calls.specs.declared.MemoryError.TheVariants.{NoEntry, InvalidEntry, NoMemory, InvalidRequest}
use Rattle.calls.proofs.Below.{step-below}
use Rattle.account_state.specs.Account.{account, SoundAccount}
use Rattle.account_state.specs.declared.Account.{Account}
use Rattle.account_state.specs.declared.Entered.{Entered}
use Rattle.account_calls.proofs.Judged.{sound-judged}
use Rattle.account_calls.specs.Made.{made}
use Rattle.batch.proofs.Histories.{made-sound}
use Rattle.image_parts.specs.Layout.{Layout, Lawful, image_size_lem}
use Rattle.image_parts.proofs.Lawful.{small-pool}
use Rattle.image_writing.specs.Writing.{entry_at_lem, image_of, Standing}
use Rattle.image.proofs.Ways.{read_whole}
use Rattle.image.proofs.Standing.{stands}
use Rattle.image_calls.specs.Lists.{Held}
use Rattle.image_calls.proofs.Lists.{held-sized, held-sound}
use Rattle.c_over.specs.CCalls as allocator
use Rattle.c_over.specs.CCalls.{returned}
use Rattle.holder_rules.specs.Holders as holders
use Rattle.holder_image.specs.Layout.{memory_at}
use Rattle.holder_image.specs.Bytes.{memory_in}
use Rattle.holder_calls.specs.Calls.{finished, Settles}
use Rattle.holder_calls.specs.Fields.{Answered}
use Rattle.holder_image.proofs.Parts.{part-is}
use Rattle.holder_calls.proofs.Pieces.{part_bytes}

module _ (n : ℕ) (a : Account) (h : SoundAccount n a) (c : Call) (k : Answer) (s : MemoryAllocator) (f : (b : Book) → Holds n b a.ranges → Answers n (step n c b) k s) where
  pub address_below : address_of k < top
  address_below =
      let b = book_of n a.ranges in
      subst (λ (y : ℕ). y < top) (sym (f b (sound-holds n a.ranges h.ranges)).address) (step-below n b c h.ranges.book)

  pub answered : n ≤ none → (low : ℕ) → low ≡ noted (number_of k) s.free_size a.lowest → (i : ℤ) → i ≡ signed_of k → Answered n c a i (account s low)
  answered small low is i e =
      let j = sound-judged n a (step n c) small h k s low f is in
      record { number = e ∙ ap (λ (r : Entered). signed_of r.answer) j; state = ap (λ (r : Entered). r.state) j }

-- the same call and the same number, in other words
pub same-call : (n : ℕ) (c c' : Call) (a : Account) (i i' : ℤ) (a' : Account) → c ≡ c' → i' ≡ i → Answered n c a i a' → Answered n c' a i' a'
same-call n c c' a i i' a' e d s = subst (λ (k : Call). Answered n k a i' a') e (record { number = d ∙ s.number; state = s.state })

-- ---- what the fields leave in the image l, whose allocator they held

not-refused : (k : Answer) → lt_z (signed_of k) (pos 0) ≡ false → is_accepted k ≡ true
not-refused (Ok a) n = refl
not-refused (Err NoEntry) n = true≢false n
not-refused (Err InvalidEntry) n = true≢false n
not-refused (Err NoMemory) n = true≢false n
not-refused (Err InvalidRequest) n = true≢false n

module _ (f : Layout) (lawful : Lawful f) (l : List ℕ) (a : Account) (h : Held f (memory_in l) a) where
  pub fields-sound : SoundAccount f.records a
  fields-sound = held-sound f (memory_in l) [] [] a h lawful

  module _ (c : Call) (i : ℤ) (a' : Account) (s : Answered f.records c a i a') where
    pub called-number : i ≡ (allocator.call_over_lem f c (memory_in l)).number
    unfolding allocator.call_over_lem allocator.over allocator.finished
    called-number = let e = read_whole f (memory_in l) true (sym h.serves) refl a h.state in s.number ∙ rw (← e)

    called-bytes : lt_z i (pos 0) ≡ false → (allocator.call_over_lem f c (memory_in l)).bytes ≡ image_of f a'
    unfolding allocator.call_over_lem allocator.over allocator.finished
    called-bytes n =
        let e = read_whole f (memory_in l) true (sym h.serves) refl a h.state in
        let t = not-refused (made f.records a c).answer (ap (λ (x : ℤ). lt_z x (pos 0)) (sym s.number) ∙ n) in
        rw (← e, t) (ap (image_of f) (sym s.state))

    pub left-sound : SoundAccount f.records a'
    left-sound = subst (SoundAccount f.records) (sym s.state) (made-sound f.records (small-pool f lawful) a fields-sound c)

    -- and the register's part settled in l'
    module _ (w : holders.Answer (List ℕ)) (r : ℤ) (l' : List ℕ) (t : Settles f c w l i r l') where
      pub memory-size : length (memory_in l') ≡ image_size_lem f
      memory-size = ap length t.memory ∙ held-sized f (memory_in l) [] [] a h

      pub refused-left : lt_z r (pos 0) ≡ true → (x : ℤ) → x ≡ r → returned x l' ≡ finished f w l
      refused-left n x is = let told : returned r l' ≡ finished f w l = rw n at t.outcome in ap (λ (y : ℤ). returned y l') is ∙ told

      module _ (k : ℕ) (all : length l' ≤ memory_at + k) where
        part-memory : take k (drop memory_at l') ≡ memory_in l
        part-memory = part-is l' k all ∙ t.memory

        pub part-size : length (take k (drop memory_at l')) ≡ image_size_lem f
        part-size = ap length part-memory ∙ held-sized f (memory_in l) [] [] a h

        pub part-stands : Bytes l → Standing f f.records (take k (drop memory_at l')) (entry_at_lem a'.ranges)
        part-stands bytes = subst (λ (m : List ℕ). Standing f f.records m (entry_at_lem a'.ranges)) (sym part-memory) (stands f lawful (memory_in l) (part_bytes l bytes) h.serves a'.ranges left-sound.ranges)

        pub accepted-left : lt_z r (pos 0) ≡ false → (y : List ℕ) → y ≡ image_of f a' → (x : ℤ) → x ≡ r → returned x (put_mid memory_at k l' y) ≡ finished f w l
        accepted-left n y e x is =
            let d = length-drop memory_at l' in
            let rest : drop k (drop memory_at l') ≡ [] = drop_of_length-le (drop memory_at l') {i = k} (omega arith) in
            let whole : put_mid memory_at k l' y ≡ take memory_at l' ++ (allocator.call_over_lem f c (memory_in l)).bytes =
            ap (λ (x : List ℕ). take memory_at l' ++ (y ++ x)) rest ∙ ap (λ (x : List ℕ). take memory_at l' ++ x) (append-nil y ∙ e ∙ sym (called-bytes (ap (λ (x : ℤ). lt_z x (pos 0)) (sym (t.answer n)) ∙ n))) in
            let told : returned r (take memory_at l' ++ (allocator.call_over_lem f c (memory_in l)).bytes) ≡ finished f w l = rw n at t.outcome in
            (λ j. returned (is j) (whole j)) ∙ told
