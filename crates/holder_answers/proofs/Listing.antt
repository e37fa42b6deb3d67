-- Who holds what, printed from three arrays. n is the number of records. Assumes nothing.
use mathlib.Core.Path.{◌≡◌, refl, sym, ap, ◌∙◌, subst}
use mathlib.Core.Logic.{◌≢◌}
use mathlib.Core.Bool.{Bool, true, false, cond, ◌&&◌}
use mathlib.Core.List.{List, [], ◌∷◌, ◌++◌, map, append_assoc, append-nil}
use Prim.Native.Nat.{ℕ, zero, suc, ◌+◌, ◌*◌, ◌^◌, ◌≤◌, ◌<◌}
use native.Mathlib.Omega.{arith}
use borrow.Author.Tests.{eq-eqb, ne_eqb, eqb-true, le-leb}
use lib.Dec.{eqb}
use lib.ListN.{length, drop, get_or}
use Rattle.std.specs.Prelude.{Ok, Err}
use Rattle.rules.specs.Rules.{Range, start_of, sum}
use Rattle.pool_listing.specs.Listing.{last_of, written}
use Rattle.core_accounts.specs.Accounts.{counted, value_of}
use Rattle.calls.specs.Calls.{Answer, Counted, number_of}
use Rattle.pool_state.specs.declared.Address.{Address}
use Rattle.calls.proofs.Numbers.{refusal-nonzero}
use Rattle.calls.specs.declared.MemoryError.{MemoryError}
use Rattle.calls.specs.declared.MemoryError.TheVariants.{NoEntry, InvalidEntry, NoMemory, InvalidRequest}
use Rattle.holder_rules.specs.Register.{entries, used, range_of, held, those}
use Rattle.holder_rules.specs.declared.Entry.{Entry}
use Rattle.holder_rules.specs.declared.HolderAllocator.{HolderAllocator}
use Rattle.holder_lists.specs.Whose.{concerns, found, ranges}
use Rattle.holder_lists.specs.Accounts.{asked_of, asked, held_of}
use Rattle.holder_lists.specs.declared.Whose.{Whose}
use Rattle.holder_ranges.proofs.Ranges.{length-sorted}
use Rattle.holder_ranges.specs.Holdings.{holder_of, has_room_lem, ranges_in, room_in, listing_of, shown_of, Lists}
use Rattle.script_texts.specs.Answers.{no_text, Puts}
use Rattle.script_texts.proofs.Buffers.{at-most-48}
use Rattle.script_replies.specs.Replies.{line, PutsWithin}
use Rattle.script_answers.specs.Script.{room}
use Rattle.holder_replies.specs.Replies.{head_text, row_text, row, rows, held_table}
use Rattle.holder_answers.specs.Answers.{rows_text, ranges_text, held_text}

-- ---- no more ranges than entries

few-those : (p : Range → Bool) (l : List Range) → length (those p l) ≤ length l
unfolding those
few-those p [] = omega arith
few-those p (q ∷ l) = go (p q) (few-those p l)
  where
    go : (b : Bool) → length (those p l) ≤ length l → length (cond b (q ∷ those p l) (those p l)) ≤ suc (length l)
    go true e = omega arith
    go false e = omega arith

few-held : (r : List Entry) → length (held r) ≤ length r
unfolding held
few-held [] = omega arith
few-held (e ∷ l) = go (used e) (few-held l)
  where
    go : (b : Bool) → length (held l) ≤ length l → length (cond b (range_of e ∷ held l) (held l)) ≤ suc (length l)
    go true h = omega arith
    go false h = omega arith

few : (w : Whose) (r : List Entry) → length (ranges w r) ≤ length r
few w r = let a = length-sorted (found w r) in let b = few-those (concerns w) (held r) in let c = few-held r in omega arith

-- ---- the rows

rows-cons : (k a b c : ℕ) (hs ss ls : List ℕ) → rows (suc k) (a ∷ hs) (b ∷ ss) (c ∷ ls) ≡ row_text a b c ++ rows k hs ss ls
unfolding rows
rows-cons zero a b c hs ss ls = sym (append-nil (row_text a b c))
rows-cons (suc k) a b c hs ss ls = rw (rows-cons k a b c hs ss ls) (append_assoc (row_text a b c) (rows k hs ss ls) (row_text (get_or hs k 0) (get_or ss k 0) (get_or ls k 0)))

rows-ranges : (c : List Range) (x y z : List ℕ) → rows (length c) (map holder_of c ++ x) (map start_of c ++ y) (map last_of c ++ z) ≡ rows_text c
unfolding rows rows_text
rows-ranges [] x y z = refl
rows-ranges (q ∷ c) x y z =
    rows-cons (length c) q.number q.start q.last (map holder_of c ++ x) (map start_of c ++ y) (map last_of c ++ z)
    ∙ ap (λ (t : List ℕ). row_text q.number q.start q.last ++ t) (rows-ranges c x y z)

-- ---- what was asked

held-is : (k : Answer) (v : ℕ) → number_of (asked k (counted v)) ≡ number_of k
unfolding asked
held-is (Ok a) v = refl
held-is (Err NoEntry) v = refl
held-is (Err InvalidEntry) v = refl
held-is (Err NoMemory) v = refl
held-is (Err InvalidRequest) v = refl

asked-is : (k : Answer) (c : Counted) → number_of k ≡ 0 → asked k c ≡ c
unfolding asked
asked-is (Ok a) c d = refl
asked-is (Err x) c d = absurd (refusal-nonzero Address x d)

-- a refusal's number is the same, whatever was asked for
pub refusal-same : (x : MemoryError) → number_of {A = Address} (Err x) ≡ number_of {A = ℕ} (Err x)
refusal-same NoEntry = refl
refusal-same InvalidEntry = refl
refusal-same NoMemory = refl
refusal-same InvalidRequest = refl

module _ (n : ℕ) (s : HolderAllocator) (w : Whose) (c : Counted) (is : c ≡ held_of n s w) (m : ℕ) (number : m ≡ number_of c) where
  number_is : m ≡ number_of (asked_of n s w)
  unfolding held_of
  number_is = number ∙ ap number_of is ∙ held-is (asked_of n s w) (sum (found w s.register.entries))

  small-number : (k : Counted) → number_of k < 2 ^ 64
  small-number (Ok a) = omega arith
  small-number (Err NoEntry) = omega arith
  small-number (Err InvalidEntry) = omega arith
  small-number (Err NoMemory) = omega arith
  small-number (Err InvalidRequest) = omega arith

  pub refused_says : (out o : List ℕ) (at r : ℕ) → m ≢ 0 → Puts (no_text m) out at o r → PutsWithin (room n) (held_text n s w) out at o r
  unfolding held_text
  refused_says out o at r h p =
      let f = (at-most-48 m 0 (subst (λ (x : ℕ). x < 2 ^ 64) (sym number) (small-number c)) (omega arith)).3 in
      let q : PutsWithin (room n) (no_text m) out at o r = record { short = omega arith; puts = p } in
      subst (λ (t : List ℕ). PutsWithin (room n) t out at o r) (rw (← number_is, ne_eqb m 0 h)) q

  module _ (zero_is : m ≡ 0) (size : length s.register.entries ≡ entries) (hs ss ls : List ℕ) (lh : length hs ≡ entries) (ll : length ss ≡ entries) (lt : length ls ≡ entries)
      (d : Counted) (hs' ss' ls' : List ℕ) (l : Lists n s w hs ss ls d hs' ss' ls') where
    abbrev q : List Range
    q = ranges_in s w

    pub few-listed : length q ≤ entries
    few-listed = let e = few w s.register.entries in omega arith

    asked-zero : eqb (number_of (asked_of n s w)) 0 ≡ true
    asked-zero = eq-eqb (number_of (asked_of n s w)) 0 (sym number_is ∙ zero_is)

    roomy : room_in s w hs ss ls ≡ true
    roomy = let e = few-listed in rw (le-leb (length q) (length hs) (omega arith), le-leb (length q) (length ss) (omega arith), le-leb (length q) (length ls) (omega arith))

    pub counts : d ≡ counted (length q)
    unfolding listing_of
    counts = l.answer ∙ asked-is (asked_of n s w) _ (sym number_is ∙ zero_is) ∙ rw roomy

    pub count-is : value_of d ≡ length q
    count-is = ap value_of counts

    pub bytes-are : value_of c ≡ sum (found w s.register.entries)
    unfolding held_of
    bytes-are = ap value_of (is ∙ asked-is (asked_of n s w) _ (sym number_is ∙ zero_is))

    shows : (key : Range → ℕ) (old : List ℕ) → shown_of key n s w (room_in s w hs ss ls) old ≡ map key q ++ drop (length (map key q)) old
    unfolding shown_of
    shows key old = rw (roomy, asked-zero)

    table_is : held_text n s w ≡ held_table (value_of d) (value_of c) hs' ss' ls'
    unfolding held_text ranges_text held_table
    table_is = rw (asked-zero, count-is, bytes-are, l.holders-now ∙ shows holder_of hs, l.starts-now ∙ shows start_of ss, l.lasts_now ∙ shows last_of ls)
        (ap (λ (t : List ℕ). head_text (length q) (sum (found w s.register.entries)) ++ t) (sym (rows-ranges q _ _ _)))

    pub table-says : (out o : List ℕ) (at r : ℕ) → 2 * entries ≤ n → PutsWithin (row * (value_of d + 1)) (held_table (value_of d) (value_of c) hs' ss' ls') out at o r → PutsWithin (room n) (held_text n s w) out at o r
    table-says out o at r big p =
        let e = few-listed in
        let f = count-is in
        let h = p.short in
        subst (λ (t : List ℕ). PutsWithin (room n) t out at o r) (sym table_is) (record { short = omega arith; puts = p.puts })

-- what a listing answers is what the match found it to be
pub listed-as : (n : ℕ) (s : HolderAllocator) (w : Whose) (hs ss ls hs' ss' ls' : List ℕ) (d d' : Counted) → d ≡ d' → Lists n s w hs ss ls d hs' ss' ls' → Lists n s w hs ss ls d' hs' ss' ls'
listed-as n s w hs ss ls hs' ss' ls' d d' e l = subst (λ (k : Counted). Lists n s w hs ss ls k hs' ss' ls') e l
