-- What the definitions give on each way through the code. n is the number of records, f the layout of an image. Assumes nothing.
use Prim.Native.Nat.{ℕ, ◌≤◌}
use mathlib.Core.Bool.{Bool, true, false, cond}
use mathlib.Core.List.{List}
use Rattle.std.specs.Prelude.{Option, None, Some}
use mathlib.Core.Path.{◌≡◌, refl, sym, ap, ◌∙◌, subst}
use lib.IntN.{ℤ, pos}
use lib.ListN.{length}
use native.Mathlib.Omega.{arith}
use Rattle.std.specs.Prelude.{Err}
use Rattle.linked_lists.specs.Links.{none}
use Rattle.rules.specs.Rules.{Range}
use Rattle.pool_state.specs.Sound.{book_of}
use Rattle.pool_state.specs.declared.MemoryAllocator.{MemoryAllocator}
use Rattle.account_state.specs.Account.{is_sound_lem}
use Rattle.account_state.specs.declared.Account.{Account}
use Rattle.account_state.proofs.Exact as account
use Rattle.account_calls.specs.Accounts.{total_of, lowest_of}
use Rattle.account_calls.proofs.Shows.{total-sound, total-unsound, lowest-sound, lowest-unsound}
use Rattle.check_state.specs.IsSound as ranges
use Rattle.check_meaning.specs.Paragraph.{Sized}
use Rattle.pool_chain.specs.Chain.{Ordered}
use Rattle.pool_listing.specs.Listing as in_place
use Rattle.pool_listing.specs.Listing.{listed_of}
use Rattle.pool_listing.proofs.Walk.{few}
use Rattle.calls.specs.Calls.{Counted, signed_of}
use Rattle.calls.specs.declared.MemoryError.TheVariants.{InvalidEntry}
use Rattle.core_accounts.specs.Accounts.{refused, value_of, listed_answer, listing_of, shown_of}
use Rattle.core_accounts.proofs.Shows.{ordered}
use Rattle.image_parts.specs.Layout.{Layout, Lawful}
use Rattle.image_parts.proofs.Lawful.{small-pool}
use Rattle.image_parts.proofs.Loops.{both}
use Rattle.image_reading.specs.Reading.{account_in, framed, readable}
use Rattle.image_reading.proofs.Whole.{state-sized}
use Rattle.image.proofs.Ways.{unread, read_whole}
use Rattle.door_accounts.specs.Accounts.{shown_by, Figures, signed_count, listed_here_lem, sliced_here, Lists, sliced_by, ListsBy, ListsChain}

-- ---- of an account

module _ (n : ℕ) (small : n ≤ none) (a : Account) where
  module _ (sized : Sized n a.ranges) (on : is_sound_lem n a ≡ true) where
    pub total_here : (old : ℕ) → Figures (total_of n a) old (pos 0) a.ranges.free_size
    total_here old = let e = total-sound n a small sized on in record { number = rw (← e); figure = rw (← e) }

    -- the ranges pass the check by themselves
    pub ranges-on : ranges.is_sound_lem n a.ranges ≡ true
    ranges-on = (account.both (ranges.is_sound_lem n a.ranges) _ on).0

    -- z is the number that was returned, r, on its way
    pub lists-here : (starts lasts starts' lasts' : List ℕ) (r z : ℤ) → z ≡ r → ListsChain (book_of n a.ranges).chain starts lasts r starts' lasts' → Lists n a starts lasts z starts' lasts'
    unfolding listed_here_lem sliced_here listing_of shown_of
    lists-here starts lasts starts' lasts' r z e h =
        let k = account.both (ranges.is_sound_lem n a.ranges) _ on in
        record { number = e ∙ rw (k.0, k.1) h.number; starts-now = rw (k.0, k.1) h.starts-now; lasts_now = rw (k.0, k.1) h.lasts_now }

  pub lowest-here : is_sound_lem n a ≡ true → (old : ℕ) → Figures (lowest_of n a) old (pos 0) a.lowest
  lowest-here on old = let e = lowest-sound n a on in record { number = rw (← e); figure = rw (← e) }

  pub no-total : is_sound_lem n a ≡ false → (old : ℕ) → Figures (total_of n a) old (signed_of (Err InvalidEntry)) old
  no-total off old = let e = total-unsound n a off in record { number = rw (← e); figure = rw (← e) }

  pub no-lowest : is_sound_lem n a ≡ false → (old : ℕ) → Figures (lowest_of n a) old (signed_of (Err InvalidEntry)) old
  no-lowest off old = let e = lowest-unsound n a off in record { number = rw (← e); figure = rw (← e) }

  pub no-lists : is_sound_lem n a ≡ false → (starts lasts : List ℕ) → Lists n a starts lasts (signed_of (Err InvalidEntry)) starts lasts
  unfolding listed_here_lem sliced_here
  no-lists off starts lasts = record { number = rw off; starts-now = rw off; lasts_now = rw off }

-- what holds of a copy t of the fields that has the places that its types say
pub copied-sized : (n : ℕ) (s t : MemoryAllocator) → t ≡ s → Sized n t → Sized n s
copied-sized n s t e h = subst (Sized n) e h

-- ---- of an image

module _ (f : Layout) (l : List ℕ) where
  pub unreadable-total : readable f l ≡ false → (show : Account → Counted) (old : ℕ) → Figures (shown_by f l show) old (signed_of (Err InvalidEntry)) old
  unfolding shown_by
  unreadable-total off show old = let e = unread f l false (sym off) refl in record { number = rw (← e); figure = rw (← e) }

  pub unreadable-lists : readable f l ≡ false → (starts lasts : List ℕ) → ListsBy f l starts lasts (signed_of (Err InvalidEntry)) starts lasts
  unfolding shown_by sliced_by
  unreadable-lists off starts lasts = let e = unread f l false (sym off) refl in record { number = rw (← e); starts-now = rw (← e); lasts_now = rw (← e) }

  module _ (lawful : Lawful f) (on : readable f l ≡ true) (a : Account) (is : a ≡ account_in f l) where
    abbrev n : ℕ
    n = f.records

    small : n ≤ none
    small = small-pool f lawful

    passes : is_sound_lem n a ≡ true
    passes = rw is (both (framed f l) _ on).1

    sized : Sized n a.ranges
    sized = rw is (state-sized f l)

    pub ordered-in : Ordered n (book_of n a.ranges).chain a.ranges.start a.ranges.end a.ranges.next a.ranges.first_entry.0
    ordered-in = ordered n small a.ranges sized (ranges-on n small a sized passes)

    -- what the account shows is what the image does
    figures-in : (show : Account → Counted) (old : ℕ) (x : ℕ) → Figures (show a) old (pos 0) x → Figures (shown_by f l show) old (pos 0) x
    unfolding shown_by
    figures-in show old x h = let e = read_whole f l true (sym on) refl a is in record { number = rw (← e) h.number; figure = rw (← e) h.figure }

    pub total-in : (old : ℕ) → Figures (shown_by f l (total_of n)) old (pos 0) a.ranges.free_size
    total-in old = figures-in (total_of n) old _ (total_here n small a sized passes old)

    pub lowest-in : (old : ℕ) → Figures (shown_by f l (lowest_of n)) old (pos 0) a.lowest
    lowest-in old = figures-in (lowest_of n) old _ (lowest-here n small a passes old)

    pub lists-in : (starts lasts starts' lasts' : List ℕ) (r z : ℤ) → z ≡ r → ListsChain (book_of n a.ranges).chain starts lasts r starts' lasts' → ListsBy f l starts lasts z starts' lasts'
    unfolding shown_by sliced_by
    lists-in starts lasts starts' lasts' r z q c =
        let e = read_whole f l true (sym on) refl a is in
        let h = lists-here n small a sized passes starts lasts starts' lasts' r z q c in
        record { number = rw (← e) h.number; starts-now = rw (← e) h.starts-now; lasts_now = rw (← e) h.lasts_now }

-- ---- of ranges

pub lists-chain : (c : List Range) (starts lasts starts' lasts' : List ℕ) (k u : Option ℕ) → in_place.Lists c starts lasts k starts' lasts' → k ≡ u → (r : ℤ) → r ≡ signed_count (listed_answer u) → ListsChain c starts lasts r starts' lasts'
lists-chain c starts lasts starts' lasts' k u h e r is = record { number = is ∙ ap (λ (x : Option ℕ). signed_count (listed_answer x)) (sym e ∙ h.answer); starts-now = h.starts-now; lasts_now = h.lasts_now }

-- a count is that of the ranges, which are no more than the records
pub counted-few : (n : ℕ) (c : List Range) (start end next : List ℕ) (first : ℕ) → Ordered n c start end next first → (starts lasts starts' lasts' : List ℕ) (k : Option ℕ) → in_place.Lists c starts lasts k starts' lasts'
    → (count : ℕ) → k ≡ Some count → count ≤ n
unfolding listed_of
counted-few n c start end next first o starts lasts starts' lasts' k h count e =
    go (in_place.short c (length starts) (length lasts)) (ap (λ (x : Option ℕ). value_of (listed_answer x)) (sym e ∙ h.answer)) (few n c o.runs.listed)
  where
    go : (t : Bool) → count ≡ value_of (listed_answer (cond t None (Some (length c)))) → length c ≤ n → count ≤ n
    go true q l = omega arith
    go false q l = omega arith
