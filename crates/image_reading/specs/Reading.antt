-- The account in a list of bytes, and when they are the image of a sound one. Assumes nothing.
use Rattle.std.specs.Prelude.{ℕ, ◌+◌, ◌*◌, Bool, true, cond, ◌&&◌, List, ◌≡◌, eqb, length}
use Rattle.rules.specs.Rules.{size_lists, empty}
use Rattle.pool_state.specs.Lent.{OfFields, fields, OfLent, turns}
use Rattle.pool_state.specs.Sound.{book_of}
use Rattle.pool_state.specs.State.{arrays, state_of}
use Rattle.pool_state.specs.declared.MemoryAllocator.{MemoryAllocator}
use Rattle.check_state.specs.IsSound as ranges
use Rattle.account_state.specs.Account.{account, is_sound_lem}
use Rattle.account_state.specs.Lent.{OfLentEleven, turns_eleven}
use Rattle.account_state.specs.declared.Account.{Account}
use Rattle.image_parts.specs.Layout.{Layout, word, length_at, length_size, total_at, first_at, heads_at, low_at, records_at_lem, end_at, enabled_at, links_at, record_size_lem, image_size_lem, rest_size}
use Rattle.image_parts.specs.Read.{number_in, link_of, numbers_in, links_in, flags_in, bits}

-- the ranges in the bytes, whatever they are
unfoldable pub state_in_lem : Layout → List ℕ → MemoryAllocator
state_in_lem f l =
    let numbers : ℕ → List ℕ = λ o. numbers_in l (records_at_lem f + o) (record_size_lem f) f.records in
    let links : ℕ → List ℕ = λ k. links_in f l (records_at_lem f + (links_at + f.link * k)) (record_size_lem f) f.records in
    arrays (number_in l total_at word) (link_of f (number_in l first_at f.link))
    (links_in f l (heads_at f) f.link size_lists)
    (numbers 0) (numbers end_at)
    (flags_in l (records_at_lem f + enabled_at) (record_size_lem f) f.records)
    (links 0) (links 1) (links 2) (links 3)

-- the length, the version, the length field and the enabled bytes are right
unfoldable pub framed : Layout → List ℕ → Bool
framed f l =
    eqb (length l) (image_size_lem f) && (eqb (number_in l 0 length_at) f.version && (eqb (number_in l length_at length_size) (rest_size f) &&
    bits l (records_at_lem f + enabled_at) (record_size_lem f) f.records 0))

-- the lowest figure in the bytes; a layout that has none gives the total
abbrev pub low_in_lem : Layout → List ℕ → ℕ
low_in_lem f l = cond (eqb f.low 0) (number_in l total_at word) (number_in l (low_at f) word)

-- both
abbrev pub account_in : Layout → List ℕ → Account
account_in f l = account (state_in_lem f l) (low_in_lem f l)

-- the bytes are the image of a sound account
abbrev pub readable : Layout → List ℕ → Bool
readable f l = framed f l && is_sound_lem f.records (account_in f l)

-- the ranges of m records that hold the book of ranges of n
abbrev pub grown_ranges : ℕ → ℕ → MemoryAllocator → MemoryAllocator
grown_ranges n m s = state_of m (book_of n s)

-- the same of an account; the figure stays
abbrev pub grown : ℕ → ℕ → Account → Account
grown n m a = account (grown_ranges n m a.ranges) a.lowest

-- ---- what the inner functions cite

-- the length, the version and the length field are right
unfoldable pub headed : Layout → List ℕ → Bool
headed f l = eqb (length l) (image_size_lem f) && (eqb (number_in l 0 length_at) f.version && eqb (number_in l length_at length_size) (rest_size f))

-- the ten fields are those of the empty state
abbrev pub FreshFields : ℕ → OfFields
FreshFields n = fields (λ s. s ≡ state_of n empty)

-- the ranges in the bytes are sound, whatever the figure is
abbrev pub holds_ranges : Layout → List ℕ → Bool
holds_ranges f l = framed f l && ranges.is_sound_lem f.records (state_in_lem f l)

-- r tells whether they are; where they are, the ten fields become those ranges, with m records
pub record ReadsRanges (m : ℕ) (f : Layout) (l : List ℕ) (r : Bool) (s : MemoryAllocator) : Type 0 where
  pub told : r ≡ holds_ranges f l
  pub ranges : r ≡ true → s ≡ grown_ranges f.records m (state_in_lem f l)

abbrev pub ReadsTen : ℕ → Layout → List ℕ → Bool → OfLent
ReadsTen m f image r = turns (λ s s'. ReadsRanges m f image r s')

-- r tells whether the bytes are the image of a sound account; where they are, the eleven fields become it, with m records
pub record ReadsAccount (m : ℕ) (f : Layout) (l : List ℕ) (r : Bool) (a : Account) : Type 0 where
  pub told : r ≡ readable f l
  pub state : r ≡ true → a ≡ grown f.records m (account_in f l)

abbrev pub ReadsFields : ℕ → Layout → List ℕ → Bool → OfLentEleven
ReadsFields m f image r = turns_eleven (λ a a'. ReadsAccount m f image r a')

-- the same, of a layout that has all the records
pub record ReadsCurrent (f : Layout) (l : List ℕ) (r : Bool) (a : Account) : Type 0 where
  pub told : r ≡ readable f l
  pub state : r ≡ true → a ≡ account_in f l

abbrev pub ReadsCurrentFields : Layout → List ℕ → Bool → OfLentEleven
ReadsCurrentFields f image r = turns_eleven (λ a a'. ReadsCurrent f image r a')
