-- What the total, the lowest figure and the listing answer and leave in what is lent, over an image and of eleven lent fields. n is the number of records, f the layout of an image. Assumes nothing.
use Rattle.std.specs.Prelude.{ℕ, cond, List, ◌≡◌, eqb, ℤ, pos, length}
use Rattle.rules.specs.Rules.{Range, start_of}
use Rattle.account_state.specs.Account.{is_sound_lem}
use Rattle.account_state.specs.declared.Account.{Account}
use Rattle.pool_listing.specs.Listing.{last_of, listed_of, shown}
use Rattle.calls.specs.Calls.{Counted, is_accepted, signed_of}
use Rattle.calls.specs.declared.MemoryError.TheVariants.{InvalidEntry}
use Rattle.core_accounts.specs.Accounts.{refused, answer_in, value_of, listed_answer, listing_of, shown_of}
use Rattle.image_parts.specs.Layout.{Layout}
use Rattle.image.specs.Reading.{reading_of}

-- what the account shows whose image this is; an image that does not serve is refused
unfoldable pub shown_by : Layout → List ℕ → (Account → Counted) → Counted
shown_by f l show = cond (eqb (reading_of f l).number 0) (show (reading_of f l).state) (refused InvalidEntry)

-- ---- a figure: it may be 2^63, which no signed number is. So it goes to a place that is lent, and 0 is returned

-- after a refusal the place holds what it held
pub record Figures (k : Counted) (old : ℕ) (r : ℤ) (now : ℕ) : Type 0 where
  pub number : r ≡ signed_of (answer_in k)
  pub figure : now ≡ cond (is_accepted (answer_in k)) (value_of k) old

-- ---- a listing: the number of ranges is returned, or minus the number of the refusal

abbrev pub signed_count : Counted → ℤ
signed_count k = cond (is_accepted (answer_in k)) (pos (value_of k)) (signed_of (answer_in k))

-- the listing of a sound account is that of its ranges; an unsound one is refused, and a slice is then as it was
unfoldable pub listed_here_lem : ℕ → Account → ℕ → ℕ → Counted
listed_here_lem n a m k = cond (is_sound_lem n a) (listing_of n a.ranges m k) (refused InvalidEntry)

unfoldable pub sliced_here : (Range → ℕ) → ℕ → Account → ℕ → ℕ → List ℕ → List ℕ
sliced_here key n a m k old = cond (is_sound_lem n a) (shown_of key n a.ranges m k old) old

-- of an account: what is returned, and what the two slices then hold
pub record Lists (n : ℕ) (a : Account) (starts lasts : List ℕ) (r : ℤ) (starts' lasts' : List ℕ) : Type 0 where
  pub number : r ≡ signed_count (listed_here_lem n a (length starts) (length lasts))
  pub starts-now : starts' ≡ sliced_here start_of n a (length starts) (length lasts) starts
  pub lasts_now : lasts' ≡ sliced_here last_of n a (length starts) (length lasts) lasts

-- a slice after the listing of the account whose image this is: as it was, where the image does not serve
unfoldable pub sliced_by : (Range → ℕ) → Layout → List ℕ → ℕ → ℕ → List ℕ → List ℕ
sliced_by key f l m k old = cond (eqb (reading_of f l).number 0) (sliced_here key f.records (reading_of f l).state m k old) old

pub record ListsBy (f : Layout) (l starts lasts : List ℕ) (r : ℤ) (starts' lasts' : List ℕ) : Type 0 where
  pub number : r ≡ signed_count (shown_by f l (λ a. listed_here_lem f.records a (length starts) (length lasts)))
  pub starts-now : starts' ≡ sliced_by start_of f l (length starts) (length lasts) starts
  pub lasts_now : lasts' ≡ sliced_by last_of f l (length starts) (length lasts) lasts

-- what the inner function cites: the same of the ranges c
pub record ListsChain (c : List Range) (starts lasts : List ℕ) (r : ℤ) (starts' lasts' : List ℕ) : Type 0 where
  pub number : r ≡ signed_count (listed_answer (listed_of c (length starts) (length lasts)))
  pub starts-now : starts' ≡ shown start_of c (length starts) (length lasts) starts
  pub lasts_now : lasts' ≡ shown last_of c (length starts) (length lasts) lasts
