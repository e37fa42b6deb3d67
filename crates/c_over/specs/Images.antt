-- The C calls over one slice, as an engine: what a call answers and leaves, and what is read off an image, from its bytes and the signed answers alone. Assumes nothing.
use Rattle.std.specs.Prelude.{ℕ, List}
use Rattle.rules.specs.Rules.{Book}
use Rattle.rules_engine.specs.Engine.{Engine}
use Rattle.pool_state.specs.Sound.{book_of}
use Rattle.calls.specs.Calls.{voucher_from}
use Rattle.pages.specs.Calls.{byte_call, Door}
use Rattle.image_parts.specs.Layout.{Layout, word, total_at, low_at}
use Rattle.image_parts.specs.Read.{number_in}
use Rattle.image.specs.Writing.{Image}
use Rattle.image.specs.Reading.{reading_of}
use Rattle.c_over.specs.CCalls.{call_over_lem, pages_over, new_over}

-- the book of the account that the image holds
abbrev pub book_in : Layout → List ℕ → Book
book_in f l = book_of f.records (reading_of f l).state.ranges

-- the stored total
abbrev pub total_in : List ℕ → ℕ
total_in l = number_in l total_at word

-- the stored lowest figure
abbrev pub lowest_stored : Layout → List ℕ → ℕ
lowest_stored f l = number_in l (low_at f) word

-- from what the call that writes the image of `new` leaves of the bytes l
abbrev pub images : Layout → List ℕ → Engine
images f l = record {
  State = List ℕ;
  new = (new_over f l).bytes;
  answer = λ c m. voucher_from c (call_over_lem f c m).number;
  next = λ c m. (call_over_lem f c m).bytes;
  book = book_in f;
  total = total_in;
  Sound = Image f;
}

-- the two page calls, as a door over them
abbrev pub pages_of_images : (f : Layout) (l : List ℕ) → Door (images f l)
pages_of_images f l = record {
  answer = λ p m. voucher_from (byte_call p) (pages_over f p m).number;
  next = λ p m. (pages_over f p m).bytes;
}
