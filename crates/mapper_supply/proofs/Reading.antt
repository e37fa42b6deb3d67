-- The page door over an image that reads as the state of a sound book is the rule on that book. Assumes nothing.
use mathlib.Core.Path.{◌≡◌, refl, sym, ◌∙◌, ap}
use mathlib.Core.Bool.{Bool, true, false, not, ◌&&◌}
use mathlib.Core.List.{List}
use Prim.Native.Nat.{ℕ, ◌≤◌}
use lib.IntN.{pos}
use lib.Signed.{lt_z}
use Rattle.std.specs.Prelude.{Ok, Err}
use Rattle.linked_lists.specs.Links.{none}
use Rattle.linked_lists.proofs.Laws.{true≢false}
use Rattle.rules.specs.Rules.{Book, Voucher, total, step, voucher}
use Rattle.rules.specs.Sound.{Sound}
use Rattle.rules_lowest.specs.Lowest.{low_sound, noted}
use Rattle.rules_lowest.proofs.Least.{noted-sound}
use Rattle.rules_laws.proofs.Outcomes.{outcome}
use Rattle.rules_laws.proofs.Steps.{step-sound}
use Rattle.pool_state.specs.Shown.{pool}
use Rattle.pool_state.specs.State.{state_of}
use Rattle.pool_state.specs.Sound.{book_of}
use Rattle.pool_state.specs.declared.MemoryAllocator.{MemoryAllocator}
use Rattle.account_state.specs.Account.{account, is_sound_lem}
use Rattle.account_state.specs.declared.Entered.{Entered}
use Rattle.account_state.proofs.Exact.{passes-sound}
use Rattle.calls.specs.Calls.{Answer, number_of, address_of, answer_of, voucher_of, is_accepted, signed_of, address_from}
use Rattle.calls.specs.declared.MemoryError.TheVariants.{NoEntry, InvalidEntry, NoMemory, InvalidRequest}
use Rattle.calls.proofs.Numbers.{refusal-negative, numbered}
use Rattle.account_calls.specs.Made.{held}
use Rattle.account_calls.proofs.Steps.{sound-held, made_held}
use Rattle.image_parts.specs.Layout.{current}
use Rattle.image_parts.proofs.Lawful.{lawful-current, figured-current, small-pool}
use Rattle.image_writing.specs.Writing.{image_of}
use Rattle.image_reading.specs.Reading.{framed, state_in_lem, low_in_lem, account_in, readable}
use Rattle.image_reading.proofs.Whole.{state-sized}
use Rattle.image.specs.Reading.{accepted, reading_of}
use Rattle.image.proofs.Rounds.{read_same}
use Rattle.c_over.specs.CCalls.{Returned, finished, over, call_over_lem}
use Rattle.mapper_pages.specs.Pages.{page_from}
use Rattle.mapper_pages.proofs.Asking.{page-call}
use Rattle.mapper_supply.proofs.Taking.{one}

small : pool ≤ none
small = small-pool current lawful-current

second : (a b : Bool) → (a && b) ≡ true → b ≡ true
second true b e = e
second false b e = true≢false (sym e)

-- l reads as the account that holds the sound book b, with a figure that may stand beside its total
pub record Reads (b : Book) (l : List ℕ) : Type 0 where
  pub sound : Sound pool b
  pub low : ℕ
  pub fits : low_sound (total b) low ≡ true
  pub reads : reading_of current l ≡ accepted (account (state_of pool b) low)

-- what may stand beside the stored total may stand beside that of the book
fits-total : (b : Book) (t : MemoryAllocator) (low : ℕ) → state_of pool b ≡ t → low_sound t.free_size low ≡ true → low_sound (total b) low ≡ true
unfolding state_of
fits-total b t low e h = ap (λ (m : MemoryAllocator). low_sound m.free_size low) e ∙ h

pub read_first : (l : List ℕ) → readable current l ≡ true → Reads (book_of pool (state_in_lem current l)) l
unfolding reading_of
read_first l r =
    let s = passes-sound pool small (account_in current l) (state-sized current l) (second (framed current l) (is_sound_lem pool (account_in current l)) r) in
    let same = s.ranges.state in
    record {
      sound = s.ranges.book;
      low = low_in_lem current l;
      fits = fits-total (book_of pool (state_in_lem current l)) (state_in_lem current l) (low_in_lem current l) same s.low;
      reads = rw r (ap (λ (t : MemoryAllocator). accepted (account t (low_in_lem current l))) (sym same));
    }

-- an answer that is no refusal
took : (k : Answer) → is_accepted k ≡ true → (number_of k ≡ 0) × (address_from (signed_of k) ≡ address_of k)
took (Ok a) e = (refl, refl)
took (Err NoEntry) e = true≢false (sym e)
took (Err InvalidEntry) e = true≢false (sym e)
took (Err NoMemory) e = true≢false (sym e)
took (Err InvalidRequest) e = true≢false (sym e)

module _ (b : Book) (l : List ℕ) (r : Reads b l) where
  -- what the door returns
  pub door : page_from l ≡ finished current (held pool r.low (step pool one b)) l
  unfolding call_over_lem over
  door = sym (page-call l) ∙ rw r.reads (ap (λ (x : Entered). finished current x l) (made_held pool small b r.low one r.sound r.fits))

  abbrev result : Answer
  result = answer_of (step pool one b).number (step pool one b).address

  numbers : voucher_of one result ≡ voucher one (step pool one b)
  numbers = numbered pool b one (step pool one b) (outcome pool b one r.sound)

  module _ (had : lt_z (page_from l).number (pos 0) ≡ false) where
    accepts : is_accepted result ≡ true
    unfolding finished
    accepts = turned (is_accepted result) (sym (refusal-negative result) ∙ sym (ap (λ (x : Returned). lt_z x.number (pos 0)) door) ∙ had)
      where
        turned : (c : Bool) → not c ≡ false → c ≡ true
        turned true e = refl
        turned false e = sym e

    pub page-accepted : (step pool one b).number ≡ 0
    page-accepted = sym (ap (λ (v : Voucher). v.number) numbers) ∙ (took result accepts).0

    pub page-address : address_from (page_from l).number ≡ (step pool one b).address
    unfolding finished
    page-address = ap (λ (x : Returned). address_from x.number) door ∙ (took result accepts).1 ∙ ap (λ (v : Voucher). v.address) numbers

    abbrev next_low : ℕ
    next_low = noted (step pool one b).number (total (step pool one b).book) r.low

    next-bytes : (page_from l).bytes ≡ image_of current (account (state_of pool (step pool one b).book) next_low)
    unfolding finished
    next-bytes = ap (λ (x : Returned). x.bytes) door ∙ rw accepts

    pub read_next : Reads (step pool one b).book (page_from l).bytes
    read_next =
        let s = step-sound pool b one r.sound in
        let f = noted-sound pool b one r.sound r.low r.fits in
        record {
          sound = s;
          low = next_low;
          fits = f;
          reads = ap (reading_of current) next-bytes ∙ read_same current figured-current (account (state_of pool (step pool one b).book) next_low) (sound-held pool small (step pool one b).book next_low s f);
        }
