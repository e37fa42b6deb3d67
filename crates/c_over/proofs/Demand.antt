-- The C calls obey the rules and note the lowest figure, so demand 3 and what is promised of the figure hold of them, from the image's bytes alone: over whatever lies in a slice of the image's
-- length, the call that writes the image of `new`, and then any list of calls. (`current` is such a layout: `figured-current`.) Assumes nothing.
use Prim.Native.Nat.{ℕ, ◌≤◌}
use mathlib.Core.List.{List}
use mathlib.Core.Bool.{Bool, true, cond}
use mathlib.Core.Path.{◌≡◌, refl, sym, ap, ◌∙◌}
use borrow.Author.Tests.{ne_eqb}
use lib.IntN.{pos}
use lib.ListN.{length}
use Rattle.linked_lists.specs.Links.{none}
use Rattle.rules.specs.Rules.{Book, Call, empty, total, sum, step}
use Rattle.rules_laws.proofs.Kept.{empty-sound}
use Rattle.rules_laws.proofs.Steps.{step-sound}
use Rattle.rules.specs.Sound.{Sound}
use Rattle.rules_engine.specs.Demand.{Demand}
use Rattle.rules_engine.proofs.Obeys.{Obeys}
use Rattle.rules_engine.proofs.Demand as engine
use Rattle.pool_state.specs.State.{state_of}
use Rattle.pool_state.specs.Sound.{book_of}
use Rattle.rules_lowest.specs.Lowest.{never, noted, low_sound}
use Rattle.rules_lowest.specs.Carried.{Lowest}
use Rattle.rules_lowest.proofs.Least.{noted-sound}
use Rattle.rules_lowest.proofs.Carried as figure
use Rattle.rules_lowest.proofs.Carried.{Carries}
use Rattle.account_state.specs.Account.{account, opened, SoundAccount}
use Rattle.account_state.specs.declared.Account.{Account}
use Rattle.account_state.specs.declared.Entered.{Entered}
use Rattle.pool_state.proofs.Book.{book-back}
use Rattle.calls.specs.Calls.{voucher_from}
use Rattle.account_calls.proofs.Steps.{sound-held, made_held, made-voucher}
use Rattle.image_parts.specs.Layout.{Layout, Figured, word, low_at, image_size_lem}
use Rattle.image_writing.specs.Writing.{image_of}
use Rattle.image_parts.proofs.Lawful.{small-pool}
use Rattle.image_parts.specs.Read.{number_in}
use Rattle.image_reading.specs.Reading.{state_in_lem, account_in}
use Rattle.image.specs.Reading.{Handed}
use Rattle.image.proofs.Rounds.{told-all, back, read_same}
use Rattle.c_over.specs.CCalls.{Returned, returned, finished, new_over, call_over_lem}
use Rattle.c_over.specs.Images.{book_in, total_in, lowest_stored, images}
use Rattle.c_over.proofs.Ways.{new-done}
use Rattle.c_over.proofs.Images.{call-bytes, call-voucher}

-- the image of the account that holds a sound book, beside a figure that may stand there
pub record OfBook (f : Layout) (b : Book) (m : List ℕ) : Type 0 where
  pub low : ℕ
  pub fits : low_sound (total b) low ≡ true
  pub is : m ≡ image_of f (account (state_of f.records b) low)

module _ (f : Layout) (full : Figured f) where
  abbrev n : ℕ
  n = f.records

  small : n ≤ none
  small = small-pool f full.lawful

  module _ (b : Book) (h : Sound n b) (low : ℕ) (ok : low_sound (total b) low ≡ true) where
    abbrev holding : Account
    holding = account (state_of n b) low

    abbrev image : List ℕ
    image = image_of f holding

    held : SoundAccount n holding
    held = sound-held n small b low h ok

    shows : book_in f image ≡ b
    shows = ap (λ (x : Handed). book_of n x.state.ranges) (read_same f full holding held) ∙ book-back n small b h

    same : account_in f image ≡ holding
    same = back f full.lawful holding held ∙ told-all f full.figured holding

    counts : total_in image ≡ total b
    unfolding state_in_lem state_of
    counts = ap (λ (a : Account). a.ranges.free_size) same

    stores : lowest_stored f image ≡ low
    stores = sym (ap (λ (t : Bool). cond t (total_in image) (number_in image (low_at f) word)) (ne_eqb f.low 0 full.figured)) ∙ ap (λ (a : Account). a.lowest) same

  module _ (l : List ℕ) (sized : length l ≡ image_size_lem f) where
    -- the first call answers 0 and writes the image of `new`
    pub new-written : new_over f l ≡ returned (pos 0) (image_of f (opened n))
    unfolding finished
    new-written = sym (new-done f l sized _ refl)

    -- what a call leaves of the image of a book
    leaves-book : (b : Book) (m : List ℕ) (c : Call) → Sound n b → (o : OfBook f b m)
        → (call_over_lem f c m).bytes ≡ image_of f (account (state_of n (step n c b).book) (noted (step n c b).number (total (step n c b).book) o.low))
    leaves-book b m c h o =
        ap (λ (x : List ℕ). (call_over_lem f c x).bytes) o.is ∙ call-bytes f full (account (state_of n b) o.low) (held b h o.low o.fits) c
        ∙ ap (λ (r : Entered). image_of f r.state) (made_held n small b o.low c h o.fits)

    pub obeys : Obeys n (images f l)
    unfolding sum
    obeys = record {
      Of = OfBook f;
      begins = record { low = never; fits = refl; is = ap (λ (x : Returned). x.bytes) new-written };
      answers = λ b m c h o.
          ap (λ (x : List ℕ). voucher_from c (call_over_lem f c x).number) o.is
          ∙ call-voucher f full (account (state_of n b) o.low) (held b h o.low o.fits) c ∙ made-voucher n small b o.low c h o.fits;
      leaves = λ b m c h o. record {
        low = noted (step n c b).number (total (step n c b).book) o.low;
        fits = noted-sound n b c h o.low o.fits;
        is = leaves-book b m c h o;
      };
      shows = λ b m h o. ap (book_in f) o.is ∙ shows b h o.low o.fits;
      counts = λ b m h o. ap total_in o.is ∙ counts b h o.low o.fits;
      sound = λ b m h o. record { state = account (state_of n b) o.low; sound = held b h o.low o.fits; bytes = sym o.is };
    }

    pub demand : Demand (images f l)
    demand = engine.demand obeys

    -- ---- the lowest figure

    empty-fits : low_sound (total empty) never ≡ true
    unfolding sum
    empty-fits = refl

    carries : Carries obeys (lowest_stored f)
    unfolding obeys
    carries = record {
      begins = ap (λ (x : Returned). lowest_stored f x.bytes) new-written ∙ stores empty (empty-sound n) never empty-fits;
      notes = λ b m c h o.
          ap (lowest_stored f) (leaves-book b m c h o)
          ∙ stores (step n c b).book (step-sound n b c h) (noted (step n c b).number (total (step n c b).book) o.low) (noted-sound n b c h o.low o.fits)
          ∙ ap (noted (step n c b).number (total (step n c b).book)) (sym (ap (lowest_stored f) o.is ∙ stores b h o.low o.fits));
    }

    -- It is the least total after an accepted call, counted from the calls and their answers alone.
    pub lowest : Lowest (images f l) (lowest_stored f)
    lowest = figure.lowest obeys (lowest_stored f) carries
