-- The calls on an account obey the rules, so demand 3 holds of them, and they note the lowest figure, so what is promised of it does. Assumes nothing.
use Prim.Native.Nat.{ℕ, ◌≤◌}
use mathlib.Core.Bool.{true}
use mathlib.Core.Path.{◌≡◌, refl, sym, ap, ◌∙◌, subst}
use Rattle.linked_lists.specs.Links.{none}
use Rattle.rules.specs.Rules.{Book, empty, sum, total, step}
use Rattle.rules_engine.specs.Demand.{Demand}
use Rattle.rules_engine.proofs.Obeys.{Obeys}
use Rattle.rules_engine.proofs.Demand as engine
use Rattle.rules_engine.proofs.Demand.{Stands}
use Rattle.rules_lowest.specs.Lowest.{never, noted, low_sound}
use Rattle.rules_lowest.specs.Carried.{Lowest, CountsFrom}
use Rattle.rules_lowest.proofs.Least.{noted-sound}
use Rattle.rules_lowest.proofs.Carried as figure
use Rattle.rules_lowest.proofs.Carried.{Carries}
use Rattle.pool_state.specs.State.{state_of}
use Rattle.pool_state.specs.Sound.{book_of}
use Rattle.pool_state.specs.declared.MemoryAllocator.{MemoryAllocator}
use Rattle.pool_state.proofs.Book.{book-back, sound-holds}
use Rattle.calls.specs.Calls.{voucher_of}
use Rattle.account_state.specs.Account.{account, SoundAccount}
use Rattle.account_state.specs.declared.Account.{Account}
use Rattle.account_state.specs.declared.Entered.{Entered}
use Rattle.account_calls.specs.Made.{made}
use Rattle.account_calls.specs.Engine.{accounts, lowest_in}
use Rattle.account_calls.proofs.Steps.{sound-held, made_held, made-voucher}

-- the account holds the book, beside a figure that may stand there
pub record OfBook (n : ℕ) (b : Book) (a : Account) : Type 0 where
  pub low : ℕ
  pub fits : low_sound (total b) low ≡ true
  pub is : a ≡ account (state_of n b) low

module _ (n : ℕ) (small : n ≤ none) where
  pub obeys : Obeys n (accounts n)
  unfolding state_of sum
  obeys = record {
    Of = OfBook n;
    begins = record { low = never; fits = refl; is = refl };
    answers = λ b a c h o. ap (λ (x : Account). voucher_of c (made n x c).answer) o.is ∙ made-voucher n small b o.low c h o.fits;
    leaves = λ b a c h o. record {
      low = noted (step n c b).number (total (step n c b).book) o.low;
      fits = noted-sound n b c h o.low o.fits;
      is = ap (λ (x : Account). (made n x c).state) o.is ∙ ap (λ (r : Entered). r.state) (made_held n small b o.low c h o.fits);
    };
    shows = λ b a h o. ap (λ (x : Account). book_of n x.ranges) o.is ∙ book-back n small b h;
    counts = λ b a h o. ap (λ (x : Account). x.ranges.free_size) o.is;
    sound = λ b a h o. subst (SoundAccount n) (sym o.is) (sound-held n small b o.low h o.fits);
  }

  pub demand : Demand (accounts n)
  demand = engine.demand obeys

  -- ---- the lowest figure

  pub carries : Carries obeys lowest_in
  unfolding obeys
  carries = record {
    begins = refl;
    notes = λ b a c h o.
        ap (λ (x : Account). (made n x c).state.lowest) o.is ∙ ap (λ (r : Entered). r.state.lowest) (made_held n small b o.low c h o.fits)
        ∙ ap (noted (step n c b).number (total (step n c b).book)) (sym (ap lowest_in o.is));
  }

  pub lowest : Lowest (accounts n) lowest_in
  lowest = figure.lowest obeys lowest_in carries

  -- a sound account is that of a sound book
  pub stands : (a : Account) → SoundAccount n a → Stands obeys a
  unfolding obeys
  stands a h = record {
    held = book_of n a.ranges;
    good = h.ranges.book;
    of = record {
      low = a.lowest;
      fits = ap (λ (t : ℕ). low_sound t a.lowest) (sym (sound-holds n a.ranges h.ranges).counts) ∙ h.low;
      is = ap (λ (s : MemoryAllocator). account s a.lowest) (sym h.ranges.state);
    };
  }

  -- From any sound account on, it is the least of its own figure and of the sums.
  pub lowest-from : (a : Account) → SoundAccount n a → CountsFrom (accounts n) lowest_in a
  lowest-from a h = figure.counts-from obeys lowest_in carries a (stands a h)
