-- Demand 3 in pages, sentence by sentence, of a door for pages over any engine: from its first state, after any list of page calls. Assumes nothing.
use Rattle.std.specs.Prelude.{ℕ, ◌+◌, ◌*◌, ◌<◌, false, not, List, ◌≡◌, T}
use Rattle.rules.specs.Rules.{listing, frees, covers, last_covering, said, count}
use Rattle.rules_engine.specs.Engine.{Engine, free_in_lem}
use Rattle.rules_engine.specs.Demand.{SameShelves}
use Rattle.pages.specs.Pages.{page, most_pages}
use Rattle.pages.specs.Calls.{PageCall, AllocatePages, FreePages, byte_call, Door, after, vouchers, first_byte, page_free, covers_page}

-- the state after the page calls
abbrev pub left : (e : Engine) → Door e → List PageCall → e.State
left e d ps = after e d e.new ps

abbrev pub SamePages : (e : Engine) → e.State → e.State → Type 0
SamePages e s t = (k : ℕ) → page_free e s k ≡ page_free e t k

-- the page call that hands back what a take of c pages covers in the state s
abbrev pub handing_back : (e : Engine) → Door e → ℕ → ℕ → e.State → PageCall
handing_back e d c o s = FreePages (d.answer (AllocatePages c o) s).address c

pub record PageDemand (e : Engine) (d : Door e) : Type 0 where
  -- Every state on the way is sound.
  pub always-sound : (ps : List PageCall) → e.Sound (left e d ps)
  -- No page is free in part,
  pub whole-pages : (ps : List PageCall) (k i : ℕ) → i < page → free_in_lem e (left e d ps) (first_byte k + i) ≡ page_free e (left e d ps) k
  -- and no accepted call covers one in part.
  pub whole-covered : (ps : List PageCall) (p : PageCall) (k i : ℕ) → i < page → covers (d.answer p (left e d ps)) (first_byte k + i) ≡ covers_page (d.answer p (left e d ps)) k
  -- A page is free exactly if the last accepted call covering it was a page free,
  pub free-pages : (ps : List PageCall) (k : ℕ) → page_free e (left e d ps) k ≡ said false (last_covering (first_byte k) (vouchers e d e.new ps))
  -- and the stored total is 4096 times the number of those pages.
  pub total-counts : (ps : List PageCall) → e.total (left e d ps) ≡ page * count most_pages (page_free e (left e d ps))
  -- An accepted take covers only free pages, an accepted free none.
  pub covers-only : (ps : List PageCall) (p : PageCall) (k : ℕ) → T (covers_page (d.answer p (left e d ps)) k) → page_free e (left e d ps) k ≡ not (frees (byte_call p))
  -- Two lists of page calls that leave the same pages free leave the same ranges;
  pub same-ranges : (ps qs : List PageCall) → SamePages e (left e d ps) (left e d qs) → listing (e.book (left e d ps)) ≡ listing (e.book (left e d qs))
  -- only record numbers and the order among equal sizes may differ.
  pub same-shelves : (ps qs : List PageCall) → SamePages e (left e d ps) (left e d qs) → SameShelves (e.book (left e d ps)) (e.book (left e d qs))
  -- Handing back at once exactly the pages that an accepted take covered is always accepted and restores the ranges.
  pub handed-back : (ps : List PageCall) (c o : ℕ) → (d.answer (AllocatePages c o) (left e d ps)).number ≡ 0
      → ((d.answer (handing_back e d c o (left e d ps)) (d.next (AllocatePages c o) (left e d ps))).number ≡ 0)
      × (listing (e.book (d.next (handing_back e d c o (left e d ps)) (d.next (AllocatePages c o) (left e d ps)))) ≡ listing (e.book (left e d ps)))
