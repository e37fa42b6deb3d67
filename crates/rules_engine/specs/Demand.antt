-- Demand 3, sentence by sentence, of any engine: from its first state, after any list of calls, or whatever else its calls are made by. Assumes nothing.
use Rattle.std.specs.Prelude.{ℕ, Bool, false, not, List, map, ◌≡◌, T}
use Rattle.rules.specs.Rules.{top, size, Book, span, listing, Call, Voucher, frees, covers, last_covering, said, count, back, tally}
use Rattle.rules_engine.specs.Engine.{Engine, after, vouchers, free_in_lem}

-- the state after the calls
abbrev pub left : (e : Engine) → List Call → e.State
left e cs = after e e.new cs

abbrev pub SameFree : (e : Engine) → e.State → e.State → Type 0
SameFree e s t = (x : ℕ) → free_in_lem e s x ≡ free_in_lem e t x

-- along both shelves the sizes are the same, and each range stands on both equally often
abbrev pub SameShelves : Book → Book → Type 0
SameShelves b d = (map size b.shelf ≡ map size d.shelf) × ((p : (ℕ × ℕ) → Bool) → tally (λ r. p (span r)) b.shelf ≡ tally (λ r. p (span r)) d.shelf)

-- the call that hands back what the call c covers in the state s
abbrev pub handing_back : (e : Engine) → Call → e.State → Call
handing_back e c s = back c (e.answer c s).address

-- After any history h: `left` is the state that it leaves, and `kept` its vouchers, oldest first.
pub record DemandOf (e : Engine) (H : Type 0) (left : H → e.State) (kept : H → List Voucher) : Type 0 where
  -- Every state on the way is sound.
  pub always-sound : (h : H) → e.Sound (left h)
  -- A byte is free exactly if the last accepted call covering it was a free,
  pub free_bytes : (h : H) (x : ℕ) → free_in_lem e (left h) x ≡ said false (last_covering x (kept h))
  -- and the stored total counts those bytes.
  pub total-counts : (h : H) → e.total (left h) ≡ count top (free_in_lem e (left h))
  -- An accepted take covers only free bytes, an accepted free none.
  pub covers-only : (h : H) (c : Call) (x : ℕ) → T (covers (e.answer c (left h)) x) → free_in_lem e (left h) x ≡ not (frees c)
  -- Two histories that leave the same bytes free leave the same ranges;
  pub same-ranges : (h k : H) → SameFree e (left h) (left k) → listing (e.book (left h)) ≡ listing (e.book (left k))
  -- only record numbers and the order among equal sizes may differ.
  pub same-shelves : (h k : H) → SameFree e (left h) (left k) → SameShelves (e.book (left h)) (e.book (left k))
  -- Handing back at once exactly the bytes an accepted take covered is always accepted and restores the ranges.
  pub handed-back : (h : H) (c : Call) → T (not (frees c)) → (e.answer c (left h)).number ≡ 0
      → ((e.answer (handing_back e c (left h)) (e.next c (left h))).number ≡ 0)
      × (listing (e.book (e.next (handing_back e c (left h)) (e.next c (left h)))) ≡ listing (e.book (left h)))

-- the histories are lists of calls, from the first state on
abbrev pub Demand : Engine → Type 0
Demand e = DemandOf e (List Call) (left e) (vouchers e e.new)
