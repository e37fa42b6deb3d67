-- Demands 2 and 3 as request T-07 reads them, sentence by sentence, of the register over any allocator: from nothing free and nothing held, with m entries, after any
-- list of calls. Assumes nothing.
use Rattle.std.specs.Prelude.{ℕ, ◌+◌, ◌-◌, Bool, false, cond, not, ◌&&◌, ◌||◌, List, [], ◌≢◌, ◌≡◌, T, eqb, get_or}
use Rattle.rules.specs.Rules as rules
use Rattle.rules.specs.Rules.{top, sum, listing, total, any, Free, Allocate, frees, from, past, back, count}
use Rattle.rules_engine.specs.Engine.{Engine, free_in_lem}
use Rattle.rules_engine.specs.Demand.{SameFree, SameShelves}
use Rattle.holder_rules.specs.Register.{blank, used, held, exactly, list_of}
use Rattle.holder_rules.specs.Holders.{Holding, nothing, Call, Offer, By, below, step, Voucher, voucher, run, trail, covers, last_covering, said, was_free, was_take_of, is_of, held_at, offered, brings, brought, own}
use Rattle.holder_rules.specs.Sound.{SoundRegister}
use Rattle.holder_rules.specs.declared.Entry.{Entry}

-- the entry, if it is h's, else the unused one; entry i so
abbrev pub of_his : ℕ → Entry → Entry
of_his h q = cond (eqb q.holder.0 h && used q) q blank

abbrev pub his_entry : ℕ → List Entry → ℕ → Entry
his_entry h r i = of_his h (get_or r i blank)

module _ (e : Engine) (m : ℕ) where
  -- what a list of calls leaves, and its vouchers
  abbrev pub left : List Call → Holding e.State
  left cs = run e (nothing e m) cs

  abbrev pub kept : List Call → List Voucher
  kept cs = trail e (nothing e m) cs

  -- the allocator's state is sound, and the register beside its free ranges
  abbrev pub SoundHolding : Holding e.State → Type 0
  SoundHolding k = e.Sound k.memory × SoundRegister (e.book k.memory).chain k.register

  -- the number of the answer to the call after these
  abbrev pub answered : Call → List Call → ℕ
  answered c cs = (step e c (left cs)).number

  -- what h's accepted call c leaves, and the call of g that hands its bytes back
  abbrev pub after : ℕ → rules.Call → List Call → Holding e.State
  after h c cs = (step e (By h c) (left cs)).holding

  abbrev pub handing_back : ℕ → ℕ → rules.Call → List Call → Call
  handing_back g h c cs = By g (back c (step e (By h c) (left cs)).address)

  pub record Demand : Type 0 where
    -- Every state on the way is sound.
    pub always-sound : (cs : List Call) → SoundHolding (left cs)
    -- "Any refusal leaves the register as it stood", and the allocator.
    pub refused-same : (cs : List Call) (c : Call) → (step e c (left cs)).number ≢ 0 → (step e c (left cs)).holding ≡ left cs
    -- A byte is free exactly if the last accepted call covering it was a free: an offer, or a range handed back.
    pub free_bytes : (cs : List Call) (x : ℕ) → free_in_lem e (left cs).memory x ≡ said was_free false (last_covering x (kept cs))
    -- A byte is held by h exactly if the last accepted call covering it was a take of h.
    pub held_bytes : (cs : List Call) (h x : ℕ) → held_at h (left cs).register x ≡ said (was_take_of h) false (last_covering x (kept cs))
    -- No byte is both.
    pub never_both : (cs : List Call) (h x : ℕ) → T (free_in_lem e (left cs).memory x) → T (held_at h (left cs).register x) → ⊥
    -- The stored total counts the free bytes;
    pub total-counts : (cs : List Call) → e.total (left cs).memory ≡ count top (free_in_lem e (left cs).memory)
    -- "the total plus the held bytes equals the bytes the board has offered, counted from accepted calls".
    pub conserved : (cs : List Call) → e.total (left cs).memory + sum (held (left cs).register) ≡ offered (kept cs)
    -- A byte is offered once in all: an accepted offer covers no byte that an earlier one covers,
    pub offered-once : (cs : List Call) (c : Call) (x : ℕ) → T (brought (kept cs) x) → brings (voucher c (step e c (left cs))) x ≡ false
    -- so the bytes that the board has offered may as well be counted one by one.
    pub offered-bytes : (cs : List Call) → offered (kept cs) ≡ count top (brought (kept cs))
    -- An accepted take covers only free bytes, an accepted free none.
    pub covers-only : (cs : List Call) (c : Call) (x : ℕ) → T (covers (voucher c (step e c (left cs))) x) → free_in_lem e (left cs).memory x ≡ not (frees (below c))
    -- Two lists of calls that leave the same bytes free leave the same ranges;
    pub same-ranges : (cs ds : List Call) → SameFree e (left cs).memory (left ds).memory → listing (e.book (left cs).memory) ≡ listing (e.book (left ds).memory)
    -- only record numbers, the order among equal sizes and the register may differ.
    pub same-shelves : (cs ds : List Call) → SameFree e (left cs).memory (left ds).memory → SameShelves (e.book (left cs).memory) (e.book (left ds).memory)
    -- Handing back at once, by the holder who took, exactly the bytes an accepted take covered is always accepted and restores the ranges, and the register;
    pub handed-back : (cs : List Call) (h : ℕ) (c : rules.Call) → T (not (frees c)) → (step e (By h c) (left cs)).number ≡ 0
        → ((step e (handing_back h h c cs) (after h c cs)).number ≡ 0)
        × (listing (e.book (step e (handing_back h h c cs) (after h c cs)).holding.memory) ≡ listing (e.book (left cs).memory))
        × ((step e (handing_back h h c cs) (after h c cs)).holding.register ≡ (left cs).register)
    -- "A holder's list of ranges is changed by no call of another holder", nor of the board,
    pub others : (cs : List Call) (c : Call) (h : ℕ) → T (not (is_of h c)) → list_of h (step e c (left cs)).holding.register ≡ list_of h (left cs).register
    -- nor is any of its entries: by number, each of them is the same before and after, whatever the call is answered;
    pub others-entries : (cs : List Call) (c : Call) (h : ℕ) → T (not (is_of h c)) → (i : ℕ) → his_entry h (step e c (left cs)).holding.register i ≡ his_entry h (left cs).register i
    -- and the list is what its own accepted calls make of the empty one.
    pub own-list : (cs : List Call) (h : ℕ) → list_of h (left cs).register ≡ own h [] (kept cs)
    -- Whether a free is refused with 4 or 5 is told by its holder's own list alone: exactly if the range is not on it. (A number that is no holder's has nothing on its list.)
    pub told-by-own : (cs : List Call) (h s z : ℕ) → (eqb (answered (By h (Free s z)) cs) 4 || eqb (answered (By h (Free s z)) cs) 5) ≡ not (any (exactly s z) (list_of h (left cs).register))
    -- Whether an allocate is refused with 4 is told by holder, size and order alone.
    pub allocate-told : (cs ds : List Call) (h z o : ℕ) → eqb (answered (By h (Allocate z o)) cs) 4 ≡ eqb (answered (By h (Allocate z o)) ds) 4

  -- From any sound state on, whatever led to it, the total plus the held bytes grows by exactly the accepted offers.
  abbrev pub Grows : Type 0
  Grows = (k : Holding e.State) → SoundHolding k → (cs : List Call)
      → e.total (run e k cs).memory + sum (held (run e k cs).register) ≡ (e.total k.memory + sum (held k.register)) + offered (trail e k cs)
