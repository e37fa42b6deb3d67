-- The calls of request T-07: what each answers, and what it leaves. Below the register stands an engine, whatever answers the allocator's calls: it is asked
-- as it is, and only its number, its address and its next state are read. (An unsound state, 2, stands in specs/States.antt.) Assumes nothing.
use Rattle.std.specs.Prelude.{Bool, true, false, cond, not, ◌&&◌, ◌||◌, List, [], ◌∷◌, ℕ, ◌+◌, ◌-◌, eqb}
use Rattle.std.proofs.Math.Option.{Option, none, some}
use Rattle.rules.specs.Rules as rules
use Rattle.rules.specs.Rules.{Range, range, start_of, before, any, holds, meets, Free, Allocate, Reserve, frees, from, past}
use Rattle.rules_engine.specs.Engine.{Engine}
use Rattle.holder_rules.specs.Register.{known, entry, blanks, held, full, enter, exactly, yours, leave}
use Rattle.holder_rules.specs.declared.Entry.{Entry}

-- the allocator's state, and the register of the held ranges
pub record Holding (S : Type 0) : Type 0 where
  pub memory : S
  pub register : List Entry

abbrev pub both : {S : Type 0} → S → List Entry → Holding S
both s r = record { memory = s; register = r }

-- nothing is free and nothing held; m entries
abbrev pub nothing : (e : Engine) → ℕ → Holding e.State
nothing e m = both e.new (blanks m)

pub record Answer (S : Type 0) : Type 0 where
  pub number : ℕ
  pub address : ℕ
  pub holding : Holding S

abbrev pub accepted : {S : Type 0} → ℕ → Holding S → Answer S
accepted a k = record { number = 0; address = a; holding = k }

-- "Any refusal leaves the register as it stood"
abbrev pub refused : {S : Type 0} → ℕ → Holding S → Answer S
refused j k = record { number = j; address = 0; holding = k }

-- where the line applies the answer is its number; else the lines below it decide
unfoldable pub refuse : {S : Type 0} → Bool → ℕ → Holding S → Answer S → Answer S
refuse c j k below = cond c (refused j k) below

-- the allocator's number j: its refusal is the answer
unfoldable pub unless_refused : {S : Type 0} → ℕ → Holding S → Answer S → Answer S
unless_refused j k below = refuse (not (eqb j 0)) j k below

-- "5 comes after every 4 and before 1": c says whether 5 is due; accepted, the call leaves k'
unfoldable pub unless_other : {S : Type 0} → rules.Voucher → Bool → Holding S → Holding S → Answer S
unless_other v c k k' =
    refuse (eqb v.number 4) 4 k
    (refuse c 5 k
    (unless_refused v.number k
    (accepted v.address k')))

-- "The board's own offers are answered 5 if they overlap a held byte"
unfoldable pub offer : (e : Engine) → ℕ → ℕ → Holding e.State → Answer e.State
offer e s z k =
    unless_other (e.answer (Free s z) k.memory) (any (meets s (s + z)) (held k.register)) k
    (both (e.next (Free s z) k.memory) k.register)

-- "a free must give back a range exactly as handed to that holder, else new refusal 5, not yours"; "entries given back are used again"
unfoldable pub give_back_lem : (e : Engine) → ℕ → ℕ → ℕ → Holding e.State → Answer e.State
give_back_lem e h s z k =
    unless_other (e.answer (Free s z) k.memory) (not (any (yours h s z) (held k.register))) k
    (both (e.next (Free s z) k.memory) (leave h s z k.register))

-- the bytes that h's call c moved, whose address is x: an entry
abbrev pub piece : ℕ → rules.Call → ℕ → Entry
piece h c x = entry h (from c x) (past c x - 1)

-- "A full register is refusal 6, given only where the allocator would accept, with nothing changed"; v is what it answers, s what it leaves
unfoldable pub take_as : {S : Type 0} → rules.Voucher → S → ℕ → rules.Call → Holding S → Answer S
take_as v s h c k =
    unless_refused v.number k
    (refuse (full k.register) 6 k
    (accepted v.address (both s (enter (piece h c v.address) k.register))))

unfoldable pub take : (e : Engine) → ℕ → rules.Call → Holding e.State → Answer e.State
take e h c k = take_as (e.answer c k.memory) (e.next c k.memory) h c k

-- a holder's call: a free hands back, the others take
unfoldable pub asked : (e : Engine) → ℕ → rules.Call → Holding e.State → Answer e.State
asked e h (Free s z) k = give_back_lem e h s z k
asked e h (Allocate z o) k = take e h (Allocate z o) k
asked e h (Reserve s z o) k = take e h (Reserve s z o) k

-- ---- lists of calls, and what is kept of them

-- the board's, or a holder's
pub data Call : Type 0 where
  Offer : ℕ → ℕ → Call
  By : ℕ → rules.Call → Call

-- "A take names its holder"; "other holder numbers answered 4 next after 2"
unfoldable pub step : (e : Engine) → Call → Holding e.State → Answer e.State
step e (Offer s z) k = offer e s z k
step e (By h c) k = refuse (not (known h)) 4 k (asked e h c k)

-- the allocator's call in it
abbrev pub below : Call → rules.Call
below (Offer s z) = Free s z
below (By h c) = c

pub record Voucher : Type 0 where
  pub call : Call
  pub number : ℕ
  pub address : ℕ

abbrev pub voucher : {S : Type 0} → Call → Answer S → Voucher
voucher c w = record { call = c; number = w.number; address = w.address }

-- the holding that a list of calls leaves, and their vouchers, oldest first
unfoldable pub run : (e : Engine) → Holding e.State → List Call → Holding e.State
run e k [] = k
run e k (c ∷ cs) = run e (step e c k).holding cs

unfoldable pub trail : (e : Engine) → Holding e.State → List Call → List Voucher
trail e k [] = []
trail e k (c ∷ cs) = voucher c (step e c k) ∷ trail e (step e c k).holding cs

-- ---- what is read off vouchers

abbrev pub is_accepted : Voucher → Bool
is_accepted v = eqb v.number 0

-- the allocator's voucher of it: its call, with the register's answer
abbrev pub under : Voucher → rules.Voucher
under v = record { call = below v.call; number = v.number; address = v.address }

abbrev pub covers : Voucher → ℕ → Bool
covers v x = rules.covers (under v) x

unfoldable pub last_covering : ℕ → List Voucher → Option Voucher
last_covering x [] = none
last_covering x (v ∷ vs) = elim (last_covering x vs) [ none ↦ cond (covers v x) (some v) none | some d ↦ some d ]

-- the board's; holder h's; a take of h
abbrev pub is_offer : Call → Bool
is_offer (Offer s z) = true
is_offer (By h c) = false

abbrev pub is_of : ℕ → Call → Bool
is_of h (Offer s z) = false
is_of h (By g c) = eqb g h

abbrev pub is_take_of : ℕ → Call → Bool
is_take_of h c = is_of h c && not (frees (below c))

-- what g says of that call; without one, what is said from the first
abbrev pub said : (Voucher → Bool) → Bool → Option Voucher → Bool
said g d none = d
said g d (some v) = g v

abbrev pub was_free : Voucher → Bool
was_free v = frees (below v.call)

abbrev pub was_take_of : ℕ → Voucher → Bool
was_take_of h v = is_take_of h v.call

-- the byte x is held by h; by anybody
unfoldable pub held_at : ℕ → List Entry → ℕ → Bool
held_at h r x = any (λ q. eqb q.number h && holds x q) (held r)

unfoldable pub held_by_any : List Entry → ℕ → Bool
held_by_any r x = any (holds x) (held r)

-- "the bytes the board has offered, counted from accepted calls"
abbrev pub offered_by : Voucher → ℕ
offered_by v = cond (is_offer v.call && is_accepted v) (past (below v.call) 0 - from (below v.call) 0) 0

unfoldable pub offered : List Voucher → ℕ
offered [] = 0
offered (v ∷ vs) = offered_by v + offered vs

-- an accepted offer, and it covers the byte x; some call of the list was one
abbrev pub brings : Voucher → ℕ → Bool
brings v x = is_offer v.call && covers v x

unfoldable pub brought : List Voucher → ℕ → Bool
brought [] x = false
brought (v ∷ vs) x = brings v x || brought vs x

-- the list without its range of z bytes from s
unfoldable pub lacking : ℕ → ℕ → List Range → List Range
lacking s z [] = []
lacking s z (q ∷ l) = cond (exactly s z q) l (q ∷ lacking s z l)

-- what an accepted call of h makes of h's list: a take adds its piece, a free removes it
abbrev pub moved : ℕ → rules.Call → ℕ → List Range → List Range
moved h c x l = cond (frees c) (lacking (from c x) (past c x - from c x) l) (before start_of (range h (from c x) (past c x - 1)) l)

-- h's list from its own accepted calls, oldest first
unfoldable pub own : ℕ → List Range → List Voucher → List Range
own h l [] = l
own h l (v ∷ vs) = own h (cond (is_of h v.call && is_accepted v) (moved h (below v.call) v.address l) l) vs
