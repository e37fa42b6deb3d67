-- What the contracts of in-place functions say of the parameters that are lent to them. n is the number of records. Assumes nothing.
use Rattle.std.specs.Prelude.{ℕ, Bool, List, ◌≡◌}
use Rattle.std.specs.Borrow.{MutBor}
use denote.Triple.Both.{Both}
use Rattle.rules.specs.Rules.{Book}
use Rattle.pool_state.specs.State.{arrays, Holds}
use Rattle.pool_state.specs.declared.MemoryAllocator.{MemoryAllocator}
use Rattle.pool_state.specs.declared.Fields.{Fields}

-- a lent parameter as an `ensures` sees it, at entry and at exit; what it held then, and what it holds now
abbrev pub Lent : Type 0 → Type 0
Lent X = Both (MutBor X) (MutBor X)

abbrev pub was : {X : Type 0} → Lent X → X
was x = x.entry.now

abbrev pub is : {X : Type 0} → Lent X → X
is x = x.exit.now

-- ---- the fields of a state, lent together

-- the state that they make up
abbrev pub lent_state : Fields → MemoryAllocator
lent_state f =
    arrays f.free_size.now f.first_entry.now f.free_list.now f.start.now f.end.now f.enabled.now f.previous.now f.next.now f.list_prev.now f.list_next.now

-- what a `requires` says of them: P of the state that they make up
abbrev pub OfState : Type 1
OfState = MutBor Fields → Type 0

abbrev pub holds : (MemoryAllocator → Type 0) → OfState
holds P f = P (lent_state f.now)

-- what an `ensures` says of them: R of the state that they made up at entry and the one at exit
abbrev pub OfStates : Type 1
OfStates = Lent Fields → Type 0

abbrev pub becomes : (MemoryAllocator → MemoryAllocator → Type 0) → OfStates
becomes R f = R (lent_state (was f)) (lent_state (is f))

-- they hold some book
abbrev pub HoldsBook : ℕ → OfState
HoldsBook n = holds (λ s. (b : Book) × Holds n b s)

-- two of them lend the same places, whatever they hold
abbrev pub SamePlaces : Fields → Fields → Type 0
SamePlaces f g =
    (g.free_size.ghost_name ≡ f.free_size.ghost_name)
    × (g.first_entry.ghost_name ≡ f.first_entry.ghost_name)
    × (g.free_list.ghost_name ≡ f.free_list.ghost_name)
    × (g.start.ghost_name ≡ f.start.ghost_name)
    × (g.end.ghost_name ≡ f.end.ghost_name)
    × (g.enabled.ghost_name ≡ f.enabled.ghost_name)
    × (g.previous.ghost_name ≡ f.previous.ghost_name)
    × (g.next.ghost_name ≡ f.next.ghost_name)
    × (g.list_prev.ghost_name ≡ f.list_prev.ghost_name)
    × (g.list_next.ghost_name ≡ f.list_next.ghost_name)

-- what is lent at exit is what was lent at entry
abbrev pub Keeps : OfStates
Keeps f = SamePlaces (was f) (is f)

-- ---- the ten fields of a state, lent one by one: total, first, heads, start, end, enabled, previous, next, lprev, lnext

-- what is said of the ten
abbrev pub OfTen : (Type 0 → Type 0) → Type 1
OfTen F = F ℕ → F ℕ → F (List ℕ) → F (List ℕ) → F (List ℕ) → F (List Bool) → F (List ℕ) → F (List ℕ) → F (List ℕ) → F (List ℕ) → Type 0

-- what a `requires` says of the ten: P of the state that they make up
abbrev pub OfFields : Type 1
OfFields = OfTen MutBor

abbrev pub fields : (MemoryAllocator → Type 0) → OfFields
fields P total first heads start end enabled previous next lprev lnext =
    P (arrays total.now first.now heads.now start.now end.now enabled.now previous.now next.now lprev.now lnext.now)

-- what an `ensures` says of them: R of the state that they made up at entry and the one at exit
abbrev pub OfLent : Type 1
OfLent = OfTen Lent

abbrev pub turns : (MemoryAllocator → MemoryAllocator → Type 0) → OfLent
turns R total first heads start end enabled previous next lprev lnext =
    R (arrays (was total) (was first) (was heads) (was start) (was end) (was enabled) (was previous) (was next) (was lprev) (was lnext))
    (arrays (is total) (is first) (is heads) (is start) (is end) (is enabled) (is previous) (is next) (is lprev) (is lnext))

-- the ten hold some book
abbrev pub HoldsSome : ℕ → OfFields
HoldsSome n = fields (λ s. (b : Book) × Holds n b s)
