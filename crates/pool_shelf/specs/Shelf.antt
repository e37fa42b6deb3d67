-- What the steps of the shelf ask for and answer. Assumes nothing.
use Rattle.std.specs.Prelude.{ℕ, ◌≢◌, List}
use Rattle.rules.specs.Rules.{Range, size, before, without}
use Rattle.rules.specs.Sound.{In, Good}
use Rattle.pool_state.specs.Shown.{at, Shelved}
use Rattle.pool_state.specs.Lent.{Lent, was, is}

-- record i may go out of the shelf l, or into it
pub record Removes (n : ℕ) (start end prev next heads : List ℕ) (i : ℕ) (l : List Range) : Type 0 where
  pub shelved : Shelved n l start end prev next heads
  pub member : In (at start end i) l

pub record Places (n : ℕ) (start end prev next heads : List ℕ) (i : ℕ) (l : List Range) : Type 0 where
  pub shelved : Shelved n l start end prev next heads
  pub good : Good n (at start end i)
  pub loose : (q : Range) → In q l → i ≢ q.number

-- record i, of the shelf l, may be given the range q and go to its place
pub record Resizes (n : ℕ) (start end prev next heads : List ℕ) (q : Range) (l : List Range) : Type 0 where
  pub removes : Removes n start end prev next heads q.number l
  pub good : Good n q

-- ---- what they leave, of every shelf of which that held

-- record i has gone out of the shelf
abbrev pub Removed : ℕ → List ℕ → List ℕ → Lent (List ℕ) → Lent (List ℕ) → Lent (List ℕ) → ℕ → Type 0
Removed n start end prev next heads i =
    (l : List Range) → Removes n start end (was prev) (was next) (was heads) i l
    → Shelved n (without i l) start end (is prev) (is next) (is heads)

-- record i has come to its place, by its size
abbrev pub Placed : ℕ → List ℕ → List ℕ → Lent (List ℕ) → Lent (List ℕ) → Lent (List ℕ) → ℕ → Type 0
Placed n start end prev next heads i =
    (l : List Range) → Places n start end (was prev) (was next) (was heads) i l
    → Shelved n (before size (at start end i) l) start end (is prev) (is next) (is heads)

-- the range q stands in its record, and at its place
abbrev pub Resized : ℕ → Lent (List ℕ) → Lent (List ℕ) → Lent (List ℕ) → Lent (List ℕ) → Lent (List ℕ) → Range → Type 0
Resized n start end prev next heads q =
    (l : List Range) → Resizes n (was start) (was end) (was prev) (was next) (was heads) q l
    → Shelved n (before size q (without q.number l)) (is start) (is end) (is prev) (is next) (is heads)
