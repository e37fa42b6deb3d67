-- The rule of `allocate`, line by line. Assumes nothing.
use Prim.Native.Nat.{ℕ, ◌+◌, ◌<◌, ◌≤◌}
use mathlib.Core.Bool.{Bool, cond}
use mathlib.Core.Logic.{◌≢◌}
use mathlib.Core.Path.{◌≡◌, sym, ap, ◌∙◌}
use lib.ListN.{get_or}
use native.Mathlib.Omega.{arith}
use borrow.Author.Tests.{eq-eqb, ne_eqb, lt-ltb, le-ltb}
use Rattle.std.specs.Prelude.{Some, None}
use Rattle.rules.specs.Rules.{top, Range, Book, accepted, refused, refuse, allocate, total, taken, up, fit, serves, find}
use Rattle.rules_laws.proofs.Outcomes.{le_up, served}
use Rattle.pool_state.specs.State.{Holds}
use Rattle.pool_state.specs.declared.RecordIndex.{RecordIndex}
use Rattle.pool_state.specs.declared.MemoryAllocator.{MemoryAllocator}
use Rattle.pool_links.specs.Hits.{hit_of}
use Rattle.pool_take.specs.Take.{Asks, refuses}
use Rattle.call_allocate.specs.Fit.{allocate_fit_lem, first_from, allocate_first_lem}
use Rattle.pool_links.proofs.Hits.{hit-at, hit-nothing}
use Rattle.pool_state.proofs.States.{stands_at}

module _ (n z o : ℕ) (b : Book) where
  pub zero-size : z ≡ 0 → allocate n z o b ≡ refused 4 b
  unfolding allocate refuse
  zero-size e = rw (eq-eqb z 0 e)

  pub high-order : z ≢ 0 → 63 < o → allocate n z o b ≡ refused 4 b
  unfolding allocate refuse
  high-order e h = rw (ne_eqb z 0 e, lt-ltb 63 o h)

  pub too_few : z ≢ 0 → o ≤ 63 → total b < z → allocate n z o b ≡ refused 3 b
  unfolding allocate refuse
  too_few e h g = rw (ne_eqb z 0 e, le-ltb 63 o h, lt-ltb (total b) z g)

  pub searched : z ≢ 0 → o ≤ 63 → z ≤ total b → allocate n z o b ≡ allocate_fit_lem n z o b
  unfolding allocate refuse
  searched e h g = rw (ne_eqb z 0 e, le-ltb 63 o h, le-ltb (total b) z g)

-- ---- one search

module _ (n : ℕ) (spare : Bool) (z o : ℕ) (b : Book) where
  abbrev serving : Range → Bool
  serving r = serves spare (fit z o r)

  pub none-serves : None ≡ hit_of (find serving b.shelf) → allocate_first_lem n spare z o b ≡ refused 3 b
  unfolding first_from
  none-serves q = ap (first_from n z o b) (hit-nothing serving b.shelf q)

  -- the range that was found, and what the answer is
  pub record Fitted (s : MemoryAllocator) (i a : ℕ) : Type 0 where
    pub range : Range
    pub asks : Asks n b s i a (a + z) range
    pub answer : allocate_first_lem n spare z o b ≡ cond (refuses n b range a (a + z)) (refused 1 b) (accepted a (taken n range a (a + z) b))

  pub fitted : 0 < z → (s : MemoryAllocator) (j : RecordIndex) (a : ℕ) → Holds n b s → Some j ≡ hit_of (find serving b.shelf) → a ≡ up o (get_or s.start j.0 0)
      → Fitted s j.0 a
  unfolding first_from refuse
  fitted some s j a hs q f =
      let w = hit-at serving b.shelf j q in
      let r = w.0 in
      let m = (hs.shape.sound.same r).1 w.1 in
      let ea : a ≡ up o r.start = f ∙ ap (up o) (stands_at n b s hs j.0 r w.3 m).1 in
      record {
        range = r;
        asks = record {
          holds = hs;
          member = m;
          number = w.3;
          from = rw ea (le_up o r.start);
          some_byte = omega arith;
          to = rw ea (served spare z o r w.2).0;
        };
        answer = ap (first_from n z o b) w.4 ∙ ap (λ (x : ℕ). cond (refuses n b r x (x + z)) (refused 1 b) (accepted x (taken n r x (x + z) b))) (sym ea);
      }

  -- the record that was found has a range below the top, and the request ends there
  pub fit-known : (s : MemoryAllocator) (j : RecordIndex) → Holds n b s → Some j ≡ hit_of (find serving b.shelf)
      → (j.0 < n) × (get_or s.start j.0 0 < top) × (up o (get_or s.start j.0 0) + z ≤ top)
  fit-known s j hs q =
      let w = hit-at serving b.shelf j q in
      let m = (hs.shape.sound.same w.0).1 w.1 in
      let k = stands_at n b s hs j.0 w.0 w.3 m in
      let g = hs.shape.sound.good w.0 m in
      let u : up o (get_or s.start j.0 0) ≡ up o w.0.start = ap (up o) k.1 in
      (k.0, (let e = k.1 in omega (arith, g.proper, g.below)), omega (arith, (served spare z o w.0 w.2).0, g.below))
