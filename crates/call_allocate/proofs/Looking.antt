-- What one search comes to, and what a second one adds where all records are used. Assumes nothing.
use Prim.Native.Nat.{ℕ, suc, ◌+◌}
use mathlib.Core.Bool.{Bool, true, false, not, ◌&&◌}
use mathlib.Core.Logic.{◌≢◌}
use mathlib.Core.List.{List, [], ◌∷◌}
use mathlib.Core.Option.{Option, none, some}
use mathlib.Core.Path.{◌≡◌, refl, ◌∙◌, subst}
use lib.Dec.{leb, not_T}
use native.Mathlib.Omega.{arith}
use Rattle.rules.specs.Rules.{Range, Book, up, any, find, full, splits, fit, fits, serves, Answer, refused, refuse, allocate_from}
use Rattle.rules_laws.proofs.Lists.{Found, found, T_false}
use Rattle.rules_laws.proofs.Outcomes.{served}
use Rattle.pool_state.specs.State.{Holds}
use Rattle.pool_state.specs.declared.MemoryAllocator.{MemoryAllocator}
use Rattle.calls.specs.Answers.{Answers}
use Rattle.calls.specs.Calls as answer
use Rattle.call_allocate.specs.Fit.{allocate_fit_lem, first_from, allocate_first_lem}

module _ (z o : ℕ) where
  abbrev splitting : Range → Bool
  splitting r = splits (up o r.start) (up o r.start + z) r

  -- of a list of ranges, where f says that all records are used: none fits; the first that fits can be served; it wants a record
  pub data Looked (f : Bool) (l : List Range) : Type 0 where
    no-fit : find (λ r. serves true (fit z o r)) l ≡ none → any (λ r. serves true (fit z o r)) l ≡ false → Looked f l
    at_once : (r : Range) → find (λ r. serves true (fit z o r)) l ≡ some r → any (λ r. serves true (fit z o r)) l ≡ true
        → find (λ r. serves (not f) (fit z o r)) l ≡ some r → splitting r && f ≡ false → Looked f l
    wanting : (r : Range) → find (λ r. serves true (fit z o r)) l ≡ some r → any (λ r. serves true (fit z o r)) l ≡ true → splitting r && f ≡ true → f ≡ true → Looked f l

  passed : (f : Bool) (x : Range) (l : List Range) → leb (up o x.start + z) (suc x.last) ≡ false → Looked f l → Looked f (x ∷ l)
  unfolding find any
  passed f x l e (no-fit a c) = no-fit (rw e a) (rw e c)
  passed f x l e (at_once r a c d g) = at_once r (rw e a) (rw e c) (rw e d) g
  passed f x l e (wanting r a c g h) = wanting r (rw e a) (rw e c) g h

  here : (f : Bool) (x : Range) (l : List Range) → leb (up o x.start + z) (suc x.last) ≡ true → (s : Bool) → splitting x ≡ s → Looked f (x ∷ l)
  unfolding find any
  here f x l e false d = at_once x (rw (e, d)) (rw (e, d)) (rw (e, d)) (rw d)
  here false x l e true d = at_once x (rw (e, d)) (rw (e, d)) (rw (e, d)) (rw d)
  here true x l e true d = wanting x (rw (e, d)) (rw (e, d)) (rw d) refl

  pub looked : (f : Bool) (l : List Range) → Looked f l
  unfolding find any
  looked f [] = no-fit refl refl
  looked f (x ∷ l) = go (looked f l) (leb (up o x.start + z) (suc x.last)) refl
    where
      go : Looked f l → (q : Bool) → leb (up o x.start + z) (suc x.last) ≡ q → Looked f (x ∷ l)
      go h true e = here f x l e (splitting x) refl
      go h false e = passed f x l e h

-- a refusal has left the book
pub held : (n k : ℕ) (b : Book) (w : Answer) (x : answer.Answer) (s : MemoryAllocator) → w ≡ refused k b → Answers n w x s → Holds n b s
held n k b w x s e h = subst (λ (v : Answer). Holds n v.book s) e h.book

module _ (n z o : ℕ) (b : Book) where
  -- the answer of the first search stands, unless it is 1
  pub once : (allocate_first_lem n true z o b).number ≢ 1 → allocate_fit_lem n z o b ≡ allocate_first_lem n true z o b
  unfolding first_from allocate_from refuse
  once h = go (looked z o (full n b) b.shelf) h
    where
      go : Looked z o (full n b) b.shelf → (allocate_first_lem n true z o b).number ≢ 1 → allocate_fit_lem n z o b ≡ allocate_first_lem n true z o b
      go (no-fit a c) h = rw (a, c)
      go (at_once r a c d g) h = rw (a, c, d, g)
      go (wanting r a c g f) h = absurd (h (rw (a, g)))

  -- it is 1 where the first range that fits wants a record, and there is none
  pub wanted : (allocate_first_lem n true z o b).number ≡ 1 → (allocate_first_lem n true z o b ≡ refused 1 b) × (full n b ≡ true) × (any (λ r. fits (fit z o r)) b.shelf ≡ true)
  unfolding first_from refuse
  wanted h = go (looked z o (full n b) b.shelf) h
    where
      go : Looked z o (full n b) b.shelf → (allocate_first_lem n true z o b).number ≡ 1
          → (allocate_first_lem n true z o b ≡ refused 1 b) × (full n b ≡ true) × (any (λ r. fits (fit z o r)) b.shelf ≡ true)
      go (no-fit a c) h = absurd (let e : ◌≡◌ {A = ℕ} 3 1 = rw a at h in let k : ⊥ = omega arith in k)
      go (at_once r a c d g) h = absurd (let e : ◌≡◌ {A = ℕ} 0 1 = rw (a, g) at h in let k : ⊥ = omega arith in k)
      go (wanting r a c g f) h = (rw (a, g), f, c)

  -- then the first that wants none is taken, by a second search; it answers 3 where there is none
  abbrev second : Option Range → Type 0
  second m =
      ((first_from n z o b m).number ≡ 3 → (first_from n z o b m ≡ refused 3 b) × (allocate_from n z o b m ≡ refused 1 b))
      × ((first_from n z o b m).number ≢ 3 → allocate_from n z o b m ≡ first_from n z o b m)

  plain-from : (m : Option Range) → Found (λ r. serves false (fit z o r)) b.shelf m → second m
  unfolding first_from allocate_from refuse
  plain-from none f = (λ h. (refl, refl), λ h. absurd (h refl))
  plain-from (some r) f =
      let s = splits (up o r.start) (up o r.start + z) r in
      let e : s ≡ false = T_false s (not_T s (λ t. (served false z o r f.1).1 t)) in
      (λ h. absurd (let q : ◌≡◌ {A = ℕ} 0 3 = rw e at h in let k : ⊥ = omega arith in k), λ h. rw e)

  looked-again : (allocate_first_lem n true z o b).number ≡ 1 → allocate_fit_lem n z o b ≡ allocate_from n z o b (find (λ r. serves false (fit z o r)) b.shelf)
  unfolding refuse
  looked-again h = let w = wanted h in rw (w.1, w.2)

  pub none-plain : (allocate_first_lem n true z o b).number ≡ 1 → (allocate_first_lem n false z o b).number ≡ 3 → (allocate_first_lem n false z o b ≡ refused 3 b) × (allocate_fit_lem n z o b ≡ refused 1 b)
  none-plain h k = let w = (plain-from _ (found (λ r. serves false (fit z o r)) b.shelf)).0 k in (w.0, looked-again h ∙ w.1)

  pub plain : (allocate_first_lem n true z o b).number ≡ 1 → (allocate_first_lem n false z o b).number ≢ 3 → allocate_fit_lem n z o b ≡ allocate_first_lem n false z o b
  plain h k = looked-again h ∙ (plain-from _ (found (λ r. serves false (fit z o r)) b.shelf)).1 k
