-- What a sound register is: request T-07's sentence, and the test of it. Assumes nothing.
use Rattle.std.specs.Prelude.{◌≡◌, ◌⊎◌, ◌↔◌, Bool, true, cond, not, ◌&&◌, List, [], ◌∷◌, ℕ, suc, ◌≤◌, ◌<◌, T, leb, ltb, eqb, length}
use Rattle.rules.specs.Rules.{top, Range, any, meets, Book}
use Rattle.rules.specs.Sound.{In, Pairwise}
use Rattle.holder_rules.specs.Register.{known, blank, used, range_of, held}
use Rattle.holder_rules.specs.declared.Entry.{Entry}

-- no byte in common; they may touch
abbrev pub Clear : Range → Range → Type 0
Clear q p = (q.last < p.start) ⊎ (p.last < q.start)

-- a range of one byte or more, below 2^63, of a holder
pub record Held (q : Range) : Type 0 where
  pub whose : T (known q.number)
  pub proper : q.start ≤ q.last
  pub below : q.last < top

-- the entry stands in the register
abbrev pub Has : Entry → List Entry → Type 0
Has e [] = ⊥
Has e (q ∷ l) = (e ≡ q) ⊎ Has e l

-- each entry is unused, or a holder's range; no two have a byte in common
pub record SoundEntries (r : List Entry) : Type 0 where
  pub good : (e : Entry) → Has e r → (e ≡ blank) ⊎ Held (range_of e)
  pub apart : Pairwise Clear (held r)

-- "Entries empty, past 2^63, of no such holder, or overlapping each other or a free byte are unsound." f has the free ranges.
pub record SoundRegister (f : List Range) (r : List Entry) : Type 0 where
  pub sound : SoundEntries r
  pub clear : (q : Range) → In q (held r) → (p : Range) → In p f → Clear q p

-- ---- the test

-- of a holder, not empty, below 2^63; or the entry that is not used
unfoldable pub is_good_lem : Entry → Bool
is_good_lem e = cond (used e) (known e.holder.0 && (leb e.start.0 e.last.0 && ltb e.last.0 top)) (eqb e.start.0 0 && eqb e.last.0 0)

-- it has no byte of these ranges
abbrev pub avoids : Entry → List Range → Bool
avoids e l = not (any (meets e.start.0 (suc e.last.0)) l)

unfoldable pub is_apart : List Range → Entry → List Entry → Bool
is_apart f e l = cond (used e) (avoids e f && avoids e (held l)) true

unfoldable pub register_sound : List Range → List Entry → Bool
register_sound f [] = true
register_sound f (e ∷ l) = is_good_lem e && (is_apart f e l && register_sound f l)
