-- What a place of a journal holds, by what its bytes say, and where a call's bytes are. Assumes nothing.
use Prim.Native.Nat.{ℕ, ◌+◌, ◌≤◌, ◌<◌}
use mathlib.Core.Bool.{Bool, true, false, not}
use mathlib.Core.List.{List}
use mathlib.Core.Path.{◌≡◌, refl, sym, subst}
use lib.Dec.{T, eqb, leb, leb→le, nleb→lt, eqb→eq}
use lib.ListN.{length}
use native.Mathlib.Omega.{arith}
use Rattle.rules_laws.proofs.Lists.{if}
use Rattle.journal_blocks.specs.Journal.{length_of, is_length_lem, is_kind_lem, size_in, kind_in, entry_in_lem, whole_block, block_of}
use Rattle.journal_blocks.specs.declared.Block.{Block}
use Rattle.journal_blocks.specs.declared.Block.TheVariants.{Call, End, Truncated, UnknownCall, WrongLength}

-- ---- the tests, and what stands behind each

-- a block whose bytes are all there
pub record Whole (r : List ℕ) : Type 0 where
  pub sized : T (is_length_lem (size_in r))
  pub there : 2 + size_in r ≤ length r

pub data Seen (at : ℕ) (r : List ℕ) : Block → Type 0 where
  none : length r ≡ 0 → Seen at r End
  short : Seen at r Truncated
  unsized : 2 ≤ length r → T (not (is_length_lem (size_in r))) → Seen at r WrongLength
  unknown : Whole r → T (not (is_kind_lem (kind_in r))) → Seen at r UnknownCall
  unfit : Whole r → T (is_kind_lem (kind_in r)) → T (not (eqb (size_in r) (length_of (kind_in r)))) → Seen at r WrongLength
  call : Whole r → T (is_kind_lem (kind_in r)) → size_in r ≡ length_of (kind_in r) → Seen at r (Call (entry_in_lem (kind_in r) r) (at + (2 + size_in r)))

module _ (at : ℕ) (r : List ℕ) where
  whole-seen : Whole r → Seen at r (whole_block at (size_in r) r)
  unfolding whole_block
  whole-seen w =
      if (is_kind_lem (kind_in r)) (Seen at r)
      (λ k. if (eqb (size_in r) (length_of (kind_in r))) (Seen at r) (λ e. call w k (eqb→eq _ _ e)) (λ d. unfit w k d))
      (λ d. unknown w d)

  pub seen : Seen at r (block_of at r)
  unfolding block_of
  seen =
      if (leb 1 (length r)) (Seen at r)
      (λ some. if (leb 2 (length r)) (Seen at r)
      (λ two. if (is_length_lem (size_in r)) (Seen at r)
      (λ known. if (leb (2 + size_in r) (length r)) (Seen at r) (λ all. whole-seen (record { sized = known; there = leb→le _ _ all })) (λ cut. short))
      (λ d. unsized (leb→le 2 (length r) two) d))
      (λ one. short))
      (λ no. none (let h = nleb→lt 1 (length r) no in omega arith))

-- a block of no calls' length has at least 25 bytes behind it
pub at_least : (size : ℕ) → T (is_length_lem size) → 25 ≤ size
at_least size t = go (eqb size 25) refl (eqb size 33) refl t
  where
    go : (p : Bool) → eqb size 25 ≡ p → (q : Bool) → eqb size 33 ≡ q → T (is_length_lem size) → 25 ≤ size
    go true f q g t = let a = eqb→eq size 25 (subst T (sym f) tt) in omega arith
    go false f true g t = let a = eqb→eq size 33 (subst T (sym g) tt) in omega arith
    go false f false g t = absurd (rw (f, g) at t)

-- the place after a call is further on, and its block is there; a fault has a byte
abbrev pub Ahead : ℕ → List ℕ → Block → Type 0
Ahead at r (Call e next) = (at + 27 ≤ next) × (next ≤ at + length r)
Ahead at r End = Unit {0}
Ahead at r Truncated = Unit {0}
Ahead at r UnknownCall = 0 < length r
Ahead at r WrongLength = 0 < length r

pub ahead : (at : ℕ) (r : List ℕ) → Ahead at r (block_of at r)
ahead at r = go (block_of at r) (seen at r)
  where
    go : (w : Block) → Seen at r w → Ahead at r w
    go _ (none h) = tt
    go _ short = tt
    go _ (unsized h d) = omega arith
    go _ (unknown w d) = let q = w.there in omega arith
    go _ (unfit w k d) = let q = w.there in omega arith
    go _ (call w k e) = let p = at_least (size_in r) w.sized in let q = w.there in (omega arith, omega arith)
