-- Pages that lie right, and those that are handed out, are whole pages of the arena; and leaves are words. Assumes nothing.
use mathlib.Core.Path.{◌≡◌, refl}
use mathlib.Core.Bool.{Bool, true, false, cond}
use mathlib.Core.List.{List}
use Prim.Native.Nat.{ℕ, ◌+◌, ◌*◌, ◌/◌, ◌%◌, ◌^◌, ◌≤◌, ◌<◌}
use native.Mathlib.Omega.{arith}
use lib.Dec.{T, ltb, eqb, ltb→lt}
use borrow.Author.Tests.{ltb-true, ltb-false}
use Rattle.rules_laws.proofs.Lists.{and_r}
use Rattle.mapper_rules.specs.Walk.{span}
use Rattle.mapper_rules.specs.Numbers.{output_top}
use Rattle.mapper_laws.specs.declared.Mapping.{Mapping}
use Rattle.mapper_laws.specs.Tree.{page_of}
use Rattle.mapper_laws.specs.Mapping.{Sane, meets, leaf_word_lem, table_word_lem}
use Rattle.mapper_laws.proofs.Maps.{page-of}
use Rattle.mapper_lies.specs.Lies.{top_byte_lem}
use Rattle.mapper_walks.proofs.Lent.{Whole}

module _ (base n : ℕ) where
  top-low : top_byte_lem base n ≤ base + 8 * n
  unfolding top_byte_lem
  top-low = go (ltb output_top (base + 8 * n)) refl
    where
      go : (c : Bool) → ltb output_top (base + 8 * n) ≡ c → cond c output_top (base + 8 * n) ≤ base + 8 * n
      go true e = let l = ltb-true output_top (base + 8 * n) e in omega arith
      go false e = omega arith

  top_small : top_byte_lem base n ≤ 2 ^ 48
  unfolding top_byte_lem
  top_small = go (ltb output_top (base + 8 * n)) refl
    where
      go : (c : Bool) → ltb output_top (base + 8 * n) ≡ c → cond c output_top (base + 8 * n) ≤ 2 ^ 48
      go true e = omega arith
      go false e = ltb-false output_top (base + 8 * n) e

  pub whole-page : (l : List ℕ) (p : ℕ) → base % 4096 ≡ 0 → base / 4096 ≤ p → p < top_byte_lem base n / 4096 → Whole (base / 8) n l p
  whole-page l p e low high = let t = top-low in (omega arith, omega arith)

  -- a page that is handed out
  pub handed-small : (a : ℕ) → a + 4096 ≤ top_byte_lem base n → a < 2 ^ 48
  handed-small a h = let s = top_small in omega arith

  pub handed-whole : (l : List ℕ) (a : ℕ) → base % 4096 ≡ 0 → a % 4096 ≡ 0 → base ≤ a → a + 4096 ≤ top_byte_lem base n → Whole (base / 8) n l (page_of (table_word_lem a))
  handed-whole l a e w low high = rw (page-of a w (handed-small a high)) (whole-page l (a / 4096) e (omega arith) (omega arith))

-- a leaf
pub leaf-small : (q : Mapping) → Sane q → (h e : ℕ) → T (meets q h e) → leaf_word_lem q h e < 2 ^ 64
leaf-small q sane h e m =
    let past = ltb→lt e q.past (and_r (ltb q.from (e + span h)) (ltb e q.past) m) in
    let bits = low_small (eqb h 0) in
    let in_memory = sane.in_memory in
    let two = sane.two-bits in
    omega arith
  where
    low_small : (c : Bool) → cond c 0x73f 0x73d < 4096
    low_small true = omega arith
    low_small false = omega arith
