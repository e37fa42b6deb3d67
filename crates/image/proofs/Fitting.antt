-- The numbers and links of a sound account fit their bytes. Assumes nothing.
use Prim.Native.Nat.{ℕ, ◌^◌, ◌<◌, ◌≤◌}
use native.Mathlib.Omega.{arith}
use mathlib.Core.Bool.{Bool, true, false, ◌&&◌, ◌||◌}
use mathlib.Core.Path.{◌≡◌, refl, sym, ◌∙◌}
use lib.Dec.{leb, eqb}
use lib.ListN.{get_or}
use borrow.Author.Tests.{leb-true, eqb-true}
use Rattle.linked_lists.specs.Links.{none}
use Rattle.rules.specs.Rules.{size_lists}
use Rattle.linked_lists.proofs.Laws.{true≢false}
use Rattle.rules_laws.proofs.Bytes.{total-le}
use Rattle.rules_lowest.specs.Lowest.{never, low_sound}
use Rattle.pool_state.specs.Sound.{book_of, SoundState}
use Rattle.pool_state.proofs.Book.{sound-holds}
use Rattle.pool_state.specs.declared.MemoryAllocator.{MemoryAllocator}
use Rattle.check_records.specs.Records.{used}
use Rattle.check_meaning.specs.Paragraph.{Sized, Link, Links, Paragraph}
use Rattle.check_meaning.proofs.Exact.{paragraph}
use Rattle.image_parts.specs.Layout.{word}

pub record Fits (n : ℕ) (s : MemoryAllocator) : Type 0 where
  pub sized : Sized n s
  pub total : s.free_size < 256 ^ word
  pub first : Link n s.first_entry.0
  pub heads : (k : ℕ) → k < size_lists → Link n (get_or s.free_list k 0)
  pub start : (i : ℕ) → i < n → get_or s.start i 0 < 256 ^ word
  pub end : (i : ℕ) → i < n → get_or s.end i 0 < 256 ^ word
  pub links : (i : ℕ) → i < n → Links n s i

module _ (n : ℕ) (s : MemoryAllocator) (p : Paragraph n s) (i : ℕ) (b : i < n) where
  range-fits : (get_or s.start i 0 < 256 ^ word) × (get_or s.end i 0 < 256 ^ word)
  range-fits = go (used s.enabled i) refl
    where
      go : (t : Bool) → used s.enabled i ≡ t → (get_or s.start i 0 < 256 ^ word) × (get_or s.end i 0 < 256 ^ word)
      go true e = let h = p.proper i b e in (omega arith, omega arith)
      go false e = let h = p.unused i b e in (omega arith, omega arith)

pub sound-fits : (n : ℕ) → n ≤ none → (s : MemoryAllocator) → SoundState n s → Fits n s
sound-fits n small s h =
    let p = (paragraph n small s).0 h in
    let counts = (sound-holds n s h).counts in
    let most = total-le n (book_of n s) h.book in
    record {
      sized = p.sized;
      total = omega arith;
      first = p.first;
      heads = p.heads;
      start = λ i b. (range-fits n s p i b).0;
      end = λ i b. (range-fits n s p i b).1;
      links = p.links;
    }

-- a figure that may stand beside a total
pub low_fits : (total low : ℕ) → total < 256 ^ word → low_sound total low ≡ true → low < 256 ^ word
low_fits total low small = go (leb low total) (eqb total 0) (eqb low never) refl refl
  where
    go : (p q r : Bool) → leb low total ≡ p → eqb low never ≡ r → (p || (q && r)) ≡ true → low < 256 ^ word
    go true q r e f h = let b = leb-true low total e in omega arith
    go false true true e f h = let b = eqb-true low never f in omega arith
    go false true false e f h = true≢false (sym h)
    go false false r e f h = true≢false (sym h)
