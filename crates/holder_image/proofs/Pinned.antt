-- The figures of the register's image, and the bytes of two entries: what stands where, so that fields that change places in code and definition alike are seen. Assumes nothing.
use mathlib.Core.Path.{◌≡◌, refl, ap}
use mathlib.Core.List.{List, [], ◌∷◌, ◌++◌}
use Prim.Native.Nat.{ℕ, suc}
use lib.ListN.{get_or}
use Rattle.bytes_be.specs.Numbers.{be}
use Rattle.image_parts.specs.Layout.{Layout, current, length_at, length_size}
use Rattle.image_parts.specs.Written.{joined}
use Rattle.holder_rules.specs.Register.{entries, entry, blank}
use Rattle.holder_rules.specs.declared.Entry.{Entry}
use Rattle.holder_image.specs.Layout.{version, entries_at, start_at, last_at, entry_size, memory_at, whole_size, rest_of}
use Rattle.holder_image.specs.Bytes.{entry_bytes, entries_bytes, front_bytes_lem}

-- version, entries, and where the first stands; in an entry its first and its last byte, and an entry's bytes; where the allocator's image stands, the length field, the bytes of all
pub record Figures (f : Layout) (v n first start last apart memory rest all : ℕ) : Type 0 where
  pub versions : version ≡ v
  pub counts : entries ≡ n
  pub firsts : entries_at ≡ first
  pub starts : start_at ≡ start
  pub lasts : last_at ≡ last
  pub aparts : entry_size ≡ apart
  pub memories : memory_at ≡ memory
  pub rests : rest_of f ≡ rest
  pub sizes : whole_size f ≡ all

pub figures : Figures current 1 64 5 1 9 17 1093 7535 7540
figures = record { versions = refl; counts = refl; firsts = refl; starts = refl; lasts = refl; aparts = refl; memories = refl; rests = refl; sizes = refl }

-- every byte of a number is another, and so is each number
abbrev one : Entry
one = entry 7 72623859790382856 1230066625199609624

abbrev two : Entry
two = entry 9 2387509390608836392 3544952156018063160

-- holder, first byte, last byte
pub entry-bytes : entry_bytes one ≡ (
    7 ∷
    1 ∷ 2 ∷ 3 ∷ 4 ∷ 5 ∷ 6 ∷ 7 ∷ 8 ∷
    17 ∷ 18 ∷ 19 ∷ 20 ∷ 21 ∷ 22 ∷ 23 ∷ 24 ∷
    [])
unfolding entry_bytes be
entry-bytes = refl

first_two : (n i : ℕ) (piece : ℕ → List ℕ) → joined (suc (suc n)) i piece ≡ piece i ++ (piece (suc i) ++ joined n (suc (suc i)) piece)
unfolding joined
first_two n i piece = refl

-- version and length of the rest; then entry 0, entry 1, and the others
pub front_bytes : (r : List Entry) → front_bytes_lem current (one ∷ two ∷ r) ≡ (
    1 ∷
    0 ∷ 0 ∷ 29 ∷ 111 ∷
    7 ∷
    1 ∷ 2 ∷ 3 ∷ 4 ∷ 5 ∷ 6 ∷ 7 ∷ 8 ∷
    17 ∷ 18 ∷ 19 ∷ 20 ∷ 21 ∷ 22 ∷ 23 ∷ 24 ∷
    9 ∷
    33 ∷ 34 ∷ 35 ∷ 36 ∷ 37 ∷ 38 ∷ 39 ∷ 40 ∷
    49 ∷ 50 ∷ 51 ∷ 52 ∷ 53 ∷ 54 ∷ 55 ∷ 56 ∷
    joined 62 2 (λ i. entry_bytes (get_or (one ∷ two ∷ r) i blank)))
unfolding front_bytes_lem entries_bytes entry_bytes be
front_bytes r = ap (λ (l : List ℕ). be length_at version ++ (be length_size (rest_of current) ++ l)) (first_two 62 0 (λ i. entry_bytes (get_or (one ∷ two ∷ r) i blank)))
