-- Parts of the register's image: their lengths, and what is read where. Assumes nothing.
use Prim.Native.Nat.{ℕ, ◌+◌, ◌-◌, ◌*◌, ◌≤◌, ◌<◌}
use mathlib.Core.Bool.{true, false}
use mathlib.Core.List.{List, ◌++◌, append-nil}
use mathlib.Core.Path.{◌≡◌, sym, ap, ◌∙◌}
use native.Mathlib.Omega.{arith}
use lib.Dec.{eqb}
use lib.ListN.{length, get_or, take, drop, length-append, length-take, length-drop, drop_of_length-le}
use lib.Seq.{take_all, drop_at, drop-drop, take-add, take-take, length-take-le}
use borrow.Author.Tests.{eq-eqb, ne_eqb, eqb-true}
use borrow.Rule.Slice.PartMut.{put_mid}
use Rattle.bytes_be.specs.Numbers.{number}
use Rattle.bytes_be.proofs.Laws.{length-be}
use Rattle.image_parts.specs.Layout.{Layout, word, length_at, length_size}
use Rattle.image_parts.specs.Read.{number_in}
use Rattle.image_parts.proofs.Loops as loops
use Rattle.image_parts.proofs.Parts.{length-joined}
use Rattle.holder_rules.specs.Register.{entries, entry, blank}
use Rattle.holder_rules.specs.Holders.{both}
use Rattle.holder_rules.specs.declared.Entry.{Entry}
use Rattle.holder_image.specs.Layout.{version, entries_at, start_at, last_at, entry_size, memory_at, whole_size, rest_of}
use Rattle.holder_image.specs.Bytes.{entry_bytes, entries_bytes, front_bytes_lem, bytes_of_lem, entry_in_lem, entry_at_lem, memory_in, headed}

-- ---- lengths

pub length-entry : (e : Entry) → length (entry_bytes e) ≡ entry_size
unfolding entry_bytes
length-entry e = simp (length-append, length-be)

pub length-entries : (r : List Entry) → length (entries_bytes r) ≡ entry_size * entries
unfolding entries_bytes
length-entries r = length-joined entry_size (λ i. entry_bytes (get_or r i blank)) (λ i. length-entry (get_or r i blank)) entries 0

-- ---- an entry in its own bytes

-- k bytes at o in the w bytes from a on
number-within : (l : List ℕ) (a w o k : ℕ) → o + k ≤ w → a + w ≤ length l → number_in (take w (drop a l)) o k ≡ number_in l (a + o) k
number-within l a w o k h g =
    let m = w - o in
    let s : w ≡ o + m = omega arith in
    let n : length (take o (drop a l)) ≡ o = simp (length-take, length-drop) (omega arith) in
    ap number (ap (λ (x : List ℕ). take k (drop o x)) (ap (λ (j : ℕ). take j (drop a l)) s ∙ take-add o m (drop a l))
    ∙ ap (take k) (drop_at (take o (drop a l)) (take m (drop o (drop a l))) o n)
    ∙ take-take k m (drop o (drop a l)) (omega arith) ∙ ap (take k) (drop-drop o a l))

pub entry-within : (l : List ℕ) (i at : ℕ) → i < entries → memory_at ≤ length l → at ≡ entries_at + entry_size * i → (e : Entry) → e ≡ entry_in_lem (take (at + entry_size - at) (drop at l)) → e ≡ entry_at_lem l i
entry-within l i at b room d e g =
    let w : at + entry_size - at ≡ entry_size = omega arith in
    let x = number-within l at entry_size 0 start_at (omega arith) (omega arith) ∙ ap (λ (j : ℕ). number_in l j start_at) (let v : at + 0 ≡ entries_at + entry_size * i = omega arith in v) in
    let y = number-within l at entry_size start_at word (omega arith) (omega arith) ∙ ap (λ (j : ℕ). number_in l j word) (let v : at + start_at ≡ entries_at + start_at + entry_size * i = omega arith in v) in
    let z = number-within l at entry_size last_at word (omega arith) (omega arith) ∙ ap (λ (j : ℕ). number_in l j word) (let v : at + last_at ≡ entries_at + last_at + entry_size * i = omega arith in v) in
    g ∙ ap (λ (n : ℕ). entry_in_lem (take n (drop at l))) w ∙ (λ j. entry (x j) (y j) (z j))

-- ---- the head

module _ (f : Layout) (l : List ℕ) where
  pub headed-not : (length l ≡ whole_size f → ⊥) → false ≡ headed f l
  unfolding headed
  headed-not h = rw (ne_eqb (length l) (whole_size f) h)

  module _ (h : length l ≡ whole_size f) (v : ℕ) (ev : v ≡ number_in l 0 length_at) where
    pub headed-version : (v ≡ version → ⊥) → false ≡ headed f l
    unfolding headed
    headed-version off = rw (eq-eqb (length l) (whole_size f) h, ← ev, ne_eqb v version off)

    pub headed-rest : v ≡ version → (r : ℕ) → r ≡ number_in l length_at length_size → eqb r (rest_of f) ≡ headed f l
    unfolding headed
    headed-rest on r er = rw (eq-eqb (length l) (whole_size f) h, ← ev, eq-eqb v version on, ← er)

  pub headed-size : headed f l ≡ true → length l ≡ whole_size f
  unfolding headed
  headed-size h = eqb-true (length l) (whole_size f) (loops.both (eqb (length l) (whole_size f)) _ h).0

-- a part to the end
pub part-is : (l : List ℕ) (k : ℕ) → length l ≤ memory_at + k → take k (memory_in l) ≡ memory_in l
part-is l k h = take_all k (memory_in l) (let d = length-drop memory_at l in omega arith)

-- ---- the allocator's bytes, written over

placed : (f : Layout) (old now now' memory : List ℕ) (r : List Entry) → length old ≡ whole_size f → now ≡ take memory_at old ++ memory → now' ≡ front_bytes_lem f r ++ memory_in now → now' ≡ bytes_of_lem f (both memory r)
unfolding bytes_of_lem
placed f old now now' memory r h e g =
    g ∙ ap (λ (x : List ℕ). front_bytes_lem f r ++ x) (ap memory_in e ∙ drop_at (take memory_at old) memory memory_at (length-take-le memory_at old (omega arith)))

-- the allocator's bytes were lent, as a part to the end, and written; and then the front
part-put : (l y : List ℕ) (k : ℕ) → memory_at + k ≡ length l → put_mid memory_at k l y ≡ take memory_at l ++ y
part-put l y k h =
    let rest = drop_of_length-le (drop memory_at l) {i = k} (let d = length-drop memory_at l in omega arith) in
    ap (λ (x : List ℕ). take memory_at l ++ x) (ap (λ (x : List ℕ). y ++ x) rest ∙ append-nil y)

pub part_placed : (f : Layout) (old now' memory : List ℕ) (r : List Entry) (k : ℕ) → length old ≡ whole_size f → memory_at + k ≡ length old → now' ≡ front_bytes_lem f r ++ memory_in (put_mid memory_at k old memory) → now' ≡ bytes_of_lem f (both memory r)
part_placed f old now' memory r k h e g = placed f old (put_mid memory_at k old memory) now' memory r h (part-put old memory k e) g
