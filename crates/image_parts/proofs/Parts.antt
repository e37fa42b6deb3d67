-- How long each part of an image is, and parts that are written one right after another. Assumes nothing.
use mathlib.Core.Path.{◌≡◌, refl, sym, ◌∙◌, ap}
use mathlib.Core.List.{List, [], ◌++◌, append_assoc, append-nil}
use Prim.Native.Nat.{ℕ, zero, suc, ◌+◌, ◌*◌, ◌≤◌, ◌<◌}
use native.Mathlib.Nat.{mul-zero, mul-suc, mul-add, mul-one, mul-le-mul_left}
use native.Mathlib.Omega.{arith}
use lib.ListN.{length, take, drop, length-append, length-take, length-drop, drop_of_length-le}
use lib.Seq.{take_at, drop_at, drop-drop}
use borrow.Rule.Slice.PartMut.{mid_of, put_mid}
use Rattle.bytes_be.specs.Numbers.{be}
use Rattle.bytes_be.proofs.Laws.{length-be}
use Rattle.image_parts.specs.Layout.{Layout, heads_at, records_at_lem, record_size_lem, image_size_lem}
use Rattle.image_parts.specs.Written.{joined, link_bytes, record_bytes, head_bytes}
use Rattle.image_parts.specs.declared.records.MemoryEntry.{MemoryEntry}

-- ---- lengths

pub length-joined : (w : ℕ) (piece : ℕ → List ℕ) → ((i : ℕ) → length (piece i) ≡ w) → (n i : ℕ) → length (joined n i piece) ≡ w * n
unfolding joined
length-joined w piece h zero i = sym (mul-zero w)
length-joined w piece h (suc n) i = length-append (piece i) (joined n (suc i) piece) ∙ (let p = h i in let q = length-joined w piece h n (suc i) in let r = mul-suc w n in omega arith)

module _ (f : Layout) where
  pub length-links : (links : List ℕ) → length (link_bytes f links) ≡ f.link * length links
  unfolding link_bytes
  length-links links = length-joined f.link _ (λ k. length-be f.link _) (length links) 0

  pub length-record : (e : MemoryEntry) → length (record_bytes f e) ≡ record_size_lem f
  unfolding record_bytes
  length-record e = simp (length-append, length-be, length-links) (omega arith)

  pub length-head : (total first : ℕ) (heads : List ℕ) (low k : ℕ) → length heads ≡ k → length (head_bytes f total first heads low) ≡ heads_at f + f.link * k + f.low
  unfolding head_bytes
  length-head total first heads low k h = simp (length-append, length-be, length-links, h) (omega arith)

  -- a field of k bytes at o in record i lies in the image
  pub record-room : (o k i : ℕ) → o + k ≤ record_size_lem f → i < f.records → records_at_lem f + o + record_size_lem f * i + k ≤ image_size_lem f
  record-room o k i h b =
      let w = record_size_lem f in
      let p : w * (i + 1) ≤ w * f.records = mul-le-mul_left w (omega arith) in
      let q : w * (i + 1) ≡ w * i + w = mul-add w i 1 ∙ ap (λ (m : ℕ). w * i + m) (mul-one w) in
      omega arith

-- ---- parts, one after another, of the list xs: p is written, and the rest of xs stands behind it

pub record Begun (xs p zs : List ℕ) (a : ℕ) : Type 0 where
  pub parts : zs ≡ p ++ drop a xs
  pub size : length p ≡ a

pub begin : (xs : List ℕ) → Begun xs [] xs 0
begin xs = record { parts = refl; size = refl }

-- a part of k bytes
pub put-part : (xs p zs y t : List ℕ) (a k : ℕ) → a + k ≤ length xs → Begun xs p zs a → y ≡ t → length t ≡ k → Begun xs (p ++ t) (put_mid a k zs y) (a + k)
put-part xs p zs y t a k room g e len =
    record {
      parts = rw (g.parts, take_at p (drop a xs) a g.size, drop_at p (drop a xs) a g.size, drop-drop k a xs, e, append_assoc);
      size = length-append p t ∙ (let s = g.size in omega arith);
    }

-- a number of k bytes
pub put-number : (xs p zs y : List ℕ) (a k x x' : ℕ) → a + k ≤ length xs → Begun xs p zs a → y ≡ be (length (mid_of a k zs)) x → x ≡ x' → Begun xs (p ++ be k x') (put_mid a k zs y) (a + k)
put-number xs p zs y a k x x' room g e same =
    let l : length (mid_of a k zs) ≡ k = rw (g.parts, drop_at p (drop a xs) a g.size) (simp (length-take, length-drop) (omega arith)) in
    let e' : y ≡ be k x' = rw (l, same) at e in
    put-part xs p zs y (be k x') a k room g e' (length-be k x')

-- the part that ends the list
pub put_last : (xs p zs y t : List ℕ) (a k : ℕ) → length xs ≡ a + k → Begun xs p zs a → y ≡ t → put_mid a k zs y ≡ p ++ t
put_last xs p zs y t a k all g e =
    let end : drop (a + k) xs ≡ [] = drop_of_length-le xs {i = a + k} (omega arith) in
    rw (g.parts, take_at p (drop a xs) a g.size, drop_at p (drop a xs) a g.size, drop-drop k a xs, end, append-nil, e)

-- nothing is left
pub put_all : (xs p zs : List ℕ) (a : ℕ) → length xs ≡ a → Begun xs p zs a → zs ≡ p
put_all xs p zs a all g = let end : drop a xs ≡ [] = drop_of_length-le xs {i = a} (omega arith) in rw (g.parts, end, append-nil)

-- the part that begins the list, where u stands behind it
pub put_front : (old xs y t u : List ℕ) (a : ℕ) → a ≤ length old → xs ≡ take a old ++ u → y ≡ t → put_mid 0 a xs y ≡ t ++ u
put_front old xs y t u a room is e =
    let l : length (take a old) ≡ a = simp length-take (omega arith) in
    rw (is, e, drop_at (take a old) u a l)
