-- Where a number stands in a list of bytes: a part after a front, a piece among pieces of one width, and parts side by side. Assumes nothing.
use mathlib.Core.Path.{◌≡◌, sym, ◌∙◌, ap}
use mathlib.Core.List.{List, ◌++◌, append_assoc}
use Prim.Native.Nat.{ℕ, zero, suc, ◌+◌, ◌*◌, ◌^◌, ◌≤◌, ◌<◌}
use native.Mathlib.Nat.{add-zero, zero-add, mul-zero, mul-suc}
use native.Mathlib.Omega.{arith}
use lib.ListN.{length, take, drop, get_or, length-append, length-take, length-drop}
use lib.Seq.{take_at, drop_at, drop-drop, drop-cons, take-add, drop-append-le, take-append-le, get_or-take, get_or-drop}
use Rattle.bytes_be.specs.Numbers.{be, more, number, Bytes}
use Rattle.bytes_be.proofs.Laws.{be-number, number-below, number_append}
use Rattle.image_parts.specs.Written.{joined}
use Rattle.image_parts.specs.Read.{number_in}
use Rattle.image_parts.proofs.Parts.{length-joined}

-- ---- a part after a front

pub number-in : (p q r : List ℕ) (a k : ℕ) → length p ≡ a → length q ≡ k → number_in (p ++ (q ++ r)) a k ≡ number q
number-in p q r a k h g = rw (drop_at p (q ++ r) a h, take_at q r k g)

-- a number of one byte is the byte
pub one_byte : (l : List ℕ) (a : ℕ) → a < length l → get_or l a 0 ≡ number_in l a 1
unfolding more
one_byte l a h = rw (drop-cons l a 0 h) (omega arith)

-- ---- a piece among pieces of one width

joined-split : (piece : ℕ → List ℕ) (n i j : ℕ) → j < n → (tail : List ℕ) × (joined n i piece ≡ joined j i piece ++ (piece (i + j) ++ tail))
unfolding joined
joined-split piece zero i j h = absurd (omega arith)
joined-split piece (suc n) i zero h = (joined n (suc i) piece, rw add-zero)
joined-split piece (suc n) i (suc j) h =
    let w = joined-split piece n (suc i) j (omega arith) in
    let m : suc i + j ≡ i + suc j = omega arith in
    (w.0, ap (λ (l : List ℕ). piece i ++ l) (w.1 ∙ ap (λ (k : ℕ). joined j (suc i) piece ++ (piece k ++ w.0)) m) ∙ sym (append_assoc (piece i) (joined j (suc i) piece) (piece (i + suc j) ++ w.0)))

module _ (piece : ℕ → List ℕ) (p q : List ℕ) (a w n i : ℕ) (lp : length p ≡ a) (lw : (j : ℕ) → length (piece j) ≡ w) (b : i < n) where
  from-piece : (tail : List ℕ) × (drop (a + w * i) (p ++ (joined n 0 piece ++ q)) ≡ piece i ++ tail)
  from-piece =
      let s = joined-split piece n 0 i b in
      let e : p ++ (joined n 0 piece ++ q) ≡ (p ++ joined i 0 piece) ++ (piece (0 + i) ++ (s.0 ++ q)) = rw s.1 (simp append_assoc) in
      let len : length (p ++ joined i 0 piece) ≡ a + w * i = length-append p (joined i 0 piece) ∙ (let k = length-joined w piece lw i 0 in omega arith) in
      (s.0 ++ q, rw (e, drop_at (p ++ joined i 0 piece) (piece (0 + i) ++ (s.0 ++ q)) (a + w * i) len, zero-add))

  -- what stands k bytes wide at o in the i-th piece
  pub number_at : (o k : ℕ) → o + k ≤ w → number_in (p ++ (joined n 0 piece ++ q)) (a + o + w * i) k ≡ number_in (piece i) o k
  number_at o k h =
      let t = from-piece in
      let l = lw i in
      let m : a + o + w * i ≡ a + w * i + o = omega arith in
      let room : k ≤ length (drop o (piece i)) = simp length-drop (omega arith) in
      rw (m, ← drop-drop o (a + w * i) (p ++ (joined n 0 piece ++ q)), t.1, drop-append-le o (piece i) t.0 (omega arith), take-append-le k (drop o (piece i)) t.0 room)

-- ---- parts side by side

glue : (l : List ℕ) (a j k : ℕ) → take j (drop a l) ++ take k (drop (a + j) l) ≡ take (j + k) (drop a l)
glue l a j k = rw (take-add j k (drop a l), drop-drop j a l)

-- the number in parts side by side
pub number-beside : (l : List ℕ) (a j k : ℕ) → a + j + k ≤ length l → number_in l a (j + k) ≡ number_in l a j * 256 ^ k + number_in l (a + j) k
number-beside l a j k room =
    let part : length (take k (drop (a + j) l)) ≡ k = simp (length-take, length-drop) (omega arith) in
    ap number (sym (glue l a j k)) ∙ number_append (take j (drop a l)) (take k (drop (a + j) l)) ∙ ap (λ (m : ℕ). number_in l a j * 256 ^ m + number_in l (a + j) k) part

pub beside : (l : List ℕ) (a j k b m : ℕ) (x y : List ℕ) → x ≡ take j (drop a l) → y ≡ take k (drop b l) → a + j ≡ b → j + k ≡ m → x ++ y ≡ take m (drop a l)
beside l a j k b m x y ex ey h g = rw (ex, ey, ← h, ← g) (glue l a j k)

module _ (l : List ℕ) (a k : ℕ) (bytes : Bytes l) (room : a + k ≤ length l) where
  part-size : length (take k (drop a l)) ≡ k
  part-size = simp (length-take, length-drop) (omega arith)

  part_bytes : Bytes (take k (drop a l))
  part_bytes i h = let e = part-size in rw (get_or-take k (drop a l) i 0 (omega arith), get_or-drop a l i 0) (bytes (a + i) (omega arith))

  pub part-below : number_in l a k < 256 ^ k
  part-below = rw part-size at (number-below (take k (drop a l)) part_bytes)

  -- a number, read and written again
  pub again : be k (number_in l a k) ≡ take k (drop a l)
  again = be-number k (take k (drop a l)) part-size part_bytes

-- pieces of width w that are those of l, from a on
pub joined-take : (piece : ℕ → List ℕ) (l : List ℕ) (a w n i : ℕ) → ((k : ℕ) → k < i + n → piece k ≡ take w (drop (a + w * k) l)) → joined n i piece ≡ take (w * n) (drop (a + w * i) l)
unfolding joined
joined-take piece l a w zero i h = rw mul-zero
joined-take piece l a w (suc n) i h =
    let rest = joined-take piece l a w n (suc i) (λ k b. h k (omega arith)) in
    let at : a + w * suc i ≡ a + w * i + w = let p = mul-suc w i in omega arith in
    let wide : w + w * n ≡ w * suc n = let p = mul-suc w n in omega arith in
    ap (λ (x : List ℕ). x ++ joined n (suc i) piece) (h i (omega arith)) ∙ ap (λ (x : List ℕ). take w (drop (a + w * i) l) ++ x) (rest ∙ ap (λ (m : ℕ). take (w * n) (drop m l)) at)
    ∙ glue l (a + w * i) w (w * n) ∙ ap (λ (m : ℕ). take m (drop (a + w * i) l)) wide
