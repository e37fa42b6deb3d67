-- The texts of a list, one after another. Assumes nothing.
use mathlib.Core.Path.{◌≡◌, refl, sym, ap, ◌∙◌}
use mathlib.Core.List.{List, [], ◌∷◌, ◌++◌}
use Prim.Native.Nat.{ℕ, ◌+◌, ◌*◌, ◌^◌, ◌<◌, ◌≤◌}
use native.Mathlib.Numerals.{add-one}
use native.Mathlib.Omega.{arith}
use lib.ListN.{length, get_or, take, drop, length-append, take-append-drop}
use Rattle.script_texts.specs.Answers.{digits_of, range_text, Puts}
use Rattle.script_texts.proofs.Buffers.{put_all, put_then, put_three, all-next, length-pair}
use Rattle.script_texts.proofs.Decimal.{at-most-twenty}
use Rattle.script_replies.specs.Replies.{PutsWithin}
use Rattle.script_replies.proofs.Tables.{puts-length}
use Rattle.holder_replies.specs.Replies.{head_text, row_text, row, rows, held_table}

module _ (a b : ℕ) (ha : a < 2 ^ 64) (hb : b < 2 ^ 64) where
  pub head-short : length (head_text a b) ≤ row
  head-short = let p = at-most-twenty a ha in let q = at-most-twenty b hb in let f = length-pair (104 ∷ 101 ∷ 108 ∷ 100 ∷ 32 ∷ []) a b in omega arith

  pub row-short : (h : ℕ) → h < 2 ^ 64 → length (row_text h a b) ≤ row
  row-short h k =
      let p = at-most-twenty a ha in
      let q = at-most-twenty b hb in
      let r = at-most-twenty h k in
      let e : length (range_text a b) ≡ 0 + length (digits_of a) + length (digits_of b) + 2 = length-pair [] a b in
      let f = length-append (digits_of h) ((32 ∷ []) ++ range_text a b) in
      omega arith

-- a head, in two steps
pub head_puts : (count bytes : ℕ) (out m o : List ℕ) (at x r : ℕ) → count < 2 ^ 64 → bytes < 2 ^ 64 → at + row ≤ length out
    → Puts (104 ∷ 101 ∷ 108 ∷ 100 ∷ 32 ∷ []) out at m x → Puts (range_text count bytes) m x o r → PutsWithin row (head_text count bytes) out at o r
head_puts count bytes out m o at x r hc hb h p q =
    let s = head-short count bytes hc hb in
    record { short = s; puts = put_then (104 ∷ 101 ∷ 108 ∷ 100 ∷ 32 ∷ []) (range_text count bytes) out m o at x r (omega arith) p q }

-- a row, in three
pub row-puts : (h s l : ℕ) (out m k o : List ℕ) (at x y r : ℕ) → h < 2 ^ 64 → s < 2 ^ 64 → l < 2 ^ 64 → at + row ≤ length out
    → Puts (digits_of h) out at m x → Puts (32 ∷ []) m x k y → Puts (range_text s l) k y o r → PutsWithin row (row_text h s l) out at o r
row-puts h s l out m k o at x y r hh hs hl e p q w =
    let z = row-short s l hs hl h hh in
    record { short = z; puts = put_three (digits_of h) (32 ∷ []) (range_text s l) out m k o at x y r (omega arith) p q w }

-- k ranges are printed, and are no longer than k rows
pub record Rowed (k : ℕ) (holders starts lasts out : List ℕ) (at : ℕ) (out' : List ℕ) (next : ℕ) : Type 0 where
  pub short : length (rows k holders starts lasts) ≤ row * k
  pub puts : Puts (rows k holders starts lasts) out at out' next

module _ (holders starts lasts out : List ℕ) (at : ℕ) where
  pub rowed-none : at ≤ length out → Rowed 0 holders starts lasts out at out at
  unfolding rows
  rowed-none h =
      let e : at + 0 ≡ at = omega arith in
      record {
        short = omega arith;
        puts = put_all [] out at out at (omega arith) (sym (ap (λ (k : ℕ). take at out ++ drop k out) e ∙ take-append-drop at out)) (sym e);
      }

  module _ (k : ℕ) (m : List ℕ) (x : ℕ) (h : at + row * (k + 1) ≤ length out) (w : Rowed k holders starts lasts out at m x) where
    -- there is room for one more
    pub rowed-room : x + row ≤ length m
    rowed-room =
        let s = w.short in
        let e = all-next (rows k holders starts lasts) out at m x (omega arith) w.puts in
        let f = puts-length (rows k holders starts lasts) out m at x w.puts in
        omega arith

    pub rowed-more : (o : List ℕ) (y : ℕ) → PutsWithin row (row_text (get_or holders k 0) (get_or starts k 0) (get_or lasts k 0)) m x o y → Rowed (k + 1) holders starts lasts out at o y
    unfolding rows
    rowed-more o y p =
        let t = row_text (get_or holders k 0) (get_or starts k 0) (get_or lasts k 0) in
        let joined = length-append (rows k holders starts lasts) t in
        let few = p.short in
        let before = w.short in
        record {
          short = rw (add-one k) (omega arith);
          puts = rw (add-one k) (put_then (rows k holders starts lasts) t out m o at x y (omega arith) w.puts p.puts);
        }

-- past the head there is room for the ranges
pub rows-room : (count bytes : ℕ) (out m : List ℕ) (at x : ℕ) → at + row * (count + 1) ≤ length out → PutsWithin row (head_text count bytes) out at m x → x + row * count ≤ length m
rows-room count bytes out m at x h p =
    let few = p.short in
    let same = puts-length (head_text count bytes) out m at x p.puts in
    let ends = all-next (head_text count bytes) out at m x (omega arith) p.puts in
    omega arith

-- the head, then all the ranges
pub table_done : (count bytes : ℕ) (holders starts lasts out m o : List ℕ) (at x y : ℕ) → at + row * (count + 1) ≤ length out
    → PutsWithin row (head_text count bytes) out at m x → Rowed count holders starts lasts m x o y → PutsWithin (row * (count + 1)) (held_table count bytes holders starts lasts) out at o y
unfolding held_table
table_done count bytes holders starts lasts out m o at x y h p w =
    let few = p.short in
    let rest = w.short in
    let joined = length-append (head_text count bytes) (rows count holders starts lasts) in
    record { short = omega arith; puts = put_then (head_text count bytes) (rows count holders starts lasts) out m o at x y (omega arith) p.puts w.puts }
