-- The ranges of two arrays, printed one after another. Assumes nothing.
use mathlib.Core.Path.{◌≡◌, refl, sym, ap, ◌∙◌}
use mathlib.Core.List.{List, [], ◌++◌}
use Prim.Native.Nat.{ℕ, ◌+◌, ◌*◌, ◌^◌, ◌<◌, ◌≤◌}
use native.Mathlib.Numerals.{add-one}
use native.Mathlib.Omega.{arith}
use mathlib.Core.Bool.{Bool, true, false, cond}
use borrow.Author.Tests.{leb-true}
use lib.Dec.{leb}
use lib.ListN.{length, get_or, take, drop, length-append, length-take, length-drop, take-append-drop}
use Rattle.script_texts.specs.Answers.{range_text, list_text, written, Puts}
use Rattle.script_texts.proofs.Buffers.{put_all, put_then, all-next, at-most-48}
use Rattle.script_replies.specs.Replies.{line, PutsWithin, rows, table_text}

-- a text leaves the buffer's length
written-length : (t l : List ℕ) (at : ℕ) → length (written t l at) ≡ length l
unfolding written
written-length t l at = go (leb (at + length t) (length l)) refl
  where
    go : (b : Bool) → leb (at + length t) (length l) ≡ b → length (cond b (take at l ++ (t ++ drop (at + length t) l)) l) ≡ length l
    go false e = refl
    go true e = let h = leb-true (at + length t) (length l) e in simp (length-append, length-take, length-drop) (omega arith)

pub puts-length : (t l m : List ℕ) (at r : ℕ) → Puts t l at m r → length m ≡ length l
puts-length t l m at r p = ap length p.bytes ∙ written-length t l at

-- k ranges are printed, and are no longer than k lines
pub record Rowed (k : ℕ) (starts lasts out : List ℕ) (at : ℕ) (out' : List ℕ) (next : ℕ) : Type 0 where
  pub short : length (rows k starts lasts) ≤ line * k
  pub puts : Puts (rows k starts lasts) out at out' next

module _ (starts lasts out : List ℕ) (at : ℕ) where
  pub rowed-none : at ≤ length out → Rowed 0 starts lasts out at out at
  unfolding rows
  rowed-none h =
      let e : at + 0 ≡ at = omega arith in
      record {
        short = omega arith;
        puts = put_all [] out at out at (omega arith) (sym (ap (λ (k : ℕ). take at out ++ drop k out) e ∙ take-append-drop at out)) (sym e);
      }

  pub rowed-more : (k : ℕ) (m o : List ℕ) (x y : ℕ) → at + line * (k + 1) ≤ length out
      → Rowed k starts lasts out at m x → PutsWithin line (range_text (get_or starts k 0) (get_or lasts k 0)) m x o y → Rowed (k + 1) starts lasts out at o y
  unfolding rows
  rowed-more k m o x y h w p =
      let a = get_or starts k 0 in
      let b = get_or lasts k 0 in
      let joined = length-append (rows k starts lasts) (range_text a b) in
      let few = p.short in
      let before = w.short in
      record {
        short = rw (add-one k) (omega arith);
        puts = rw (add-one k) (put_then (rows k starts lasts) (range_text a b) out m o at x y (omega arith) w.puts p.puts);
      }

-- past the head there is room for the ranges
pub rows-room : (count total : ℕ) (out m : List ℕ) (at x : ℕ) → count < 2 ^ 64 → total < 2 ^ 64 → at + line * (count + 1) ≤ length out → Puts (list_text count total) out at m x → x + line * count ≤ length m
rows-room count total out m at x f g h p =
    let few = (at-most-48 count total f g).5 in
    let same = puts-length (list_text count total) out m at x p in
    let ends = all-next (list_text count total) out at m x (omega arith) p in
    omega arith

-- the head, then all the ranges
pub table_done : (count total : ℕ) (starts lasts out m o : List ℕ) (at x y : ℕ) → count < 2 ^ 64 → total < 2 ^ 64 → at + line * (count + 1) ≤ length out
    → Puts (list_text count total) out at m x → Rowed count starts lasts m x o y → PutsWithin (line * (count + 1)) (table_text count total starts lasts) out at o y
unfolding table_text
table_done count total starts lasts out m o at x y f g h p w =
    let few = (at-most-48 count total f g).5 in
    let rest = w.short in
    let joined = length-append (list_text count total) (rows count starts lasts) in
    record { short = omega arith; puts = put_then (list_text count total) (rows count starts lasts) out m o at x y (omega arith) p w.puts }
