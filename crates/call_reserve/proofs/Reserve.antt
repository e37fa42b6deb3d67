-- The rule of `reserve`, line by line. Assumes nothing.
use Prim.Native.Nat.{ℕ, suc, ◌+◌, ◌-◌, ◌<◌, ◌≤◌}
use mathlib.Core.Bool.{cond}
use mathlib.Core.Logic.{◌≢◌}
use mathlib.Core.Path.{◌≡◌, sym, ap, subst}
use lib.Dec.{leb, leb→le}
use native.Mathlib.Omega.{arith}
use borrow.Author.Tests.{eq-eqb, ne_eqb, lt-ltb, le-ltb}
use Rattle.std.specs.Prelude.{Result, Some, None}
use Rattle.rules.specs.Rules.{top, Range, Book, Answer, accepted, refused, refuse, reserve, reserve_from, total, taken, contains, up, down, find}
use Rattle.rules_laws.proofs.Lists.{and_l, and_r}
use Rattle.rules_laws.proofs.Facts.{up-plain, down-plain}
use Rattle.pool_state.specs.State.{Holds}
use Rattle.pool_state.specs.declared.RecordIndex.{RecordIndex}
use Rattle.pool_state.specs.declared.MemoryAllocator.{MemoryAllocator}
use Rattle.pool_links.specs.Hits.{hit_of}
use Rattle.pool_take.specs.Take.{Asks, refuses}
use Rattle.calls.specs.Answers.{Answers}
use Rattle.calls.specs.Calls as answer
use Rattle.calls.proofs.Endings.{same_answer}
use Rattle.call_reserve.specs.Piece.{reserve_piece_lem}
use Rattle.call_reserve.specs.Served.{served_as}
use Rattle.calls.specs.declared.MemoryError.{MemoryError}
use Rattle.pool_links.proofs.Hits.{hit-at, hit-nothing}

module _ (n s z o : ℕ) (b : Book) where
  pub reserve-zero : z ≡ 0 → reserve n s z o b ≡ refused 4 b
  unfolding reserve refuse
  reserve-zero e = rw (eq-eqb z 0 e)

  pub reserve-order : z ≢ 0 → 63 < o → reserve n s z o b ≡ refused 4 b
  unfolding reserve refuse
  reserve-order e h = rw (ne_eqb z 0 e, lt-ltb 63 o h)

  pub reserve-few : z ≢ 0 → o ≤ 63 → total b < z → reserve n s z o b ≡ refused 3 b
  unfolding reserve refuse
  reserve-few e h g = rw (ne_eqb z 0 e, le-ltb 63 o h, lt-ltb (total b) z g)

  pub reserve-past : z ≢ 0 → o ≤ 63 → z ≤ total b → top < s + z → reserve n s z o b ≡ refused 4 b
  unfolding reserve refuse
  reserve-past e h g f = rw (ne_eqb z 0 e, le-ltb 63 o h, le-ltb (total b) z g, lt-ltb top (s + z) f)

-- the lines that do not look at the ranges leave a piece of some bytes, not more than there are, below the top
pub record Passed (s z o total : ℕ) : Type 0 where
  pub some : z ≢ 0
  pub order : o ≤ 63
  pub enough : z ≤ total
  pub ends : s + z ≤ top

-- with order 0
pub reserve-plain : (n s z : ℕ) (b : Book) → z ≢ 0 → z ≤ total b → s + z ≤ top → reserve n s z 0 b ≡ reserve_piece_lem n s (s + z) b
unfolding reserve refuse
reserve-plain n s z b e g f =
    let d : up 0 (s + z) - down 0 s ≤ total b = let p = up-plain (s + z) in let q = down-plain s in omega arith in
    rw (ne_eqb z 0 e, le-ltb (total b) z g, le-ltb top (s + z) f, le-ltb (total b) (up 0 (s + z) - down 0 s) d, up-plain (s + z), down-plain s)

-- the answer that is made of what came of a piece
pub served-as : (n : ℕ) (w w' : Answer) (r : answer.Answer) (k : Result (Unit {0}) MemoryError) (s : MemoryAllocator) → w ≡ w' → r ≡ served_as k → Answers n w' (served_as k) s → Answers n w r s
served-as n w w' r k s e f h = same_answer n w w' r s e (subst (λ (x : answer.Answer). Answers n w' x s) (sym f) h)

module _ (n a t : ℕ) (b : Book) (some_byte : a < t) where
  pub not-inside : None ≡ hit_of (find (contains a t) b.chain) → reserve_piece_lem n a t b ≡ refused 4 b
  unfolding reserve_from
  not-inside q = ap (reserve_from n a t b) (hit-nothing (contains a t) b.chain q)

  pub record Inside (s : MemoryAllocator) (i : ℕ) : Type 0 where
    pub range : Range
    pub asks : Asks n b s i a t range
    pub answer : reserve_piece_lem n a t b ≡ cond (refuses n b range a t) (refused 1 b) (accepted 0 (taken n range a t b))

  pub inside : (s : MemoryAllocator) (j : RecordIndex) → Holds n b s → Some j ≡ hit_of (find (contains a t) b.chain) → Inside s j.0
  unfolding reserve_from refuse
  inside s j hs q =
      let w = hit-at (contains a t) b.chain j q in
      let r = w.0 in
      record {
        range = r;
        asks = record {
          holds = hs;
          member = w.1;
          number = w.3;
          from = leb→le r.start a (and_l (leb r.start a) (leb t (suc r.last)) w.2);
          some_byte = some_byte;
          to = leb→le t (suc r.last) (and_r (leb r.start a) (leb t (suc r.last)) w.2);
        };
        answer = ap (reserve_from n a t b) w.4;
      }
