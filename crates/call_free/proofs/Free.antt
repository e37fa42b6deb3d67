-- The rule of `free`, line by line. Assumes nothing.
use Prim.Native.Nat.{ℕ, ◌+◌, ◌<◌, ◌≤◌}
use mathlib.Core.Bool.{Bool, true, false, not, cond}
use mathlib.Core.Logic.{◌≢◌}
use mathlib.Core.Path.{◌≡◌, sym, subst}
use lib.Dec.{T}
use borrow.Author.Tests.{eq-eqb, ne_eqb, lt-ltb, le-ltb}
use Rattle.rules.specs.Rules.{top, start_of, Book, accepted, refused, refuse, free, given, any, meets}
use Rattle.rules_laws.proofs.Outcomes.{clear}
use Rattle.pool_state.specs.Shown.{Gapped}
use Rattle.pool_state.specs.State.{Holds}
use Rattle.pool_give.specs.Give.{Offers, wants}
use Rattle.pool_state.specs.declared.MemoryAllocator.{MemoryAllocator}
use Rattle.call_free.specs.Piece.{free_piece_lem}

module _ (n s z : ℕ) (b : Book) where
  pub free-zero : z ≡ 0 → free n s z b ≡ refused 4 b
  unfolding free refuse
  free-zero e = rw (eq-eqb z 0 e)

  pub free-past : z ≢ 0 → top < s + z → free n s z b ≡ refused 4 b
  unfolding free refuse
  free-past e h = rw (ne_eqb z 0 e, lt-ltb top (s + z) h)

  pub free-passed : z ≢ 0 → s + z ≤ top → free n s z b ≡ free_piece_lem n s (s + z) b
  unfolding free refuse free_piece_lem
  free-passed e h = rw (ne_eqb z 0 e, le-ltb top (s + z) h)

module _ (n a t : ℕ) (b : Book) where
  pub free-overlaps : any (meets a t) b.chain ≡ true → free_piece_lem n a t b ≡ refused 4 b
  unfolding free_piece_lem refuse
  free-overlaps g = rw g

  pub free-answer : any (meets a t) b.chain ≡ false → free_piece_lem n a t b ≡ cond (wants n b a t) (refused 1 b) (accepted 0 (given n a t b))
  unfolding free_piece_lem refuse
  free-answer g = rw g

  pub offers : (m : MemoryAllocator) (x y : ℕ) → Holds n b m → Gapped start_of b.chain a x y → a < t → t ≤ top → any (meets a t) b.chain ≡ false → Offers n b m x y a t
  offers m x y hm g e h f = record {
    holds = hm;
    gap = g;
    some_byte = e;
    below = h;
    clear = clear a t b (subst (λ (w : Bool). T (not w)) (sym f) tt);
  }
