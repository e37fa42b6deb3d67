-- The law of multiples over any list of calls, for any divisor and of every engine that obeys the rules: where all calls move pieces
-- whose ends are multiples, so are the ends of all free ranges. Assumes nothing.
use Prim.Native.Nat.{ℕ}
use mathlib.Core.List.{List, [], ◌∷◌}
use mathlib.Core.Path.{sym, subst}
use Rattle.rules.specs.Rules.{Book, Call, voucher, step}
use Rattle.rules.specs.Sound.{Sound}
use Rattle.rules_laws.proofs.Multiples.{Blocks, Moves, step-blocks, Whole, whole-moves}
use Rattle.rules_engine.specs.Engine.{Engine, after}
use Rattle.rules_engine.specs.Demand.{left}
use Rattle.rules_engine.proofs.Obeys.{Obeys}
use Rattle.rules_engine.proofs.Demand.{Stands, stands-next, book-is, answer-is, first}

abbrev pub Each : (Call → Type 0) → List Call → Type 0
Each P [] = Unit {0}
Each P (c ∷ cs) = P c × Each P cs

-- whatever book it finds, if the ends of its ranges are multiples the call moves no other piece
abbrev pub Keeps : ℕ → ℕ → Call → Type 0
Keeps n d c = (b : Book) → Sound n b → Blocks d b → Moves d (voucher c (step n c b))

pub whole-keeps : (n d : ℕ) (cs : List Call) → Each (Whole d) cs → Each (Keeps n d) cs
whole-keeps n d [] h = tt
whole-keeps n d (c ∷ cs) h = (λ b s e. whole-moves d n b c s e h.0, whole-keeps n d cs h.1)

module _ {n : ℕ} {e : Engine} (f : Obeys n e) (d : ℕ) where
  module _ (s : e.State) (h : Stands f s) (blocks : Blocks d (e.book s)) where
    pub held-blocks : Blocks d h.held
    held-blocks = subst (Blocks d) (book-is f s h) blocks

    module _ (c : Call) (keeps : Keeps n d c) where
      moved : Moves d (voucher c (step n c h.held))
      moved = keeps h.held h.good held-blocks

      pub answer-moves : Moves d (e.answer c s)
      answer-moves = subst (Moves d) (sym (answer-is f s h c)) moved

      next-blocks : Blocks d (e.book (e.next c s))
      next-blocks = subst (Blocks d) (sym (book-is f (e.next c s) (stands-next f c s h))) (step-blocks d n h.held c h.good moved held-blocks)

  after-blocks : (s : e.State) → Stands f s → Blocks d (e.book s) → (cs : List Call) → Each (Keeps n d) cs → Blocks d (e.book (after e s cs))
  unfolding after
  after-blocks s h b [] k = b
  after-blocks s h b (c ∷ cs) k = after-blocks (e.next c s) (stands-next f c s h) (next-blocks s h b c k.0) cs k.1

  pub left-blocks : (cs : List Call) → Each (Keeps n d) cs → Blocks d (e.book (left e cs))
  left-blocks cs k = after-blocks e.new (first f) (subst (Blocks d) (sym (book-is f e.new (first f))) (λ r i. absurd i)) cs k

  -- in particular where the numbers of all calls are multiples
  pub whole-left : (cs : List Call) → Each (Whole d) cs → Blocks d (e.book (left e cs))
  whole-left cs w = left-blocks cs (whole-keeps n d cs w)
