use mathlib.Core.List.{List, []}
use Prim.Native.Nat.{ℕ}
use mathlib.Core.Path.{sym, ◌∙◌}
use lib.IntN.{ℤ}
use Rattle.image_parts.specs.Layout.{current}
use Rattle.rules.specs.Rules.{Free}
use Rattle.c_over.specs.Images.{images}
use Rattle.holder_image.specs.Bytes.{holding_in}
use Rattle.holder_calls.specs.Calls.{Settles}
use Rattle.holder_rules.specs.Holders.{offer}
use Rattle.holder_calls.proofs.Machine.{held, is-four, not-four}
use Rattle.holder_calls.proofs.Settled.{offer-four, offer-five, offer-answered}
use Rattle.holder_calls.proofs.settle.settle_offer.Goals.{Start}
use Rattle.holder_calls.proofs.settle.settle_offer.Goals as goal

abbrev Offered : Start → List ℕ → ℤ → Type 0
Offered s l y = let x = s.args in Settles current (Free x.address.0 x.size) (offer (images current []) x.address.0 x.size (holding_in l)) l x.answer y l

pub returns-then-answer-eq-INVALID_REQUEST : goal.returns-then-answer-eq-INVALID_REQUEST
returns-then-answer-eq-INVALID_REQUEST c =
    λ l a. let s = c in let x = s.args in held x.answer s.ranges.answer (Offered (goal.at.returns-then-answer-eq-INVALID_REQUEST s).Start l) (offer-four current l x.register.now.entries x.answer x.address.0 x.size a (is-four x.answer s.ranges.answer c.if-answer-eq-INVALID_REQUEST.true))

pub returns-then-meets_held : goal.returns-then-meets_held
returns-then-meets_held c =
    λ l a. let m = c in let e = m in let s = e in let x = s.args in offer-five current l x.register.now.entries x.answer x.address.0 x.size a (not-four x.answer e.if-answer-eq-INVALID_REQUEST.false) (sym m.meets_held.ensures ∙ c.if-meets_held.true)

pub returns : goal.returns
returns c =
    λ l a. let m = c in let e = m in let s = e in let x = s.args in
    held x.answer s.ranges.answer (Offered (goal.at.returns s).Start l) (offer-answered current l x.register.now.entries x.answer x.address.0 x.size a (not-four x.answer e.if-answer-eq-INVALID_REQUEST.false) (sym m.meets_held.ensures ∙ c.if-meets_held.false))
