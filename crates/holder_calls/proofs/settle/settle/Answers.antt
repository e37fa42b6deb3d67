use mathlib.Core.List.{List, []}
use Prim.Native.Nat.{ℕ}
use mathlib.Core.Path.{◌≡◌, sym, subst}
use lib.IntN.{ℤ}
use mir.Syntax.{w64}
use mir.Val.{to_z, of_z}
use Rattle.image_parts.specs.Layout.{current}
use Rattle.c_over.specs.Images.{images}
use Rattle.holder_image.specs.Bytes.{holding_in}
use Rattle.holder_calls.specs.Calls.{Asks, Settles}
use Rattle.holder_rules.specs.Holders.{step, below}
use Rattle.holder_serve.specs.Made.{requested}
use Rattle.holder_serve.specs.declared.HolderRequest.{HolderRequest}
use Rattle.holder_calls.proofs.Machine.{as-held, held}
use Rattle.holder_calls.proofs.Settled.{same_answer}
use Rattle.holder_calls.proofs.settle.settle.Goals.{Start}
use Rattle.holder_calls.proofs.settle.settle.Goals as goal

asked-as : (s : Start) (q : HolderRequest) → s.args.request ≡ q → let x = s.args in Asks current (below (requested q)) x.image.now x.register.now.entries (to_z w64 (of_z w64 x.answer))
asked-as s q e =
    let x = s.args in
    held x.answer s.ranges.answer (λ (y : ℤ). Asks current (below (requested q)) x.image.now x.register.now.entries y) (subst (λ (r : HolderRequest). Asks current (below (requested r)) x.image.now x.register.now.entries x.answer) e s.requires)

abbrev Settled : Start → List ℕ → ℤ → HolderRequest → Type 0
Settled s l' y r = let x = s.args in Settles current (below (requested r)) (step (images current []) (requested r) (holding_in x.image.now)) x.image.now x.answer y l'

pub settle_by-requires : goal.settle_by-requires
settle_by-requires c =
    asked-as (goal.at.settle_by-requires c).Start _ c.in-By.is

pub returns-in-Offer : goal.returns-in-Offer
unfolding step
returns-in-Offer c =
    let q = c in let s = q in let x = s.args in
    held c.settle_offer.result (record { sfits = c.settle_offer.type_inv }) (λ (y : ℤ). Settled (goal.at.returns-in-Offer s).Start x.image.now y x.request)
    (subst (Settled (goal.at.returns-in-Offer s).Start x.image.now c.settle_offer.result) (sym q.in-Offer.is)
    (same_answer current _ _ x.image.now _ x.answer c.settle_offer.result x.image.now (as-held x.answer s.ranges.answer) (c.settle_offer.ensures x.image.now (asked-as (goal.at.returns-in-Offer s).Start _ q.in-Offer.is))))

pub returns-in-By : goal.returns-in-By
returns-in-By c =
    let g = c in let q = g in let s = q in let x = s.args in
    held g.settle_by.result (record { sfits = g.settle_by.type_inv }) (λ (y : ℤ). Settled (goal.at.returns-in-By s).Start g.settle_by.new.image y x.request)
    (subst (Settled (goal.at.returns-in-By s).Start g.settle_by.new.image g.settle_by.result) (sym q.in-By.is) (same_answer current _ _ x.image.now _ x.answer g.settle_by.result g.settle_by.new.image (as-held x.answer s.ranges.answer) g.settle_by.ensures))
