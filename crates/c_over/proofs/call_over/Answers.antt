use mathlib.Core.List.{[], ◌∷◌}
use mathlib.Core.Path.{ap, ◌∙◌}
use lib.IntN.{ℤ, pos}
use mir.Syntax.{w64}
use mir.Val.{to_z, of_z}
use mir.Facts.{to_z-of_z}
use Rattle.image_parts.specs.Layout.{current}
use Rattle.image_parts.proofs.Lawful.{figured-current}
use Rattle.batch.specs.InWords.{words_of_lem}
use Rattle.c_over.specs.CCalls.{returned}
use Rattle.c_over.specs.Lists.{BatchOver}
use Rattle.c_over.proofs.Batches.{same-list, list-refused, list-served}
use Rattle.c_over.proofs.call_over.Goals.{After-list_over-listed}
use Rattle.c_over.proofs.call_over.Goals as goal

-- the list was that of the request, and its number is what was returned
listed : (c : After-list_over-listed) → let start = c in BatchOver current start.args.image.now (words_of_lem start.args.request) (pos 0 ∷ []) (to_z w64 (of_z w64 c.list_over-listed.result)) c.list_over-listed.new.image c.list_over-listed.new.answers
listed c =
    let made = c in
    same-list current _ _ _ _ _ _ _ _ made.words_of-words.ensures (to_z-of_z {w = w64} (record { sfits = c.list_over-listed.type_inv })) c.list_over-listed.ensures

pub returns-then-listed-lt0 : goal.returns-then-listed-lt0
returns-then-listed-lt0 c =
    let called = c in
    let known = called in
    list-refused current figured-current _ (λ i b. (known.slice_known-1.given i).fits) known.args.request _ _ _ (listed (goal.at.returns-then-listed-lt0 called).After-list_over-listed) c.if-listed-lt0.true

pub returns : goal.returns
returns c =
    let tested = c in
    let called = tested in
    let known = called in
    ap (λ (i : ℤ). returned i called.list_over-listed.new.image) (to_z-of_z {w = w64} (record { sfits = c.result-1.given }))
    ∙ list-served current figured-current _ (λ i b. (known.slice_known-1.given i).fits) known.args.request _ _ _ (listed (goal.at.returns called).After-list_over-listed) tested.if-listed-lt0.false
