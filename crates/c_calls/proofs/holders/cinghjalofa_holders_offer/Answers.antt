use mathlib.Core.Path.{ap, ◌∙◌}
use lib.IntN.{ℤ}
use mir.Syntax.{w64}
use mir.Facts.{to_z-of_z}
use Rattle.c_over.specs.CCalls.{returned}
use Rattle.c_calls.proofs.holders.cinghjalofa_holders_offer.Goals as goal

pub serve_over-requires : goal.serve_over-requires
serve_over-requires c =
    tt

pub returns : goal.returns
returns c =
    let g = c.serve_over in ap (λ (i : ℤ). returned i g.new.image) (to_z-of_z {w = w64} (record { sfits = g.type_inv })) ∙ g.ensures
