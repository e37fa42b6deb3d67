use mathlib.Core.Path.{ap, ◌∙◌}
use lib.IntN.{ℤ}
use mir.Syntax.{w64}
use mir.Facts.{to_z-of_z}
use Rattle.c_over.specs.CCalls.{returned}
use Rattle.mapper_pages.proofs.Asking.{page-call}
use Rattle.mapper_pages.proofs.take_page.Goals as goal

pub returns : goal.returns
returns c =
    ap (λ (i : ℤ). returned i c.call_over.new.image) (to_z-of_z {w = w64} (record { sfits = c.call_over.type_inv }))
    ∙ c.call_over.ensures ∙ page-call c.args.image.now
