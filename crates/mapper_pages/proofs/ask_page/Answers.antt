use mir.Syntax.{w64}
use mir.Facts.{to_z-of_z}
use Rattle.mapper_pages.proofs.Asking.{signed_order, asked-one}
use Rattle.mapper_pages.proofs.ask_page.Goals as goal

pub returns : goal.returns
returns c =
    asked-one _ _ c.take_page.result _ c.take_page.ensures (signed_order c.take_page.result _ (to_z-of_z {w = w64} (record { sfits = c.take_page.type_inv })))
