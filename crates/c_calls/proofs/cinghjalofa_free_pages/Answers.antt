use mathlib.Core.Path.{ap, ◌∙◌}
use lib.IntN.{ℤ}
use mir.Syntax.{w64}
use mir.Facts.{to_z-of_z}
use Rattle.c_over.specs.CCalls.{returned}
use Rattle.c_calls.proofs.cinghjalofa_free_pages.Goals as goal

pub returns : goal.returns
returns c =
    let called = c in
    let result = called.call_over in
    ap (λ (i : ℤ). returned i result.new.image) (to_z-of_z {w = w64} (record { sfits = result.type_inv }))
    ∙ (rw called.freed_bytes.ensures at result.ensures)
