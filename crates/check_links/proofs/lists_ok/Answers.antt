use mathlib.Core.Path.{refl, sym, ◌∙◌}
use native.Mathlib.Omega.{arith}
use Rattle.check_links.specs.Bounds.{Bounds}
use Rattle.check_links.proofs.Bounds.{bounds_of, next-least, most-fits}
use Rattle.check_links.proofs.Lists.{lists-done, lists-broken, lists-go}
use Rattle.check_links.proofs.lists_ok.Goals.{After-most_of-most}
use Rattle.check_links.proofs.lists_ok.Goals as goal

pub loop-k-init : goal.loop-k-init
loop-k-init c =
    (refl, refl)

-- the bounds that the code has are those of the list
bounded : (c : After-most_of-most) → let l = c.loop-k in Bounds l.k l.least c.most_of-most.result
bounded c = bounds_of _ _ _ c.loop-k-test.true c.loop-k.invariant.0 c.most_of-most.ensures

pub returns-in_default : goal.returns-in_default
returns-in_default c =
    let walked = c.tally_list.ensures _ (bounded (goal.at.returns-in_default c).After-most_of-most) in
    sym (c.loop-k.invariant.1 ∙ lists-broken _ _ _ _ _ _ _ _ _ _ (omega arith) (sym walked ∙ c.in_default.is))

pub overflow_add-least : goal.overflow_add-least
overflow_add-least c =
    omega (arith, most-fits c.loop-k.k _ c.most_of-most.ensures)

pub loop-k-preserved : goal.loop-k-preserved
loop-k-preserved c =
    let l = c.loop-k in
    let walked = c.tally_list.ensures _ (bounded (goal.at.loop-k-preserved c).After-most_of-most) in (
      next-least l.k _ c.most_of-most.ensures,
      l.invariant.1 ∙ lists-go _ _ _ _ _ _ _ _ _ _ _ _ (omega arith) (sym walked ∙ c.in-Some.is),
    )

pub returns : goal.returns
returns c =
    let l = c.loop-k in sym (l.invariant.1 ∙ lists-done _ _ _ _ _ _ _ _ _ _ (omega arith))
