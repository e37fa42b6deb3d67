use mathlib.Core.Path.{refl}
use native.Mathlib.Omega.{arith}
use Rattle.pool_state.specs.Shown.{pool}
use Rattle.script_answers.proofs.Listings.{chain-few, not_short, count-is, table-puts}
use Rattle.script_answers.proofs.put_listing.Goals as goal

pub put_table-requires : goal.put_table-requires
put_table-requires c =
    let counted = c in
    let listing = counted in
    let start = listing in
    let o = start.requires.ordered in
    let k = count-is pool o.0 _ _ _ _ o.1 _ _ _ _ _ (listing.list_in.ensures o.0 o.1) refl refl _ counted.in-Some.is in
    let h = chain-few pool o.0 _ _ _ _ o.1 in
    let r = start.requires.pool_in_bounds in
    (omega arith, omega arith)

pub returns-in-Some : goal.returns-in-Some
returns-in-Some c d o =
    let counted = c in
    let listing = counted in
    table-puts pool d _ _ _ _ o _ _ _ _ _ (listing.list_in.ensures d o) refl refl _ counted.in-Some.is _ _ _ _ _ c.put_table.ensures

pub returns-in-None : goal.returns-in-None
returns-in-None c d o =
    let listing = c in
    absurd (not_short pool d _ _ _ _ o _ _ _ _ _ (listing.list_in.ensures d o) refl refl c.in-None.is)
