use mathlib.Core.Path.{refl}
use native.Mathlib.Omega.{arith}
use Rattle.image_parts.specs.Read.{links_in}
use Rattle.image_parts.proofs.Loops.{fill_start, fill-next, fill_end}
use Rattle.image_records.proofs.numbers.read_links.Goals as goal

pub loop-k-init : goal.loop-k-init
loop-k-init c =
    (refl, fill_start _ _ _ refl)

pub link_in-requires : goal.link_in-requires
link_in-requires c =
    let start = c in
    record { lawful = start.requires.lawful; link_in_bounds = start.requires.spaced c.loop-k.k (omega arith) }

pub loop-k-preserved : goal.loop-k-preserved
loop-k-preserved c =
    let l = c.loop-k in
    (l.invariant.0, fill-next _ _ l.k l.links _ (omega arith) c.link_in.ensures l.invariant.1)

pub returns : goal.returns
unfolding links_in
returns c =
    let l = c.loop-k in
    fill_end _ _ l.k l.links (omega arith) l.invariant.1
