use Prim.Native.Nat.{◌+◌}
use mathlib.Core.Path.{◌≡◌, sym, ap, ◌∙◌}
use mathlib.Core.List.{List}
use native.Mathlib.Omega.{arith}
use lib.Dec.{lit≤}
use lib.ListN.{get_or}
use Rattle.std.specs.Prelude.{Some}
use Rattle.rules.specs.Rules.{Range, start_of}
use Rattle.pool_state.specs.Shown.{pool, Gapped}
use Rattle.pool_links.specs.Hits.{hit_of}
use Rattle.pool_chain.specs.Chain.{Ordered}
use Rattle.pool_chain.proofs.Neighbours.{Below, below, none-contains, short-contains, long-contains}
use Rattle.pool_chain.proofs.search_entry_containing_address.Goals.{After-i-1, Else-i}
use Rattle.pool_chain.proofs.search_entry_containing_address.Goals as goal

-- the place that the search gave, and the range below it
gapped : (c : After-i-1) → let x = c.args in (l : List Range) → Ordered pool l x.start.now x.end.now x.next.now x.first.0 → Gapped start_of l (x.address.0 + 1) c.search_entry_previous_address-gap.result.before.0 c.search_entry_previous_address-gap.result.after.0
gapped c l o = c.search_entry_previous_address-gap.ensures l _ o

low : (c : Else-i) (l : List Range) (o : Ordered pool l _ _ _ _) → Below pool (lit≤ tt) l o.runs.good o.apart _ _ _ (gapped (goal.at.Else-i c).After-i-1 l o)
low c l o = below pool (lit≤ tt) l o.runs.good o.apart _ _ _ (gapped (goal.at.Else-i c).After-i-1 l o) c.if-i.false

-- its last byte stands in its record
last-is : (c : Else-i) (l : List Range) (o : Ordered pool l _ _ _ _) → get_or c.args.end.now c.search_entry_previous_address-gap.result.before.0 0 ≡ (low c l o).range.last
last-is c l o =
    let b = low c l o in
    ap (λ (i : _). get_or c.args.end.now i 0) b.number ∙ ap (λ (r : Range). r.last) (o.runs.stand b.range b.member)

pub returns-then-i : goal.returns-then-i
returns-then-i c l o =
    ap hit_of (sym (none-contains pool (lit≤ tt) l o.runs.good o.apart _ _ _ _ c.requires.address_lt_past.0 (gapped (goal.at.returns-then-i c).After-i-1 l o) c.if-i.true))

pub bounds-end-n : goal.bounds-end-n
bounds-end-n c =
    let u = c.requires.ordered in
    let b = low (goal.at.bounds-end-n c).Else-i u.0 u.1 in
    let k = (u.1.runs.good b.range b.member).known in
    omega (arith, b.number)

pub returns-then-end-n : goal.returns-then-end-n
returns-then-end-n c l o =
    let e = last-is (goal.at.returns-then-end-n c).Else-i l o in
    ap hit_of (sym (short-contains pool (lit≤ tt) l o.runs.good o.apart _ _ _ _ c.requires.address_lt_past.0 (gapped (goal.at.returns-then-end-n c).After-i-1 l o) (low (goal.at.returns-then-end-n c).Else-i l o) (omega (arith, c.if-end-n.true))))

pub returns : goal.returns
returns c l o =
    let e = last-is (goal.at.returns c).Else-i l o in
    ap Some (ap (λ (i : _). record { 0 = i }) (low (goal.at.returns c).Else-i l o).number)
    ∙ ap hit_of (sym (long-contains pool (lit≤ tt) l o.runs.good o.apart _ _ _ _ c.requires.address_lt_past.0 (gapped (goal.at.returns c).After-i-1 l o) (low (goal.at.returns c).Else-i l o) (omega (arith, c.if-end-n.false))))
