use Prim.Native.Nat.{ℕ, ◌+◌, ◌-◌, ◌<◌}
use mathlib.Core.Path.{◌≡◌, refl, sym, ap, ◌∙◌}
use mathlib.Core.List.{List}
use native.Mathlib.Omega.{arith}
use lib.Dec.{lit≤}
use Rattle.std.specs.Prelude.{Some}
use Rattle.std.proofs.Common.{drop}
use Rattle.std.proofs.lemmas.List.{get_or-take, get_or-drop, length-take, length-drop}
use Rattle.rules.specs.Rules.{size_lists, Range, find, serves, of_list, lists}
use Rattle.rules.specs.Sound.{Good}
use Rattle.rules_laws.proofs.Shelf.{all-lists}
use Rattle.pool_state.specs.Shown.{pool, at, Shelved}
use Rattle.pool_links.specs.Hits.{hit_of}
use Rattle.pool_state.proofs.Walks.{walk-starts, Stands, stands, stands_at, stands_good, walk-on, walk-less}
use Rattle.pool_shelf.proofs.Shelf.{runs}
use Rattle.pool_shelf.proofs.Fits.{mark, mark-off, list-passed, list_hit, list-end, walk-all, from-own}
use Rattle.pool_shelf.proofs.find_fit.Invariants.{serving}
use Rattle.pool_shelf.proofs.find_fit.Goals.{After-can_be_served, In-loop-cur, In-search}
use Rattle.pool_shelf.proofs.find_fit.Goals as goal

pub search-init : goal.search-init
search-init c =
    let x = c.args in
    let own = c.size_to_page_order-own.ensures in (
      omega (arith, own.result_lt_size_lists),
      refl,
      λ l prev t.
          ap (find (serving x.spare x.size x.order)) (sym (all-lists l t.sizes))
          ∙ from-own x.spare x.size x.order l (λ r m. (t.good r m).proper) _ (omega (arith, own.result_value)) (omega (arith, own.result_lt_size_lists)),
    )

-- the list that a turn goes along, by its number
abbrev this : In-search → ℕ
this c = c.size_to_page_order-own.result.0 + c.search.head-index

is-list : (c : In-search) → this c < size_lists
is-list c =
    let x = c.args.heads.now in
    let own = c.size_to_page_order-own.result.0 in
    omega (arith, c.search-test.true, c.size_to_page_order-own.ensures.result_lt_size_lists, length-take (12 - own) (drop own x), length-drop own x)

pub loop-cur-init : goal.loop-cur-init
loop-cur-init c =
    let x = c.args.heads.now in
    let own = c.size_to_page_order-own.result.0 in
    let i = c.search.head-index in
    let b = is-list (goal.at.loop-cur-init c).In-search in (
      c.search.invariant.1,
      λ l prev t. (
        _,
        walk-starts pool (lit≤ tt) (mark (serving _ _ _)) _ _ _ _ (runs pool l _ _ prev _ _ t (own + i)) 1 _
            (get_or-take (12 - own) (drop own x) i 0 (omega arith) ∙ get_or-drop own x i 0 ∙ t.firsts (own + i) b),
      ),
    )

-- in a turn, the walk stands at a range of the list
turn : (c : In-loop-cur) → let x = c.args in let k = this (goal.at.In-loop-cur c).In-search in let w = c.loop-cur in
    (l : List Range) (prev : List ℕ) (t : Shelved pool l x.start.now x.end.now prev x.next.now x.heads.now)
    → (b : ℕ) × Stands pool (lit≤ tt) (mark (serving x.spare x.size x.order)) (of_list k l) _ _ _ (runs pool l _ _ prev _ _ t k) 1 b w.cur.0
turn c l prev t =
    let w = c.loop-cur.invariant.1 l prev t in
    (w.0, stands pool (lit≤ tt) _ _ _ _ _ (runs pool l _ _ prev _ _ t (this (goal.at.In-loop-cur c).In-search)) 1 _ _ w.1 c.loop-cur-test.true)

good-here : (c : In-loop-cur) → let x = c.args in let l = c.loop-cur in Good pool (at x.start.now x.end.now l.cur.0)
good-here c =
    let u = c.requires.by_index in
    stands_good pool (lit≤ tt) _ _ _ _ _ (runs pool u.0 _ _ u.1 _ _ u.2 (this (goal.at.In-loop-cur c).In-search)) 1 _ _ (turn c u.0 u.1 u.2).1

pub fit_at-fit-requires-clause-good : goal.fit_at-fit-requires-clause-good
fit_at-fit-requires-clause-good c = good-here (goal.at.fit_at-fit-requires-clause-good c).In-loop-cur

-- whether the range where the walk stands can be served
told : (c : After-can_be_served) → let x = c.args in serving x.spare x.size x.order (at x.start.now x.end.now c.loop-cur.cur.0) ≡ c.can_be_served.result
told c =
    let x = c.args in
    ap (serves x.spare) (sym c.fit_at-fit.ensures) ∙ sym c.can_be_served.ensures

pub link_of-cur-requires : goal.link_of-cur-requires
link_of-cur-requires c =
    (good-here (goal.at.link_of-cur-requires c).In-loop-cur).known

pub loop-cur-smaller : goal.loop-cur-smaller
loop-cur-smaller c =
    let u = c.requires.by_index in
    let d = goal.at.loop-cur-smaller c in
    rw c.link_of-cur.ensures
    (walk-less pool (lit≤ tt) _ _ _ _ _ (runs pool u.0 _ _ u.1 _ _ u.2 (this d.In-search)) 1 _ _ (turn d.In-loop-cur u.0 u.1 u.2).1)

pub loop-cur-preserved : goal.loop-cur-preserved
loop-cur-preserved c =
    let x = c.args in
    let d = goal.at.loop-cur-preserved c in (
      c.loop-cur.invariant.0,
      λ l prev t. (
        c.loop-cur.cur.0,
        rw c.link_of-cur.ensures (walk-on pool (lit≤ tt) _ _ _ _ _ (runs pool l _ _ prev _ _ t (this d.In-search)) 1 _ _ (turn d.In-loop-cur l prev t).1
            (mark-off (serving x.spare x.size x.order) (at x.start.now x.end.now c.loop-cur.cur.0) (told d.After-can_be_served ∙ c.if-can_be_served.false))),
      ),
    )

pub search-preserved : goal.search-preserved
search-preserved c =
    let x = c.args in
    let d = c.search in
    let k = c.size_to_page_order-own.result.0 + d.head-index in
    let b = is-list (goal.at.search-preserved c).In-search in
    let e : size_lists - k - 1 ≡ size_lists - (k + 1) = omega arith in
    let q : k + 1 ≡ c.size_to_page_order-own.result.0 + (d.head-index + 1) = omega arith in (
      omega arith,
      c.loop-cur.invariant.0,
      λ l prev t.
          let w = c.loop-cur.invariant.1 l prev t in
          d.invariant.2 l prev t
          ∙ list-passed (serving x.spare x.size x.order) k (size_lists - k) l (omega arith)
          (walk-all pool (lit≤ tt) _ _ _ _ _ (runs pool l _ _ prev _ _ t k) 1 _ _ w.1 c.loop-cur-test.false)
          ∙ ap (λ (m : ℕ). find (serving x.spare x.size x.order) (lists (k + 1) m l)) e
          ∙ ap (λ (j : ℕ). find (serving x.spare x.size x.order) (lists j (size_lists - j) l)) q,
    )

pub returns-after-search : goal.returns-after-search
returns-after-search c l prev t =
    let d = c.search in
    let x = c.args in
    let own = c.size_to_page_order-own.result.0 in
    let k = own + d.head-index in
    let e : size_lists - k ≡ 0 = omega (arith, c.search-test.false, length-take (12 - own) (drop own x.heads.now), length-drop own x.heads.now) in
    d.invariant.1
    ∙ ap hit_of (sym (d.invariant.2 l prev t
    ∙ ap (λ (m : ℕ). find (serving x.spare x.size x.order) (lists k m l)) e
    ∙ list-end (serving x.spare x.size x.order) k l))

pub returns-then-can_be_served : goal.returns-then-can_be_served
returns-then-can_be_served c l prev t =
    let d = goal.at.returns-then-can_be_served c in
    let x = c.args in
    let k = this d.In-search in
    let b = is-list d.In-search in
    let w = (turn d.In-loop-cur l prev t).1 in
    let q = stands_at pool (lit≤ tt) _ _ _ _ _ (runs pool l _ _ prev _ _ t k) 1 _ _ w in
    ap Some (ap (λ (i : ℕ). record { 0 = i }) w.at_here)
    ∙ ap hit_of (sym (c.search.invariant.2 l prev t
    ∙ list_hit (serving x.spare x.size x.order) k (size_lists - k) l w.low w.here w.high (omega arith) w.parts w.smaller
    (ap (serving x.spare x.size x.order) (sym q) ∙ told d.After-can_be_served ∙ c.if-can_be_served.true)))
