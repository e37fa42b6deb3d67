use Prim.Native.Nat.{ℕ}
use mathlib.Core.Path.{refl, ap, ◌∙◌}
use lib.Dec.{lit≤}
use Rattle.linked_lists.specs.Links.{head}
use Rattle.rules.specs.Rules.{list_number, of_list}
use Rattle.pool_state.specs.Shown.{pool, numbers, key_at}
use Rattle.pool_shelf.proofs.Shelf.{runs, placed, between}
use Rattle.pool_shelf.proofs.chain_entry_to_free_list.Goals as goal

pub find_gap-gap-requires : goal.find_gap-gap-requires
find_gap-gap-requires c =
    let u = c.requires in
    let q = c.size_to_page_order-k.ensures in
    (of_list c.size_to_page_order-k.result.0 u.0, runs pool u.0 _ _ _ _ _ u.1.shelved _, u.1.shelved.firsts _ q.result_lt_size_lists)

pub returns : goal.returns
returns c l u =
    let a = c.args in
    let ek = c.size_to_page_order-k.ensures.result_value ∙ ap list_number c.get_size-z.ensures in
    let t = u.shelved in
    let g = c.find_gap-gap.ensures (of_list (key_at a.start.now a.end.now a.i.0) l) (runs pool l _ _ _ _ _ t _)
    (t.firsts _ c.size_to_page_order-k.ensures.result_lt_size_lists ∙ ap (λ (k : ℕ). head (numbers (of_list k l))) ek) in
    placed pool (lit≤ tt) _ _ _ _ _ _ l u _ _ _ c.get_size-z.ensures g
    c.size_to_page_order-k.result.0 _ c.choose.result.0 _ _ _
    ek refl c.choose.ensures refl
    (c.link_between.ensures (key_at a.start.now a.end.now) (λ k. numbers (of_list k l)) _ _ t.threads
    (between pool (lit≤ tt) _ _ _ _ _ _ l u _ _ _ c.get_size-z.ensures g))
