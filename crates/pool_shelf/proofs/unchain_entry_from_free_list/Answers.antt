use mathlib.Core.Path.{refl, ap, ◌∙◌}
use lib.Dec.{lit≤}
use Rattle.rules.specs.Rules.{list_number, of_list}
use Rattle.pool_state.specs.Shown.{pool, numbers, key_at}
use Rattle.pool_shelf.proofs.Shelf.{removed, in-key}
use Rattle.pool_shelf.proofs.unchain_entry_from_free_list.Goals as goal

pub get_size-requires : goal.get_size-requires
get_size-requires c =
    c.requires.1.shelved.good _ c.requires.1.member

pub link_of-a-requires : goal.link_of-a-requires
link_of-a-requires c =
    let u = c.requires in (u.1.shelved.good _ u.1.member).known

pub unlink-requires : goal.unlink-requires
unlink-requires c =
    let u = c.requires in (u.1.shelved.good _ u.1.member).known

pub returns : goal.returns
returns c l u =
    let a = c.args in
    removed pool _ _ _ _ _ _ l u (lit≤ tt) c.size_to_page_order-k.result.0 _ c.link_of-a.result.0 c.choose.result.0 _ _ _
    (c.size_to_page_order-k.ensures.result_value ∙ ap list_number c.get_size.ensures)
    refl c.link_of-a.ensures c.choose.ensures refl
    (c.unlink.ensures (key_at a.start.now a.end.now) (λ k. numbers (of_list k l)) u.shelved.threads (in-key pool l _ _ _ _ _ u.shelved _ u.member))
