use mathlib.Core.Path.{refl}
use lib.Dec.{lit≤}
use Rattle.rules.specs.Rules.{without}
use Rattle.pool_state.specs.Shown.{pool}
use Rattle.pool_shelf.proofs.Shelf.{resize_places, resized}
use Rattle.pool_shelf.proofs.resize.Goals as goal

pub chain_entry_to_free_list-requires : goal.chain_entry_to_free_list-requires
chain_entry_to_free_list-requires c =
    let u = c.requires in
    (without _ u.0, resize_places pool (lit≤ tt) _ _ _ _ _ _ _ _ u.0 u.1 _ _ _ (c.unchain_entry_from_free_list.ensures u.0 u.1.removes))

pub returns : goal.returns
returns c =
    record {
      start_value = (refl, refl);
      resized = λ l u.
          resized pool (lit≤ tt) _ _ _ _ _ _ _ _ l u _ _ _
          (c.chain_entry_to_free_list.ensures (without _ l) (resize_places pool (lit≤ tt) _ _ _ _ _ _ _ _ l u _ _ _ (c.unchain_entry_from_free_list.ensures l u.removes)));
    }
