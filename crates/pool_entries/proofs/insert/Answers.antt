use mathlib.Core.Path.{refl}
use lib.Dec.{lit≤}
use Rattle.pool_entries.proofs.Books.{insert-enters, insert_places, insert-shape}
use Rattle.pool_entries.proofs.insert.Goals as goal

pub chain_entry_to_free_list-requires : goal.chain_entry_to_free_list-requires
chain_entry_to_free_list-requires c =
    let u = c.requires in
    (u.0.shelf, insert_places (lit≤ tt) u.1)

pub returns-clause-does : goal.returns-clause-does
returns-clause-does c = (
  refl,
  λ b k.
      insert-shape (lit≤ tt) k
      (c.enchain.ensures _ _ _ refl (insert-enters (lit≤ tt) k))
      (c.chain_entry_to_free_list.ensures b.shelf (insert_places (lit≤ tt) k)),
)
