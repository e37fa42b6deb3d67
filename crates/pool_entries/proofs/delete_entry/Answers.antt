use mathlib.Core.Path.{refl}
use lib.Dec.{lit≤}
use Rattle.pool_entries.proofs.Books.{drop-removes, drop-below, drop-has, drop-shape}
use Rattle.pool_entries.proofs.delete_entry.Goals as goal

pub unchain_entry_from_free_list-requires : goal.unchain_entry_from_free_list-requires
unchain_entry_from_free_list-requires c =
    let u = c.requires in
    (u.0.shelf, drop-removes (lit≤ tt) u.2)

pub unchain-requires : goal.unchain-requires
unchain-requires c =
    drop-below (lit≤ tt) c.requires.2

pub bounds-f-n : goal.bounds-f-n
bounds-f-n c =
    drop-below (lit≤ tt) c.requires.2

pub bounds-f-n-2 : goal.bounds-f-n-2
bounds-f-n-2 c =
    drop-below (lit≤ tt) c.requires.2

pub bounds-f-n-3 : goal.bounds-f-n-3
bounds-f-n-3 c =
    drop-below (lit≤ tt) c.requires.2

pub returns-clause-does : goal.returns-clause-does
returns-clause-does c = (
  refl,
  λ b r k.
      drop-shape (lit≤ tt) k
      (c.unchain.ensures b.chain k.shape.chained (drop-has (lit≤ tt) k))
      (c.unchain_entry_from_free_list.ensures b.shelf (drop-removes (lit≤ tt) k)),
)
