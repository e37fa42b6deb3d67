-- What a state that holds a book shows of the chain. Assumes nothing.
use Prim.Native.Nat.{ℕ}
use Rattle.rules.specs.Rules.{start_of, Book}
use Rattle.pool_state.specs.Shown.{Gapped}
use Rattle.pool_state.specs.State.{Holds}
use Rattle.pool_state.specs.declared.MemoryAllocator.{MemoryAllocator}
use Rattle.pool_chain.specs.Chain.{Ordered, Placed}

module _ (n : ℕ) (b : Book) (s : MemoryAllocator) where
  pub chain-ordered : Holds n b s → Ordered n b.chain s.start s.end s.next s.first_entry.0
  chain-ordered h =
      let t = h.shape in
      record {
        runs = record {
          good = t.sound.good;
          stand = t.kept.stand;
          listed = t.chained.threads.listed 0;
          nexts = λ r m. t.chained.threads.nexts r.number (t.sound.good r m).known;
        };
        leads = t.chained.leads;
        apart = t.sound.apart;
        clear = λ i k f. (t.kept.clear i k f).0;
      }

  pub chain-placed : (x y a : ℕ) → Holds n b s → Gapped start_of b.chain a x y → Placed n b.chain s.start s.end x y a
  chain-placed x y a h g = record { good = h.shape.sound.good; stand = h.shape.kept.stand; apart = h.shape.sound.apart; gap = g }
