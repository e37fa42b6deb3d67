-- The arrays of a state that is held by value have the places that their types say: `good` of a place of its owner's proof shows `Is`.
use mathlib.Core.List.{[], ◌∷◌}
use mathlib.Core.Path.{◌≡◌}
use mir.Val.{Val}
use denote.Laws.{Is}
use denote.Struct.Laws as LL
use lib.ListN.{length}
use Rattle.memory_allocator.specs.Names.{pool}
use Rattle.check_meaning.specs.Paragraph.{Sized}
use Rattle.check_meaning.proofs.Owned.{owned-sized}
use Rattle.holder_rules.specs.Register.{entries}
use Rattle.holder_rules.specs.declared.HolderAllocator.{HolderAllocator}
use Rattle.holder_rules.proofs.Owned.{owned-entries}
use Rattle.holder_rules.specs.contracts.HolderAllocator as H
use Rattle.holder_rules.proofs.HolderAllocator.TheLaws as H'

pub owned-memory : (s : HolderAllocator) (w : Val) → Is H.the_row s (w ∷ []) → Sized pool s.memory
owned-memory s w is = owned-sized s.memory _ (LL.owed H.the_type H'.the_laws s _ is).0

pub owned-register : (s : HolderAllocator) (w : Val) → Is H.the_row s (w ∷ []) → length s.register.entries ≡ entries
owned-register s w is = owned-entries s.register _ (LL.owed H.the_type H'.the_laws s _ is).1.0
