use Prim.Native.Nat.{◌+◌, ◌*◌}
use mathlib.Core.Path.{refl}
use Rattle.holder_image.specs.Layout.{entries_at, entry_size}
use Rattle.holder_image.proofs.Parts.{entry-within}
use Rattle.holder_image.proofs.entries.entry_at.Goals as goal

pub returns : goal.returns
returns c =
    let s = c in let x = s.args in entry-within x.image.now x.i (entries_at + entry_size * x.i) s.requires.1 s.requires.0 refl _ c.read_entry.ensures
