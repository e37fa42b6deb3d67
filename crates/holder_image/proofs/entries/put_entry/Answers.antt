use native.Mathlib.Omega.{arith}
use Rattle.image_parts.specs.Layout.{current}
use Rattle.holder_image.proofs.Rounds.{headed-length}
use Rattle.holder_image.proofs.Put.{entry-put}
use Rattle.holder_image.proofs.entries.put_entry.Goals as goal

pub slice_bounds-write_entry-end : goal.slice_bounds-write_entry-end
slice_bounds-write_entry-end c =
    let k = c in let s = k in let n = headed-length current s.args.image.now (λ i b. (k.type_inv.image i).fits) s.requires.0 in let b = s.requires.1 in
    omega arith

pub returns : goal.returns
returns c =
    let w = c in let k = w in let s = k in let x = s.args in
    entry-put current x.image.now (λ i b. (k.slice_known-1.given i).fits) s.requires.0 x.i.0 s.requires.1 x.e _ w.write_entry.ensures
