use Prim.Native.Nat.{ℕ, ◌+◌, ◌-◌, ◌*◌, ◌^◌, ◌≤◌, ◌<◌}
use mathlib.Core.Path.{◌≡◌, sym, ◌∙◌, ap}
use native.Mathlib.Omega.{arith}
use Rattle.image_parts.specs.Read.{number_in}
use Rattle.image_parts.proofs.Lawful.{narrow}
use Rattle.image_parts.proofs.Loops.{part_length, part-read}
use Rattle.image_records.proofs.numbers.link_number_in.Goals as goal

pub overflow_mul-from : goal.overflow_mul-from
overflow_mul-from c =
    let room = c.requires.link_in_bounds in omega arith

pub overflow_add-from : goal.overflow_add-from
overflow_add-from c =
    let room = c.requires.link_in_bounds in omega arith

pub overflow_add-from-then-width-eq2 : goal.overflow_add-from-then-width-eq2
overflow_add-from-then-width-eq2 c =
    let room = c.requires.link_in_bounds in omega arith

pub slice_bounds-read_pair-end : goal.slice_bounds-read_pair-end
slice_bounds-read_pair-end c =
    let room = c.requires.link_in_bounds in omega arith

pub read_pair-requires : goal.read_pair-requires
read_pair-requires c =
    let taken = c in
    let start = taken in
    let room = start.requires.link_in_bounds in
    part_length start.args.image.now (start.args.at + start.args.form.link * start.args.k) 2 (omega (arith, taken.if-width-eq2.true))

-- the greatest number of two bytes
greatest : (w x : ℕ) → w ≡ 2 → x < 256 ^ 2 → x ≤ 256 ^ w - 1
greatest w x e h = rw e (omega arith)

pub returns-then-width-eq2 : goal.returns-then-width-eq2
returns-then-width-eq2 c =
    let taken = c in
    let start = taken in
    let two = taken.if-width-eq2.true in
    let room = start.requires.link_in_bounds in
    let l = start.args.image.now in
    let from = start.args.at + start.args.form.link * start.args.k in
    record { value = part-read l from 2 (omega arith) _ c.read_pair.ensures.value ∙ ap (number_in l from) (sym two); fits = greatest _ _ two c.read_pair.ensures.fits }

pub overflow_add-from-2 : goal.overflow_add-from-2
overflow_add-from-2 c =
    let room = c.requires.link_in_bounds in omega arith

pub slice_bounds-read_be-end : goal.slice_bounds-read_be-end
slice_bounds-read_be-end c =
    let room = c.requires.link_in_bounds in omega arith

pub read_be-requires : goal.read_be-requires
read_be-requires c =
    let start = c in
    let small = narrow start.args.form start.requires.lawful in
    let size = part_length start.args.image.now (start.args.at + start.args.form.link * start.args.k) start.args.form.link start.requires.link_in_bounds in
    omega arith

pub returns : goal.returns
returns c =
    let start = c in
    let w = start.args.form.link in
    let l = start.args.image.now in
    let from = start.args.at + w * start.args.k in
    let fits = rw (part_length l from w start.requires.link_in_bounds) at c.read_be.ensures.fits in
    record { value = part-read l from w start.requires.link_in_bounds _ c.read_be.ensures.value; fits = omega arith }
