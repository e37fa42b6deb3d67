use mathlib.Core.Path.{◌∙◌, ap}
use native.Mathlib.Omega.{arith}
use lib.IntN.{ℤ}
use mir.Syntax.{w64}
use mir.Facts.{to_z-of_z}
use Rattle.mapper.specs.Maps.{left}
use Rattle.mapper.proofs.Passes.{wrong-length, wrong-numbers, right-registers, sum_fits, lies-asks, map-asks, lies-wrong, lies-right}
use Rattle.mapper.proofs.cinghjalofa_map_address_stage2.Goals as goal

pub returns-then-image-ne-IMAGE : goal.returns-then-image-ne-IMAGE
returns-then-image-ne-IMAGE c =
    let s = c.args in
    wrong-length s.base s.vttbr s.vtcr s.physical_address s.intermediate_physical_address s.map_size s.is_readable s.is_writable s.image.now s.arena.now c.if-image-ne-IMAGE.true

pub returns-then-bad : goal.returns-then-bad
returns-then-bad c =
    let s = c.args in
    wrong-numbers s.base s.vttbr s.vtcr s.physical_address s.intermediate_physical_address s.map_size s.is_readable s.is_writable s.image.now s.arena.now c.if-image-ne-IMAGE.false _ c.bad_numbers-bad.ensures c.if-bad.true

pub top_of-top-requires : goal.top_of-top-requires
top_of-top-requires c =
    let s = c.args in
    right-registers s.base s.vttbr s.vtcr s.physical_address s.intermediate_physical_address s.map_size s.is_readable s.is_writable s.image.now s.arena.now c.if-image-ne-IMAGE.false _ c.bad_numbers-bad.ensures c.if-bad.false

pub all_lies-requires : goal.all_lies-requires
all_lies-requires c =
    let s = c.args in
    lies-asks s.base s.vttbr s.vtcr s.physical_address s.intermediate_physical_address s.map_size s.is_readable s.is_writable s.image.now s.arena.now c.if-image-ne-IMAGE.false _ c.bad_numbers-bad.ensures c.if-bad.false _ c.top_of-top.ensures

pub overflow_add-q : goal.overflow_add-q
overflow_add-q c =
    let s = c.args in
    let fits = sum_fits s.base s.vttbr s.vtcr s.physical_address s.intermediate_physical_address s.map_size s.is_readable s.is_writable s.image.now s.arena.now c.if-image-ne-IMAGE.false _ c.bad_numbers-bad.ensures c.if-bad.false in
    omega arith

pub map_lying-requires : goal.map_lying-requires
map_lying-requires c =
    let s = c.args in
    map-asks s.base s.vttbr s.vtcr s.physical_address s.intermediate_physical_address s.map_size s.is_readable s.is_writable s.image.now s.arena.now c.if-image-ne-IMAGE.false _ c.bad_numbers-bad.ensures c.if-bad.false _ c.top_of-top.ensures

pub returns-then-all_lies : goal.returns-then-all_lies
returns-then-all_lies c =
    let s = c.args in
    ap (λ (i : ℤ). left i c.map_lying.new.image c.map_lying.new.arena) (to_z-of_z {w = w64} (record { sfits = c.map_lying.type_inv }))
    ∙ lies-right s.base s.vttbr s.vtcr s.physical_address s.intermediate_physical_address s.map_size s.is_readable s.is_writable s.image.now s.arena.now c.if-image-ne-IMAGE.false _ c.bad_numbers-bad.ensures c.if-bad.false _ c.top_of-top.ensures _ c.all_lies.ensures c.if-all_lies.true _ c.permission_of.ensures _ c.map_lying.ensures

pub returns : goal.returns
returns c =
    let s = c.args in
    lies-wrong s.base s.vttbr s.vtcr s.physical_address s.intermediate_physical_address s.map_size s.is_readable s.is_writable s.image.now s.arena.now c.if-image-ne-IMAGE.false _ c.bad_numbers-bad.ensures c.if-bad.false _ c.top_of-top.ensures _ c.all_lies.ensures c.if-all_lies.false
