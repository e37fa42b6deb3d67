use mathlib.Core.Path.{sym, ◌∙◌, ap}
use native.Mathlib.Omega.{arith}
use lib.IntN.{ℤ}
use mir.Syntax.{w64}
use mir.Facts.{to_z-of_z}
use Rattle.mapper.specs.Maps.{left}
use Rattle.mapper.proofs.Passes.{fresh-copy, way-blocked, all-stored, no-page}
use Rattle.mapper.proofs.map_lying.Goals as goal

pub block_in-blocked-requires : goal.block_in-blocked-requires
block_in-blocked-requires c =
    let p = c.requires in let most = p.2 in (p.1, omega arith, p.3)

pub returns-then-blocked : goal.returns-then-blocked
returns-then-blocked c =
    let s = c.args in way-blocked s.q s.first s.top s.image.now s.arena.now _ c.block_in-blocked.ensures c.if-blocked.true

pub copy_from_slice-requires : goal.copy_from_slice-requires
copy_from_slice-requires c =
    fresh-copy ∙ sym c.requires.0

pub ask_in-enough-requires : goal.ask_in-enough-requires
ask_in-enough-requires c =
    let p = c.requires in let most = p.2 in (p.1, omega arith, p.3)

pub store_in-requires : goal.store_in-requires
store_in-requires c =
    let p = c.requires in let most = p.2 in (p.1, omega arith, p.3)

pub returns-then-enough : goal.returns-then-enough
returns-then-enough c =
    let s = c.args in
    all-stored s.q s.first s.top s.image.now s.arena.now _ c.block_in-blocked.ensures c.if-blocked.false _ _ c.copy_from_slice.ensures.after _ c.ask_in-enough.ensures c.if-enough.true _ _ c.store_in.ensures

pub returns : goal.returns
returns c =
    let s = c.args in
    ap (λ (i : ℤ). left i s.image.now s.arena.now) (to_z-of_z {w = w64} (record { sfits = c.take_page.type_inv }))
    ∙ no-page s.q s.first s.top s.image.now s.arena.now _ c.block_in-blocked.ensures c.if-blocked.false _ _ c.copy_from_slice.ensures.after _ c.ask_in-enough.ensures c.if-enough.false c.take_page.result _ c.take_page.ensures
