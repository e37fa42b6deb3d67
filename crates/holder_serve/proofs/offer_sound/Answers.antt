use Prim.Native.Nat.{◌+◌}
use mathlib.Core.Path.{sym, ◌∙◌}
use Rattle.rules.specs.Rules.{any, meets, Free}
use Rattle.memory_allocator.specs.Names.{pool}
use Rattle.holder_rules.specs.Register.{held}
use Rattle.holder_rules.specs.Holders.{offer}
use Rattle.holder_serve.proofs.Ladders.{four, five, followed, memory-sound}
use Rattle.holder_serve.proofs.offer_sound.Goals as goal

pub serve_sound-served-requires : goal.serve_sound-served-requires
serve_sound-served-requires c =
    let s = c in memory-sound pool s.args.s s.requires

pub returns-then-is_invalid_request : goal.returns-then-is_invalid_request
unfolding offer
returns-then-is_invalid_request c =
    let n = c in let w = n in let x = w.args in
    four pool x.s (Free x.address.0 x.size) _ w.serve_sound-served.ensures (any (meets x.address.0 (x.address.0 + x.size)) (held x.s.register.entries)) x.s.register.entries (sym n.is_invalid_request.ensures ∙ c.if-is_invalid_request.true)

pub returns-then-meets_held : goal.returns-then-meets_held
unfolding offer
returns-then-meets_held c =
    let t = c in let n = t in let w = n in let x = w.args in
    five pool x.s (Free x.address.0 x.size) _ w.serve_sound-served.ensures (any (meets x.address.0 (x.address.0 + x.size)) (held x.s.register.entries)) x.s.register.entries (sym n.is_invalid_request.ensures ∙ t.if-is_invalid_request.false) (sym c.meets_held.ensures ∙ c.if-meets_held.true)

pub returns : goal.returns
unfolding offer
returns c =
    let m = c in let t = m in let n = t in let w = n in let x = w.args in
    c.follow.ensures
    ∙ followed pool x.s (Free x.address.0 x.size) _ w.serve_sound-served.ensures (any (meets x.address.0 (x.address.0 + x.size)) (held x.s.register.entries)) x.s.register.entries (sym n.is_invalid_request.ensures ∙ t.if-is_invalid_request.false) (sym m.meets_held.ensures ∙ m.if-meets_held.false)
