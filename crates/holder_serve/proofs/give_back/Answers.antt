use native.Mathlib.Omega.{arith}
use mathlib.Core.Bool.{not}
use mathlib.Core.Path.{sym, ap, ◌∙◌}
use lib.ListN.{set}
use Rattle.rules.specs.Rules.{any, Free}
use Rattle.memory_allocator.specs.Names.{pool}
use Rattle.holder_rules.specs.Register.{blank, held, yours, leave}
use Rattle.holder_rules.specs.Holders.{give_back_lem}
use Rattle.holder_rules.specs.declared.Entry.{Entry}
use Rattle.holder_entries.proofs.Says.{handed-none, handed-any, handed-stores}
use Rattle.holder_check.proofs.Owned.{owned-register}
use Rattle.holder_serve.proofs.Ladders.{four, five, followed-with, memory-sound}
use Rattle.holder_serve.proofs.give_back.Goals as goal

pub serve_sound-served-requires : goal.serve_sound-served-requires
serve_sound-served-requires c =
    let s = c in memory-sound pool s.args.s s.requires

pub returns-then-is_invalid_request : goal.returns-then-is_invalid_request
unfolding give_back_lem
returns-then-is_invalid_request c =
    let n = c in let w = n in let x = w.args in
    four pool x.s (Free x.address.0 x.size) _ w.serve_sound-served.ensures (not (any (yours x.holder.0 x.address.0 x.size) (held x.s.register.entries))) (leave x.holder.0 x.address.0 x.size x.s.register.entries) (sym n.is_invalid_request.ensures ∙ c.if-is_invalid_request.true)

pub returns-in_default : goal.returns-in_default
unfolding give_back_lem
returns-in_default c =
    let p = c in let t = p in let n = t in let w = n in let x = w.args in
    five pool x.s (Free x.address.0 x.size) _ w.serve_sound-served.ensures (not (any (yours x.holder.0 x.address.0 x.size) (held x.s.register.entries))) (leave x.holder.0 x.address.0 x.size x.s.register.entries) (sym n.is_invalid_request.ensures ∙ t.if-is_invalid_request.false)
    (ap not (handed-none x.holder.0 x.address.0 x.size x.s.register.entries _ p.find_handed.ensures c.in_default.is))

pub with_entry-next-requires : goal.with_entry-next-requires
with_entry-next-requires c =
    let i = c in let p = i in let s = p in let x = s.args in
    let l = owned-register x.s _ s.well_formed.0 in
    let h = (handed-stores x.holder.0 x.address.0 x.size x.s.register.entries _ p.find_handed.ensures _ i.in-Some.is).within in
    omega arith

pub returns : goal.returns
unfolding give_back_lem
returns c =
    let e = c in let u = e in let i = u in let p = i in let t = p in let n = t in let w = n in let x = w.args in
    let found = handed-stores x.holder.0 x.address.0 x.size x.s.register.entries _ p.find_handed.ensures _ i.in-Some.is in
    c.follow.ensures
    ∙ followed-with pool x.s (Free x.address.0 x.size) _ w.serve_sound-served.ensures (not (any (yours x.holder.0 x.address.0 x.size) (held x.s.register.entries)))
    (leave x.holder.0 x.address.0 x.size x.s.register.entries) (sym n.is_invalid_request.ensures ∙ t.if-is_invalid_request.false)
    (ap not (handed-any x.holder.0 x.address.0 x.size x.s.register.entries _ p.find_handed.ensures _ i.in-Some.is)) _
    (e.with_entry-next.ensures ∙ ap (λ (q : Entry). set x.s.register.entries i.in-Some.i.0 q) u.unused_entry.ensures ∙ found.stored blank)
