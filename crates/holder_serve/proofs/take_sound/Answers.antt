use native.Mathlib.Omega.{arith}
use mathlib.Core.Path.{sym, ap, ◌∙◌, subst}
use lib.Dec.{lit≤}
use Prim.Native.Nat.{ℕ}
use Rattle.std.specs.Prelude.{Err}
use Rattle.memory_allocator.specs.Names.{pool, call_of, number_of, address_of}
use Rattle.holder_rules.specs.Register.{enter}
use Rattle.holder_rules.specs.Holders.{piece}
use Rattle.holder_rules.specs.declared.Entry.{Entry}
use Rattle.holder_entries.proofs.Says.{unused-none, unused-stores, unused-not-full}
use Rattle.holder_check.proofs.Owned.{owned-memory, owned-register}
use Rattle.holder_serve.specs.Pieces.{Moves}
use Rattle.holder_serve.specs.declared.HolderError.{HolderError}
use Rattle.holder_serve.proofs.Ladders.{with, take-refused, take-full, take-entered, memory-sound}
use Rattle.holder_serve.proofs.Accepted.{accepted-told}
use Rattle.holder_serve.proofs.take_sound.Goals as goal

pub serve_sound-served-requires : goal.serve_sound-served-requires
serve_sound-served-requires c =
    let s = c in memory-sound pool s.args.s s.requires.0

pub returns-in-Err : goal.returns-in-Err
returns-in-Err c =
    let x = c.args in
    ap (λ (e : HolderError). with (Err e) x.s) c.into.ensures ∙ take-refused pool x.s x.holder.0 (call_of x.request) _ c.serve_sound-served.ensures _ c.in-Err.is

pub returns-in_default : goal.returns-in_default
returns-in_default c =
    let x = c.args in
    take-full pool x.s x.holder.0 (call_of x.request) _ c.serve_sound-served.ensures (ap number_of c.in-Ok.is)
    (unused-none x.s.register.entries _ c.find_unused.ensures c.in_default.is)

pub piece_of-entry-requires : goal.piece_of-entry-requires
piece_of-entry-requires c =
    let x = c.args in
    subst (Moves (call_of x.request)) (ap address_of c.in-Ok.is)
    (accepted-told pool (lit≤ tt) x.s.memory (owned-memory x.s _ c.well_formed.0) (memory-sound pool x.s c.requires.0) (call_of x.request) c.requires.1 _ c.serve_sound-served.ensures
    (ap number_of c.in-Ok.is))

pub with_entry-next-requires : goal.with_entry-next-requires
with_entry-next-requires c =
    let i = c in let p = i in let s = p in let x = s.args in
    let l = owned-register x.s _ s.well_formed.0 in
    let h = (unused-stores x.s.register.entries _ _ p.find_unused.ensures i.in-Some.is).within in
    omega arith

pub returns : goal.returns
returns c =
    let x = c.args in
    let found = unused-stores x.s.register.entries _ _ c.find_unused.ensures c.in-Some.is in
    c.follow.ensures
    ∙ take-entered pool x.s x.holder.0 (call_of x.request) _ c.serve_sound-served.ensures (ap number_of c.in-Ok.is)
    (unused-not-full x.s.register.entries _ _ c.find_unused.ensures c.in-Some.is) _
    (c.with_entry-next.ensures ∙ found.stored _ ∙ ap (λ (y : Entry). enter y x.s.register.entries) (c.piece_of-entry.ensures ∙ ap (λ (y : ℕ). piece x.holder.0 (call_of x.request) y) (ap address_of (sym c.in-Ok.is))))
