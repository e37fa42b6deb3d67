use mathlib.Core.List.{List, []}
use Prim.Native.Nat.{ℕ}
use mathlib.Core.Path.{ap, ◌∙◌}
use lib.IntN.{ℤ}
use Rattle.image_parts.specs.Layout.{current}
use Rattle.rules.specs.Rules.{Free}
use Rattle.c_over.specs.Images.{images}
use Rattle.holder_image.specs.Bytes.{bytes_of_lem, memory_in, register_in_lem, holding_in}
use Rattle.holder_calls.specs.Calls.{Settles}
use native.Mathlib.Omega.{arith}
use lib.ListN.{set}
use Rattle.holder_rules.specs.Register.{blank}
use Rattle.holder_rules.specs.Holders.{both, give_back_lem}
use Rattle.holder_rules.specs.declared.Entry.{Entry}
use Rattle.holder_entries.proofs.Says.{handed-none, handed-any, handed-stores}
use Rattle.holder_calls.proofs.Settled.{served-length}
use Rattle.holder_calls.proofs.Machine.{held, is-four, not-four, tested}
use Rattle.holder_calls.proofs.Settled.{give-four, give-five, give-other, give-done}
use Rattle.holder_calls.proofs.settle.settle_free.Goals.{Start}
use Rattle.holder_calls.proofs.settle.settle_free.Goals as goal

abbrev Given : Start → List ℕ → ℤ → Type 0
Given s l' y = let x = s.args in Settles current (Free x.address.0 x.size) (give_back_lem (images current []) x.holder.0 x.address.0 x.size (holding_in x.image.now)) x.image.now x.answer y l'

pub returns-then-answer-eq-INVALID_REQUEST : goal.returns-then-answer-eq-INVALID_REQUEST
returns-then-answer-eq-INVALID_REQUEST c =
    let s = c in let x = s.args in held x.answer s.ranges.answer (Given (goal.at.returns-then-answer-eq-INVALID_REQUEST s).Start x.image.now) (give-four current x.image.now x.register.now.entries x.answer x.address.0 x.size s.requires x.holder.0 (is-four x.answer s.ranges.answer c.if-answer-eq-INVALID_REQUEST.true))

pub returns-in_default : goal.returns-in_default
returns-in_default c =
    let p = c in let e = p in let s = e in let x = s.args in
    give-five current x.image.now x.register.now.entries x.answer x.address.0 x.size s.requires x.holder.0 (not-four x.answer e.if-answer-eq-INVALID_REQUEST.false) (handed-none x.holder.0 x.address.0 x.size x.register.now.entries _ p.find_handed.ensures c.in_default.is)

pub returns-then-answer-lt0 : goal.returns-then-answer-lt0
returns-then-answer-lt0 c =
    let i = c in let p = i in let e = p in let s = e in let x = s.args in
    held x.answer s.ranges.answer (Given (goal.at.returns-then-answer-lt0 s).Start x.image.now) (give-other current x.image.now x.register.now.entries x.answer x.address.0 x.size s.requires x.holder.0 (not-four x.answer e.if-answer-eq-INVALID_REQUEST.false) (handed-any x.holder.0 x.address.0 x.size x.register.now.entries _ p.find_handed.ensures _ i.in-Some.is) (tested x.answer s.ranges.answer _ c.if-answer-lt0.true))

pub put_entry-requires : goal.put_entry-requires
put_entry-requires c =
    let i = c in let p = i in let s = p in let x = s.args in
    let n = served-length current _ _ s.requires.serves in let h = (handed-stores x.holder.0 x.address.0 x.size x.register.now.entries _ p.find_handed.ensures _ i.in-Some.is).within in
    (s.requires.serves.front, omega arith)

pub returns : goal.returns
returns c =
    let w = c in let u = w in let v = u in let i = v in let p = i in let e = p in let s = e in let x = s.args in
    let found = handed-stores x.holder.0 x.address.0 x.size x.register.now.entries _ p.find_handed.ensures _ i.in-Some.is in
    held x.answer s.ranges.answer (Given (goal.at.returns s).Start _) (give-done current x.image.now x.register.now.entries x.answer x.address.0 x.size s.requires x.holder.0 (handed-any x.holder.0 x.address.0 x.size x.register.now.entries _ p.find_handed.ensures _ i.in-Some.is) (tested x.answer s.ranges.answer _ v.if-answer-lt0.false) i.in-Some.i.0 blank (found.stored blank) _
    (w.put_entry.ensures ∙ ap (λ (q : Entry). bytes_of_lem current (both (memory_in x.image.now) (set (register_in_lem x.image.now) i.in-Some.i.0 q))) u.unused_entry.ensures))
