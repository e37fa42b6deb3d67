use mathlib.Core.List.{List, []}
use Prim.Native.Nat.{ℕ}
use mathlib.Core.Path.{sym, ap, ◌∙◌, subst}
use lib.IntN.{ℤ}
use mir.Syntax.{w64}
use mir.Val.{to_z, of_z}
use Rattle.image_parts.specs.Layout.{current}
use Rattle.c_over.specs.Images.{images}
use Rattle.calls.specs.Calls.{call_of}
use Rattle.holder_image.specs.Bytes.{memory_in, holding_in}
use Rattle.holder_calls.specs.Calls.{Settles}
use native.Mathlib.Omega.{arith}
use Rattle.image_parts.proofs.Lawful.{figured-current}
use Rattle.calls.specs.Calls.{address_from}
use Rattle.c_over.specs.CCalls.{returned, call_over_lem}
use Rattle.holder_rules.specs.Register.{enter}
use Rattle.holder_rules.specs.Holders.{piece, take}
use Rattle.holder_rules.specs.declared.Entry.{Entry}
use Rattle.holder_entries.proofs.Says.{unused-none, unused-stores, unused-not-full}
use Rattle.holder_calls.proofs.Settled.{served-length}
use Rattle.holder_serve.specs.Pieces.{Moves}
use Rattle.holder_calls.proofs.Machine.{as-held, held, tested}
use Rattle.holder_calls.proofs.Pieces.{call-moves, part_bytes, not_negative, address-fits}
use Rattle.holder_calls.proofs.Settled.{called, take-other, take-six, take_done}
use Rattle.holder_calls.proofs.settle.settle_take.Goals.{Start}
use Rattle.holder_calls.proofs.settle.settle_take.Goals as goal

abbrev Taken : Start → List ℕ → ℤ → Type 0
Taken s l' y = let x = s.args in Settles current (call_of x.request) (take (images current []) x.holder.0 (call_of x.request) (holding_in x.image.now)) x.image.now x.answer y l'

pub returns-then-answer-lt0 : goal.returns-then-answer-lt0
returns-then-answer-lt0 c =
    let s = c in let x = s.args in held x.answer s.ranges.answer (Taken (goal.at.returns-then-answer-lt0 s).Start x.image.now) (take-other current x.image.now x.register.now.entries x.answer x.holder.0 (call_of x.request) s.requires.0 (tested x.answer s.ranges.answer _ c.if-answer-lt0.true))

pub returns-in_default : goal.returns-in_default
returns-in_default c =
    let p = c in let e = p in let s = e in let x = s.args in
    take-six current x.image.now x.register.now.entries x.answer x.holder.0 (call_of x.request) s.requires.0 (tested x.answer s.ranges.answer _ e.if-answer-lt0.false) (unused-none x.register.now.entries _ p.find_unused.ensures c.in_default.is)

pub overflow_cast-answer : goal.overflow_cast-answer
overflow_cast-answer c =
    let e = c in let s = e in address-fits s.args.answer _ (as-held s.args.answer s.ranges.answer) s.ranges.answer e.if-answer-lt0.false

pub piece_of-entry-requires : goal.piece_of-entry-requires
piece_of-entry-requires c =
    let e = c in let s = e in let x = s.args in
    subst (Moves (call_of x.request)) (sym (not_negative (to_z w64 (of_z w64 x.answer)) e.if-answer-lt0.false))
    (call-moves current figured-current (memory_in x.image.now) (part_bytes x.image.now s.requires.0.serves.bytes) x.register.now.entries s.requires.0.serves.sound (call_of x.request) s.requires.1 (to_z w64 (of_z w64 x.answer)) _
    (ap (λ (y : ℤ). returned y (call_over_lem current (call_of x.request) (memory_in x.image.now)).bytes) (as-held x.answer s.ranges.answer) ∙ called current (call_of x.request) x.image.now x.register.now.entries x.answer s.requires.0) e.if-answer-lt0.false)

pub put_entry-requires : goal.put_entry-requires
put_entry-requires c =
    let i = c in let p = i in let s = p in let x = s.args in
    let n = served-length current _ _ s.requires.0.serves in let h = (unused-stores x.register.now.entries _ _ p.find_unused.ensures i.in-Some.is).within in
    (s.requires.0.serves.front, omega arith)

pub returns : goal.returns
returns c =
    let w = c in let q = w in let i = q in let p = i in let e = p in let s = e in let x = s.args in
    let found = unused-stores x.register.now.entries _ _ p.find_unused.ensures i.in-Some.is in
    held x.answer s.ranges.answer (Taken (goal.at.returns s).Start _) (take_done current x.image.now x.register.now.entries x.answer x.holder.0 (call_of x.request) s.requires.0 (tested x.answer s.ranges.answer _ e.if-answer-lt0.false) (unused-not-full x.register.now.entries _ _ p.find_unused.ensures i.in-Some.is) _ _
    (found.stored _ ∙ ap (λ (y : Entry). enter y x.register.now.entries) (q.piece_of-entry.ensures ∙ ap (λ (y : ℕ). piece x.holder.0 (call_of x.request) y) (not_negative (to_z w64 (of_z w64 x.answer)) e.if-answer-lt0.false ∙ ap address_from (as-held x.answer s.ranges.answer)))) _ w.put_entry.ensures)
