use Prim.Native.Nat.{◌-◌}
use native.Mathlib.Omega.{arith}
use lib.ListN.{length, length-drop}
use Rattle.pool_state.specs.Shown.{pool}
use Rattle.image_parts.specs.Layout.{current}
use Rattle.image_parts.proofs.Lawful.{lawful-current}
use Rattle.holder_rules.specs.Holders.{below}
use Rattle.holder_serve.specs.Made.{requested}
use Rattle.holder_image.specs.Layout.{memory_at}
use Rattle.holder_calls.proofs.Machine.{as-held, tested}
use Rattle.holder_calls.proofs.Fields.{fields-sound, called-number, same-call, memory-size, refused-left, part-size, part-stands, accepted-left}
use Rattle.holder_calls.proofs.over.serve_held.Goals as goal

pub answer_in-answer-requires : goal.answer_in-answer-requires
answer_in-answer-requires c =
    let s = c in fields-sound current lawful-current s.args.image.now _ s.requires.held_in

pub settle-settled-requires : goal.settle-settled-requires
settle-settled-requires c =
    let an = c in let asked = an in let s = asked in let x = s.args in
    record { serves = s.requires.serves; answer = called-number current lawful-current x.image.now _ s.requires.held_in _ _ _ (same-call pool _ (below (requested x.request)) _ _ _ _ asked.asked_below-call.ensures (as-held an.answer_in-answer.result (record { sfits = an.answer_in-answer.type_inv })) an.answer_in-answer.ensures) }

pub returns-then-settled-lt0 : goal.returns-then-settled-lt0
returns-then-settled-lt0 c =
    let st = c in let an = st in let asked = an in let s = asked in let x = s.args in
    refused-left current lawful-current x.image.now _ s.requires.held_in _ _ _ (same-call pool _ (below (requested x.request)) _ _ _ _ asked.asked_below-call.ensures (as-held an.answer_in-answer.result (record { sfits = an.answer_in-answer.type_inv })) an.answer_in-answer.ensures) _ _ _ st.settle-settled.ensures (tested st.settle-settled.result (record { sfits = st.settle-settled.type_inv }) _ c.if-settled-lt0.true) _ (as-held st.settle-settled.result (record { sfits = st.settle-settled.type_inv }))

pub slice_bounds-write_fields-count : goal.slice_bounds-write_fields-count
slice_bounds-write_fields-count c =
    let st = c in let an = st in let asked = an in let s = asked in let x = s.args in
    let m = memory-size current lawful-current x.image.now _ s.requires.held_in _ _ _ (same-call pool _ (below (requested x.request)) _ _ _ _ asked.asked_below-call.ensures (as-held an.answer_in-answer.result (record { sfits = an.answer_in-answer.type_inv })) an.answer_in-answer.ensures) _ _ _ st.settle-settled.ensures in let d = length-drop memory_at st.settle-settled.new.image in omega arith

pub slice_bounds-write_fields-start : goal.slice_bounds-write_fields-start
slice_bounds-write_fields-start c =
    let st = c in let an = st in let asked = an in let s = asked in let x = s.args in
    let m = memory-size current lawful-current x.image.now _ s.requires.held_in _ _ _ (same-call pool _ (below (requested x.request)) _ _ _ _ asked.asked_below-call.ensures (as-held an.answer_in-answer.result (record { sfits = an.answer_in-answer.type_inv })) an.answer_in-answer.ensures) _ _ _ st.settle-settled.ensures in let d = length-drop memory_at st.settle-settled.new.image in omega arith

pub slice_bounds-write_fields-end : goal.slice_bounds-write_fields-end
slice_bounds-write_fields-end c =
    let st = c in let an = st in let asked = an in let s = asked in let x = s.args in
    let m = memory-size current lawful-current x.image.now _ s.requires.held_in _ _ _ (same-call pool _ (below (requested x.request)) _ _ _ _ asked.asked_below-call.ensures (as-held an.answer_in-answer.result (record { sfits = an.answer_in-answer.type_inv })) an.answer_in-answer.ensures) _ _ _ st.settle-settled.ensures in let d = length-drop memory_at st.settle-settled.new.image in omega arith

pub write_fields-requires : goal.write_fields-requires
write_fields-requires c =
    let st = c in let an = st in let asked = an in let s = asked in let x = s.args in
    record { image_len = part-size current lawful-current x.image.now _ s.requires.held_in _ _ _ (same-call pool _ (below (requested x.request)) _ _ _ _ asked.asked_below-call.ensures (as-held an.answer_in-answer.result (record { sfits = an.answer_in-answer.type_inv })) an.answer_in-answer.ensures) _ _ _ st.settle-settled.ensures (length st.settle-settled.new.image - memory_at) (omega arith); stands = λ _. part-stands current lawful-current x.image.now _ s.requires.held_in _ _ _ (same-call pool _ (below (requested x.request)) _ _ _ _ asked.asked_below-call.ensures (as-held an.answer_in-answer.result (record { sfits = an.answer_in-answer.type_inv })) an.answer_in-answer.ensures) _ _ _ st.settle-settled.ensures (length st.settle-settled.new.image - memory_at) (omega arith) s.requires.serves.bytes }

pub returns : goal.returns
returns c =
    let w = c in let e = w in let st = e in let an = st in let asked = an in let s = asked in let x = s.args in
    accepted-left current lawful-current x.image.now _ s.requires.held_in _ _ _ (same-call pool _ (below (requested x.request)) _ _ _ _ asked.asked_below-call.ensures (as-held an.answer_in-answer.result (record { sfits = an.answer_in-answer.type_inv })) an.answer_in-answer.ensures) _ _ _ st.settle-settled.ensures (length st.settle-settled.new.image - memory_at) (omega arith) (tested st.settle-settled.result (record { sfits = st.settle-settled.type_inv }) _ e.if-settled-lt0.false) _ w.write_fields.ensures _ (as-held st.settle-settled.result (record { sfits = st.settle-settled.type_inv }))
