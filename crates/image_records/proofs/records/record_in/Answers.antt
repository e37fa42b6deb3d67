use mathlib.Core.Bool.{true}
use native.Mathlib.Omega.{arith}
use Rattle.image_records.proofs.Rooms.{link-room}
use Rattle.image_records.proofs.records.record_in.Goals as goal

pub word_in-requires : goal.word_in-requires
word_in-requires c =
    let room = c.requires.form_in_bounds in omega arith

pub overflow_add-at : goal.overflow_add-at
overflow_add-at c =
    let room = c.requires.form_in_bounds in omega arith

pub word_in-requires-2 : goal.word_in-requires-2
word_in-requires-2 c =
    let room = c.requires.form_in_bounds in omega arith

pub overflow_add-at-2 : goal.overflow_add-at-2
overflow_add-at-2 c =
    let room = c.requires.form_in_bounds in omega arith

pub link_in-requires : goal.link_in-requires
link_in-requires c =
    let start = c in let room = start.requires.form_in_bounds in record { lawful = start.requires.lawful; link_in_bounds = link-room _ _ 0 _ (omega arith) (omega arith) }

pub overflow_add-at-3 : goal.overflow_add-at-3
overflow_add-at-3 c =
    let room = c.requires.form_in_bounds in omega arith

pub link_in-requires-2 : goal.link_in-requires-2
link_in-requires-2 c =
    let start = c in let room = start.requires.form_in_bounds in record { lawful = start.requires.lawful; link_in_bounds = link-room _ _ 1 _ (omega arith) (omega arith) }

pub overflow_add-at-4 : goal.overflow_add-at-4
overflow_add-at-4 c =
    let room = c.requires.form_in_bounds in omega arith

pub link_in-requires-3 : goal.link_in-requires-3
link_in-requires-3 c =
    let start = c in let room = start.requires.form_in_bounds in record { lawful = start.requires.lawful; link_in_bounds = link-room _ _ 2 _ (omega arith) (omega arith) }

pub overflow_add-at-5 : goal.overflow_add-at-5
overflow_add-at-5 c =
    let room = c.requires.form_in_bounds in omega arith

pub link_in-requires-4 : goal.link_in-requires-4
link_in-requires-4 c =
    let start = c in let room = start.requires.form_in_bounds in record { lawful = start.requires.lawful; link_in_bounds = link-room _ _ 3 _ (omega arith) (omega arith) }

pub returns : goal.returns
returns c =
    let c₃ = c in
    let c₂ = c₃ in
    let c₁ = c₂ in
    let c₀ = c₁ in
    let starts = c₀.word_in.ensures in
    let ends = c₀.word_in-2.ensures in
    let previous = c₁.link_in.ensures in
    let next = c₂.link_in-2.ensures in
    let lprev = c₃.link_in-3.ensures in
    let lnext = c.link_in-4.ensures in
    (λ z. record {
      start = record { 0 = starts z };
      end = record { 0 = ends z };
      enabled = true;
      previous = record { 0 = previous z };
      next = record { 0 = next z };
      list_prev = record { 0 = lprev z };
      list_next = record { 0 = lnext z };
    })
