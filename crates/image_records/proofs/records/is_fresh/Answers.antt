use native.Mathlib.Omega.{arith}
use Rattle.image_records.proofs.Tests.{fresh_start, fresh-end, fresh-links}
use Rattle.image_records.proofs.records.is_fresh.Goals as goal

pub word_in-requires : goal.word_in-requires
word_in-requires c =
    let room = c.requires.form_in_bounds in omega arith

pub returns-then-word_in-ne0 : goal.returns-then-word_in-ne0
returns-then-word_in-ne0 c =
    let read = c in
    fresh_start read.args.form read.args.image.now read.args.at _ read.word_in.ensures c.if-word_in-ne0.true

pub overflow_add-at : goal.overflow_add-at
overflow_add-at c =
    let room = c.requires.form_in_bounds in omega arith

pub word_in-requires-2 : goal.word_in-requires-2
word_in-requires-2 c =
    let room = c.requires.form_in_bounds in omega arith

pub returns-then-word_in-ne0-2 : goal.returns-then-word_in-ne0-2
returns-then-word_in-ne0-2 c =
    let read = c in
    let tested = read in
    let start = tested.args in
    fresh-end start.form start.image.now start.at _ tested.word_in.ensures tested.if-word_in-ne0.false _ read.word_in-2.ensures c.if-word_in-ne0-2.true

pub overflow_add-at-2 : goal.overflow_add-at-2
overflow_add-at-2 c =
    let room = c.requires.form_in_bounds in omega arith

pub is_unlinked-requires : goal.is_unlinked-requires
is_unlinked-requires c =
    let start = c in let room = start.requires.form_in_bounds in record { lawful = start.requires.lawful; link_in_bounds = omega arith }

pub returns : goal.returns
returns c =
    let read = c in
    let tested = read in
    let start = tested.args in
    fresh-links start.form start.image.now start.at _ tested.word_in.ensures tested.if-word_in-ne0.false _ read.word_in-2.ensures c.if-word_in-ne0-2.false _ c.is_unlinked.ensures
