use mathlib.Core.Path.{sym, ◌∙◌}
use Rattle.pool_state.specs.Shown.{pool}
use Rattle.script_forms.proofs.Turns.{register-replies, opening-replies, plain-replies, memory-holds, not_plain}
use Rattle.script_forms.proofs.answer_any.Goals as goal

pub answer_holder_line-requires : goal.answer_holder_line-requires
answer_holder_line-requires c =
    let s = c in record { sound_words = s.requires.sound_in.whole (not_plain _ c.if-forms-eq-REGISTER.true); pool_in_bounds = s.requires.pool_in_bounds }

pub returns-then-forms-eq-REGISTER : goal.returns-then-forms-eq-REGISTER
returns-then-forms-eq-REGISTER c =
    register-replies pool _ _ _ _ _ c.if-forms-eq-REGISTER.true _ _ _ c.answer_holder_line.ensures

pub returns-then-begins_register : goal.returns-then-begins_register
returns-then-begins_register c =
    opening-replies pool _ _ _ _ _ c.if-forms-eq-REGISTER.false (sym c.begins_register.ensures ∙ c.if-begins_register.true) c.requires.pool_in_bounds

pub answer_line-requires : goal.answer_line-requires
answer_line-requires c =
    memory-holds pool _ c.requires.sound_in

pub returns : goal.returns
returns c =
    plain-replies pool _ _ _ _ _ c.if-forms-eq-REGISTER.false (sym c.begins_register.ensures ∙ c.if-begins_register.false) c.requires.pool_in_bounds _ _ _ c.answer_line.ensures
