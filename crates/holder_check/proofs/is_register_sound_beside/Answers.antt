use native.Mathlib.Omega.{arith}
use mathlib.Core.Path.{sym, ◌∙◌}
use Rattle.holder_check.proofs.Entries.{entry-sound, entry-unsound, all_sound}
use Rattle.holder_check.proofs.is_register_sound_beside.Goals as goal

pub returns-then-not-is_entry_sound : goal.returns-then-not-is_entry_sound
returns-then-not-is_entry_sound g c =
    λ free t. sym (c.loop-i.invariant free t ∙ entry-unsound free c.args.register.now.entries c.loop-i.i (omega arith) (sym (c.is_entry_sound.ensures free t) ∙ c.if-not-is_entry_sound.true))

pub loop-i-preserved : goal.loop-i-preserved
loop-i-preserved g c =
    λ free t. c.loop-i.invariant free t ∙ entry-sound free c.args.register.now.entries c.loop-i.i (omega arith) (sym (c.is_entry_sound.ensures free t) ∙ c.if-not-is_entry_sound.false)

pub returns : goal.returns
returns g c =
    λ free t. sym (c.loop-i.invariant free t ∙ all_sound free c.args.register.now.entries c.loop-i.i (omega arith))
