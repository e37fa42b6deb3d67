use native.Mathlib.Omega.{arith}
use mathlib.Core.Path.{refl, sym, ◌∙◌}
use lib.ListN.{drop}
use Rattle.holder_check.proofs.Entries.{good-bounds, unused-sound, meets-free, last-test}
use Rattle.holder_check.proofs.is_entry_sound.Goals as goal

pub returns-then-not-is_used : goal.returns-then-not-is_used
returns-then-not-is_used g c =
    let x = c.args in
    λ free t. unused-sound free x.e (drop x.next x.register.now.entries) (sym c.is_good.ensures ∙ c.if-not-is_good.false) (sym c.is_used.ensures ∙ c.if-not-is_used.true)

pub meets_free-requires : goal.meets_free-requires
meets_free-requires g c =
    let b = good-bounds c.args.e (sym c.is_used.ensures ∙ c.if-not-is_used.false) (sym c.is_good.ensures ∙ c.if-not-is_good.false) in
    c.requires _ _ b.0 b.1

pub returns-then-meets_free : goal.returns-then-meets_free
returns-then-meets_free g c =
    let x = c.args in
    let good = sym c.is_good.ensures ∙ c.if-not-is_good.false in let used = sym c.is_used.ensures ∙ c.if-not-is_used.false in
    let b = good-bounds x.e used good in
    λ free t. meets-free free x.e (drop x.next x.register.now.entries) good used (sym (t _ _ _ b.0 b.1 c.meets_free.ensures) ∙ c.if-meets_free.true)

pub overflow_sub-size : goal.overflow_sub-size
overflow_sub-size g c =
    (good-bounds c.args.e (sym c.is_used.ensures ∙ c.if-not-is_used.false) (sym c.is_good.ensures ∙ c.if-not-is_good.false)).0

pub overflow_add-size : goal.overflow_add-size
overflow_add-size g c =
    let b = good-bounds c.args.e (sym c.is_used.ensures ∙ c.if-not-is_used.false) (sym c.is_good.ensures ∙ c.if-not-is_good.false) in
    omega arith

pub returns : goal.returns
returns g c =
    let x = c.args in
    let good = sym c.is_good.ensures ∙ c.if-not-is_good.false in let used = sym c.is_used.ensures ∙ c.if-not-is_used.false in
    let b = good-bounds x.e used good in
    λ free t. last-test free x.e (drop x.next x.register.now.entries) good used (sym (t _ _ _ b.0 b.1 c.meets_free.ensures) ∙ c.if-meets_free.false) _ refl _ c.meets_held.ensures
