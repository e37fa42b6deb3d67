use native.Mathlib.Omega.{arith}
use Prim.Native.Nat.{suc, ◌+◌, ◌-◌}
use mathlib.Core.Bool.{Bool, cond}
use mathlib.Core.Path.{◌≡◌, sym, ap, ◌∙◌}
use Rattle.rules.specs.Rules.{size}
use Rattle.holder_rules.specs.Register.{range_of}
use Rattle.holder_lists.proofs.Answers.{belongs-used}
use Rattle.holder_lists.proofs.size_held.Goals as goal

pub overflow_sub-result : goal.overflow_sub-result
overflow_sub-result c =
    let t = c in let n = t in let s = n in let x = s.args in
    (s.requires (belongs-used x.whose x.e (sym n.belongs_to.ensures ∙ t.if-belongs_to.true))).0

pub overflow_add-result : goal.overflow_add-result
overflow_add-result c =
    let t = c in let n = t in let s = n in let x = s.args in
    let p = s.requires (belongs-used x.whose x.e (sym n.belongs_to.ensures ∙ t.if-belongs_to.true)) in omega arith

pub returns-then-belongs_to : goal.returns-then-belongs_to
returns-then-belongs_to c =
    let t = c in let n = t in let s = n in let x = s.args in
    let q = sym n.belongs_to.ensures ∙ t.if-belongs_to.true in
    let p = s.requires (belongs-used x.whose x.e q) in
    (let e : x.e.last.0 - x.e.start.0 + 1 ≡ suc x.e.last.0 - x.e.start.0 = omega arith in e) ∙ sym (ap (λ (t : Bool). cond t (size (range_of x.e)) 0) q)

pub returns : goal.returns
returns c =
    let x = c.args in sym (ap (λ (t : Bool). cond t (size (range_of x.e)) 0) (sym c.belongs_to.ensures ∙ c.if-belongs_to.false))
