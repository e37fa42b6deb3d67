use Rattle.std.proofs.Common.{ℕ, ◌+◌, ltb, sym, ap, ◌∙◌}
use Rattle.mapper_words.proofs.word_meets.Goals as goal

pub returns-then-met : goal.returns-then-met
returns-then-met c =
    let args = c.args in
    rw (ap (λ (y : ℕ). ltb args.q.from (args.e + y)) (sym c.span_of.ensures) ∙ sym c.below_sum-met.ensures ∙ c.if-met.true)

pub returns : goal.returns
returns c =
    let args = c.args in
    rw (ap (λ (y : ℕ). ltb args.q.from (args.e + y)) (sym c.span_of.ensures) ∙ sym c.below_sum-met.ensures ∙ c.if-met.false)
