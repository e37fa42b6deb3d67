use Rattle.std.proofs.Common.{sym, ◌∙◌}
use Rattle.mapper_words.proofs.Leaves.{too-low, cut_off, too-high, whole, positive, remainders}
use Rattle.mapper_words.proofs.word_fits.Goals as goal

pub returns-then-e-q : goal.returns-then-e-q
returns-then-e-q c =
    too-low c.args.q _ _ c.if-e-q.true

pub returns-then-cut : goal.returns-then-cut
returns-then-cut c =
    cut_off c.args.q _ _ _ c.span_of-bytes.ensures c.if-e-q.false (sym c.below_sum-cut.ensures ∙ c.if-cut.true)

pub returns-then-height-gt2 : goal.returns-then-height-gt2
returns-then-height-gt2 c =
    too-high c.args.q _ _ _
    c.span_of-bytes.ensures c.if-e-q.false (sym c.below_sum-cut.ensures ∙ c.if-cut.false) c.if-height-gt2.true

pub nonzero_rem-result : goal.nonzero_rem-result
nonzero_rem-result c =
    positive _ _ c.span_of-bytes.ensures

pub nonzero_rem-result-2 : goal.nonzero_rem-result-2
nonzero_rem-result-2 c =
    positive _ _ c.span_of-bytes.ensures

pub overflow_add-result : goal.overflow_add-result
overflow_add-result c =
    record { fits = remainders _ _ c.span_of-bytes.ensures _ _ }

pub nonzero_rem-result-3 : goal.nonzero_rem-result-3
nonzero_rem-result-3 c =
    positive _ _ c.span_of-bytes.ensures

pub returns : goal.returns
returns c =
    whole c.args.q _ _ _
    c.span_of-bytes.ensures c.if-e-q.false (sym c.below_sum-cut.ensures ∙ c.if-cut.false) c.if-height-gt2.false
