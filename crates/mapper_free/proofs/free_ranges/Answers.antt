use mathlib.Core.Path.{refl, sym, ap, ◌∙◌}
use Rattle.account_state.specs.declared.Account.{Account}
use Rattle.pool_state.specs.Shown.{pool}
use Rattle.linked_lists.proofs.Laws.{true≢false}
use Rattle.mapper_free.proofs.Ranges.{read-ordered}
use Rattle.mapper_free.proofs.free_ranges.Goals as goal

pub read_current-readable-requires : goal.read_current-readable-requires
read_current-readable-requires c =
    c.new-state.ensures

pub list_in-requires : goal.list_in-requires
list_in-requires c =
    let read = c.read_current-readable.ensures in
    (_, read-ordered _ _ (sym read.told ∙ c.if-readable.true) (ap (λ (a : Account). a.ranges) (read.state c.if-readable.true)))

pub returns-then-readable : goal.returns-then-readable
returns-then-readable c =
    let read = c.read_current-readable.ensures in
    let good = sym read.told ∙ c.if-readable.true in
    record {
      unsound = λ bad. absurd (true≢false (sym good ∙ bad));
      sound = λ _. c.list_in.ensures _ (read-ordered _ _ good (ap (λ (a : Account). a.ranges) (read.state c.if-readable.true)));
    }

pub returns : goal.returns
returns c =
    record { unsound = λ _. refl; sound = λ good. absurd (true≢false (sym good ∙ sym c.read_current-readable.ensures.told ∙ c.if-readable.false)) }
