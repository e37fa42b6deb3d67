use borrow.Author.Rules.{rules}
use mathlib.Core.Path.{sym, ap, ◌∙◌}
use Rattle.calls.specs.declared.Request.{Request}
use Rattle.calls.specs.Calls.{call_of}
use Rattle.memory_allocator.specs.Names.{pool}
use Rattle.memory_allocator.specs.States.{states}
use Rattle.holder_rules.specs.Holders.{asked}
use Rattle.holder_rules.specs.States.{holding_of}
use Rattle.holder_serve.specs.Made.{held}
use Rattle.holder_serve.proofs.Ladders.{no-holder, by-holder, takes-asked}
use Rattle.holder_serve.proofs.serve_by.Goals as goal

pub returns-then-not-is_known : goal.returns-then-not-is_known
returns-then-not-is_known c =
    let x = c.args in no-holder pool x.s x.holder.0 (call_of x.request) (sym c.is_known.ensures ∙ c.if-not-is_known.true)

pub returns-in-Free : goal.returns-in-Free
unfolding asked
returns-in-Free c =
    let x = c.args in
    c.give_back.ensures
    ∙ ap (λ (r : Request). held (asked (states pool) x.holder.0 (call_of r) (holding_of x.s))) (sym c.in-Free.is)
    ∙ by-holder pool x.s x.holder.0 (call_of x.request) (sym c.is_known.ensures ∙ c.if-not-is_known.false)

pub returns-in-Allocate : goal.returns-in-Allocate
returns-in-Allocate c =
    let x = c.args in
    c.take_sound.ensures
    ∙ ap held (takes-asked pool x.holder.0 (call_of x.request) (holding_of x.s) (search rules))
    ∙ by-holder pool x.s x.holder.0 (call_of x.request) (sym c.is_known.ensures ∙ c.if-not-is_known.false)
