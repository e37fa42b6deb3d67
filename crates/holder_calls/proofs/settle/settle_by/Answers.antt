use mathlib.Core.List.{List, []}
use Prim.Native.Nat.{ℕ}
use borrow.Author.Rules.{rules}
use mathlib.Core.Path.{◌≡◌, sym, subst, ◌∙◌}
use lib.IntN.{ℤ}
use mir.Syntax.{w64}
use mir.Val.{to_z, of_z}
use Rattle.image_parts.specs.Layout.{current}
use Rattle.c_over.specs.Images.{images}
use Rattle.calls.specs.Calls.{call_of}
use Rattle.holder_image.specs.Bytes.{holding_in}
use Rattle.holder_calls.specs.Calls.{Asks, Settles}
use Rattle.calls.specs.declared.Request.{Request}
use Rattle.holder_rules.specs.Holders.{asked}
use Rattle.holder_calls.proofs.Machine.{as-held, held}
use Rattle.holder_calls.proofs.Settled.{same_answer, takes-settled, by-settled, not_known}
use Rattle.holder_calls.proofs.settle.settle_by.Goals.{Start}
use Rattle.holder_calls.proofs.settle.settle_by.Goals as goal

-- the call of the request that was told, and its outcome
asked-as : (s : Start) (q : Request) → s.args.request ≡ q → let x = s.args in Asks current (call_of q) x.image.now x.register.now.entries (to_z w64 (of_z w64 x.answer))
asked-as s q e =
    let x = s.args in
    held x.answer s.ranges.answer (λ (y : ℤ). Asks current (call_of q) x.image.now x.register.now.entries y) (subst (λ (r : Request). Asks current (call_of r) x.image.now x.register.now.entries x.answer) e s.requires)

abbrev Asked : Start → List ℕ → ℤ → Request → Type 0
Asked s l' y r = let x = s.args in Settles current (call_of r) (asked (images current []) x.holder.0 (call_of r) (holding_in x.image.now)) x.image.now x.answer y l'

pub returns-then-not-is_known : goal.returns-then-not-is_known
returns-then-not-is_known c =
    let x = c.args in not_known current x.image.now x.answer x.answer x.image.now x.holder.0 (call_of x.request) (sym c.is_known.ensures ∙ c.if-not-is_known.true)

pub settle_free-requires : goal.settle_free-requires
settle_free-requires c =
    asked-as (goal.at.settle_free-requires c).Start _ c.in-Free.is

pub returns-in-Free : goal.returns-in-Free
unfolding asked
returns-in-Free c =
    let x = c.args in
    by-settled current x.image.now x.answer _ _ x.holder.0 (call_of x.request) (sym c.is_known.ensures ∙ c.if-not-is_known.false)
    (held c.settle_free.result (record { sfits = c.settle_free.type_inv }) (λ (y : ℤ). Asked (goal.at.returns-in-Free c).Start c.settle_free.new.image y x.request)
    (subst (Asked (goal.at.returns-in-Free c).Start c.settle_free.new.image c.settle_free.result) (sym c.in-Free.is)
    (same_answer current _ _ x.image.now _ x.answer c.settle_free.result c.settle_free.new.image (as-held x.answer c.ranges.answer) c.settle_free.ensures)))

pub returns-in-Allocate : goal.returns-in-Allocate
returns-in-Allocate c =
    let x = c.args in
    by-settled current x.image.now x.answer _ _ x.holder.0 (call_of x.request) (sym c.is_known.ensures ∙ c.if-not-is_known.false)
    (held c.settle_take.result (record { sfits = c.settle_take.type_inv }) (λ (y : ℤ). Asked (goal.at.returns-in-Allocate c).Start c.settle_take.new.image y x.request)
    (takes-settled current x.image.now x.answer c.settle_take.result c.settle_take.new.image x.holder.0 (call_of x.request) (search rules)
    (same_answer current _ _ x.image.now _ x.answer c.settle_take.result c.settle_take.new.image (as-held x.answer c.ranges.answer) c.settle_take.ensures)))
