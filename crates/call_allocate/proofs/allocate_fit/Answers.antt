use Prim.Native.Nat.{ℕ}
use mathlib.Core.Bool.{Bool, true, false}
use mathlib.Core.Logic.{◌≢◌}
use mathlib.Core.Path.{◌≡◌, refl, sym, ◌∙◌, subst}
use lib.Dec.{T, eqb, eqb→eq}
use borrow.Author.Tests.{eq-eqb, not-true, not-false}
use Rattle.std.specs.Prelude.{Ok, Err}
use Rattle.std.specs.Result.{result_eq}
use Rattle.rules.specs.Rules.{Book}
use Rattle.pool_state.specs.State.{Holds}
use Rattle.pool_state.specs.Lent.{lent_state}
use Rattle.pool_state.specs.Shown.{pool}
use Rattle.pool_state.specs.contracts.AddressPartialEq as address
use Rattle.calls.specs.contracts.MemoryErrorPartialEq as error
use Rattle.calls.specs.Calls.{Answer, number_of}
use Rattle.calls.specs.declared.MemoryError.{MemoryError}
use Rattle.calls.specs.declared.MemoryError.TheVariants.{NoEntry, InvalidEntry, NoMemory, InvalidRequest}
use Rattle.calls.proofs.Endings.{refusal, same_answer}
use Rattle.call_allocate.specs.Fit.{allocate_first_lem}
use Rattle.call_allocate.proofs.Looking.{held, once, wanted, none-plain, plain}
use Rattle.call_allocate.proofs.allocate_fit.Goals.{Else-ne}
use Rattle.call_allocate.proofs.allocate_fit.Goals as goal

-- an answer is the same as another where `==` says so
abbrev same : Answer → MemoryError → Bool
same x e = result_eq (address.TheImpl.eq-value).it (error.TheImpl.eq-value).it x (Err e)

is-no-entry : (x : Answer) → same x NoEntry ≡ eqb (number_of x) 1
is-no-entry (Ok a) = refl
is-no-entry (Err NoEntry) = refl
is-no-entry (Err InvalidEntry) = refl
is-no-entry (Err NoMemory) = refl
is-no-entry (Err InvalidRequest) = refl

is-no-memory : (x : Answer) → same x NoMemory ≡ eqb (number_of x) 3
is-no-memory (Ok a) = refl
is-no-memory (Err NoEntry) = refl
is-no-memory (Err InvalidEntry) = refl
is-no-memory (Err NoMemory) = refl
is-no-memory (Err InvalidRequest) = refl

numbered : (n k : ℕ) → eqb n k ≡ true → n ≡ k
numbered n k e = eqb→eq n k (subst T (sym e) tt)

unnumbered : (n k : ℕ) → eqb n k ≡ false → n ≢ k
unnumbered n k e q = let z : true ≡ false = sym (eq-eqb n k q) ∙ e in cc

-- the first search has answered 1
one : (c : Else-ne) (b : Book) → let x = c.args in Holds pool b (lent_state x.f.now) → (allocate_first_lem pool true x.size x.order b).number ≡ 1
one c b h = sym (c.allocate_first-any.ensures.does b h).number ∙ numbered _ 1 (sym (is-no-entry c.allocate_first-any.result) ∙ not-false _ (sym c.ne.ensures ∙ c.if-ne.false))

pub returns-then-ne-clause-does : goal.returns-then-ne-clause-does
returns-then-ne-clause-does c b h =
    let e = c.allocate_first-any.ensures.does b h in
    same_answer pool _ _ _ _ (once pool _ _ b (λ q. unnumbered _ 1 (sym (is-no-entry c.allocate_first-any.result) ∙ not-true _ (sym c.ne.ensures ∙ c.if-ne.true)) (e.number ∙ q))) e

pub allocate_first-plain-requires : goal.allocate_first-plain-requires
allocate_first-plain-requires c =
    let u = c.requires in
    record { holds_some = (_, (c.allocate_first-any.ensures.does u.holds_some.0 u.holds_some.1).book); size_nonzero = u.size_nonzero }

pub returns-then-eq-clause-does : goal.returns-then-eq-clause-does
returns-then-eq-clause-does c b h =
    let i = one (goal.at.returns-then-eq-clause-does c).Else-ne b h in
    let g = c.allocate_first-plain.ensures.does b (held pool 1 b _ _ _ (wanted pool _ _ b i).0 (c.allocate_first-any.ensures.does b h)) in
    let w = none-plain pool _ _ b i (sym g.number ∙ numbered _ 3 (sym (is-no-memory c.allocate_first-plain.result) ∙ sym c.eq.ensures ∙ c.if-eq.true)) in
    refusal pool 1 b _ (Err NoEntry) _ w.1 refl refl (held pool 3 b _ _ _ w.0 g)

pub returns-clause-does : goal.returns-clause-does
returns-clause-does c b h =
    let i = one (goal.at.returns-clause-does c).Else-ne b h in
    let g = c.allocate_first-plain.ensures.does b (held pool 1 b _ _ _ (wanted pool _ _ b i).0 (c.allocate_first-any.ensures.does b h)) in
    same_answer pool _ _ _ _ (plain pool _ _ b i (λ q. unnumbered _ 3 (sym (is-no-memory c.allocate_first-plain.result) ∙ sym c.eq.ensures ∙ c.if-eq.false) (g.number ∙ q))) g
