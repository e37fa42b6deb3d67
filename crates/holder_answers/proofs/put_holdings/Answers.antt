use Prim.Native.Nat.{ℕ}
use mathlib.Core.Path.{refl, sym, ap, ◌∙◌}
use native.Mathlib.Omega.{arith}
use lib.Dec.{lit≤}
use Rattle.pool_state.specs.Shown.{pool}
use Rattle.calls.specs.Calls.{number_of}
use Rattle.calls.proofs.Numbers.{refusal-nonzero}
use Rattle.holder_check.proofs.Owned.{owned-register}
use Rattle.holder_answers.proofs.Listing.{refused_says, few-listed, counts, count-is, table-says, refusal-same, listed-as}
use Rattle.holder_answers.proofs.put_holdings.Goals as goal

pub returns-in-Err : goal.returns-in-Err
returns-in-Err c =
    refused_says pool _ _ _ (sym c.in-Err.is ∙ c.held.ensures) _ (c.number_of.ensures ∙ refusal-same _) _ _ _ _ (λ q. refusal-nonzero ℕ _ (sym (c.number_of.ensures ∙ refusal-same _) ∙ q)) c.put_no.ensures

pub returns-in-Err-holdings : goal.returns-in-Err-holdings
returns-in-Err-holdings c =
    absurd (refusal-nonzero ℕ _ (ap number_of (sym c.in-Err-holdings.is ∙ counts pool c.args.s c.args.whose _ (sym c.in-Ok.is ∙ c.held.ensures) _ refl refl (owned-register c.args.s _ c.well_formed.0) _ _ _ refl refl refl _ _ _ _ c.holdings.ensures)))

pub put_held-requires : goal.put_held-requires
put_held-requires c =
    let s = c.args.s in
    let l = listed-as pool s c.args.whose _ _ _ _ _ _ _ _ c.in-Ok-holdings.is c.holdings.ensures in
    let h = sym c.in-Ok.is ∙ c.held.ensures in
    let k = count-is pool s c.args.whose _ h _ refl refl (owned-register s _ c.well_formed.0) _ _ _ refl refl refl _ _ _ _ l in
    let f = few-listed pool s c.args.whose _ h _ refl refl (owned-register s _ c.well_formed.0) _ _ _ refl refl refl _ _ _ _ l in
    let r = c.requires in
    (omega arith, omega arith)

pub returns-in-Ok-holdings : goal.returns-in-Ok-holdings
returns-in-Ok-holdings c =
    let s = c.args.s in
    let l = listed-as pool s c.args.whose _ _ _ _ _ _ _ _ c.in-Ok-holdings.is c.holdings.ensures in
    table-says pool s c.args.whose _ (sym c.in-Ok.is ∙ c.held.ensures) _ refl refl (owned-register s _ c.well_formed.0) _ _ _ refl refl refl _ _ _ _ l _ _ _ _ (lit≤ tt) c.put_held.ensures
