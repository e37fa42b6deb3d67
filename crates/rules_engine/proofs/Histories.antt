-- Calls that are made otherwise than in one list: demand 3 holds of them too, where they leave the states and vouchers of lists of calls. Assumes nothing.
use mathlib.Core.List.{List, [], ◌∷◌, ◌++◌}
use mathlib.Core.Path.{◌≡◌, refl, ap, subst}
use Rattle.rules.specs.Rules.{Call, Voucher}
use Rattle.rules_engine.specs.Engine.{Engine, after, vouchers}
use Rattle.rules_engine.specs.Demand.{DemandOf}

-- a list of calls, and another behind it
module _ (e : Engine) where
  pub after-append : (s : e.State) (cs ds : List Call) → after e s (cs ++ ds) ≡ after e (after e s cs) ds
  unfolding after
  after-append s [] ds = refl
  after-append s (c ∷ cs) ds = after-append (e.next c s) cs ds

  pub vouchers-append : (s : e.State) (cs ds : List Call) → vouchers e s (cs ++ ds) ≡ vouchers e s cs ++ vouchers e (after e s cs) ds
  unfolding after vouchers
  vouchers-append s [] ds = refl
  vouchers-append s (c ∷ cs) ds = ap (λ (l : List Voucher). e.answer c s ∷ l) (vouchers-append (e.next c s) cs ds)

-- each history of one kind leaves and keeps what some history of the other does
module _ (e : Engine) (H K : Type 0) (left : H → e.State) (kept : H → List Voucher) (left' : K → e.State) (kept' : K → List Voucher) (of : K → H) where
  through : DemandOf e H left kept → DemandOf e K (λ k. left (of k)) (λ k. kept (of k))
  through d = record {
    always-sound = λ k. d.always-sound (of k);
    free_bytes = λ k. d.free_bytes (of k);
    total-counts = λ k. d.total-counts (of k);
    covers-only = λ k. d.covers-only (of k);
    same-ranges = λ k m. d.same-ranges (of k) (of m);
    same-shelves = λ k m. d.same-shelves (of k) (of m);
    handed-back = λ k. d.handed-back (of k);
  }

  pub carried : ((k : K) → left (of k) ≡ left' k) → ((k : K) → kept (of k) ≡ kept' k) → DemandOf e H left kept → DemandOf e K left' kept'
  carried same_left same_kept d =
      let p : (λ k. left (of k)) ≡ left' = (λ i k. same_left k i) in
      let q : (λ k. kept (of k)) ≡ kept' = (λ i k. same_kept k i) in
      subst (λ (l : K → e.State). DemandOf e K l kept') p (subst (λ (l : K → List Voucher). DemandOf e K (λ k. left (of k)) l) q (through d))
