-- The lowest figure of every engine that obeys the rules and notes it: each sentence is shown from any state of a sound book on; the first
-- state is one. Assumes nothing.
use Prim.Native.Nat.{ℕ, ◌≤◌}
use mathlib.Core.Bool.{Bool, true, false, cond}
use mathlib.Core.List.{List, [], ◌∷◌}
use mathlib.Core.Logic.{◌≢◌}
use mathlib.Core.Path.{◌≡◌, refl, sym, ap, ◌∙◌, subst}
use lib.Dec.{eqb}
use borrow.Author.Tests.{eqb-true, eqb-false}
use Rattle.rules.specs.Rules.{Book, empty, total, sum, Answer, Call, Voucher, voucher, step}
use Rattle.rules.specs.Sound.{Sound}
use Rattle.rules_engine.specs.Engine.{Engine, after, vouchers}
use Rattle.rules_engine.specs.Demand.{left}
use Rattle.rules_engine.proofs.Obeys.{Obeys}
use Rattle.rules_engine.proofs.Demand.{Stands, stands-next, answer-is, first, left-stands}
use Rattle.rules_lowest.specs.Lowest.{never, less, noted, low_sound, counted, sums, least}
use Rattle.rules_lowest.specs.Carried.{LowestOf, Lowest, CountsFrom}
use Rattle.rules_lowest.proofs.Totals.{refused-total, accepted-total}
use Rattle.rules_lowest.proofs.Least.{noted-refused, noted-le, noted-sound}

-- what is to be shown of the figure, one call at a time: the first state has 2^64-1, and a call notes the total that it leaves
pub record Carries {n : ℕ} {e : Engine} (f : Obeys n e) (low : e.State → ℕ) : Type 0 where
  pub begins : low e.new ≡ never
  pub notes : (b : Book) (s : e.State) (c : Call) → Sound n b → f.Of b s → low (e.next c s) ≡ noted (step n c b).number (total (step n c b).book) (low s)

-- one call more, before the others: by its voucher, and by the book
module _ (n : ℕ) (b : Book) (c : Call) (s : Sound n b) (low : ℕ) (vs : List Voucher) where
  abbrev w : Answer
  w = step n c b

  earlier : least (noted w.number (total w.book) low) (sums (total w.book) vs) ≡ least low (sums (total b) (voucher c w ∷ vs))
  unfolding sums least
  earlier = go (eqb w.number 0) refl
    where
      go : (d : Bool) → eqb w.number 0 ≡ d
          → least (cond d (less (total w.book) low) low) (sums (total w.book) vs)
          ≡ least low (cond d (counted (total b) (voucher c w) ∷ sums (counted (total b) (voucher c w)) vs) (sums (total b) vs))
      go true e = ap (λ (t : ℕ). least (less t low) (sums t vs)) (accepted-total n b c s (eqb-true w.number 0 e))
      go false e = ap (λ (t : ℕ). least low (sums t vs)) (refused-total n b c s (eqb-false w.number 0 e))

module _ {n : ℕ} {e : Engine} (f : Obeys n e) (low : e.State → ℕ) (g : Carries f low) where
  module _ (s : e.State) (h : Stands f s) where
    total-is : e.total s ≡ total h.held
    total-is = f.counts h.held s h.good h.of

    notes-next : (c : Call) → low (e.next c s) ≡ noted (step n c h.held).number (total (step n c h.held).book) (low s)
    notes-next c = g.notes h.held s c h.good h.of

    number_is : (c : Call) → (e.answer c s).number ≡ (step n c h.held).number
    number_is c = ap (λ (v : Voucher). v.number) (answer-is f s h c)

    refusal-leaves : (c : Call) → (e.answer c s).number ≢ 0 → low (e.next c s) ≡ low s
    refusal-leaves c d = notes-next c ∙ noted-refused _ _ (low s) (λ z. d (number_is c ∙ z))

    never-raised : (c : Call) → low (e.next c s) ≤ low s
    never-raised c = subst (λ (x : ℕ). x ≤ low s) (sym (notes-next c)) (noted-le (step n c h.held).number (total (step n c h.held).book) (low s))

  pub counts-from : (s : e.State) → Stands f s → CountsFrom e low s
  unfolding after vouchers sums least
  counts-from s h [] = refl
  counts-from s h (c ∷ cs) =
      let t = e.next c s in
      let k = stands-next f c s h in
      let vs = vouchers e t cs in
      counts-from t k cs
      ∙ ap (λ (x : ℕ). least x (sums (e.total t) vs)) (notes-next s h c)
      ∙ ap (λ (x : ℕ). least (noted (step n c h.held).number (total (step n c h.held).book) (low s)) (sums x vs)) (total-is t k)
      ∙ earlier n h.held c h.good (low s) vs
      ∙ ap (λ (x : ℕ). least (low s) (sums x (voucher c (step n c h.held) ∷ vs))) (sym (total-is s h))
      ∙ ap (λ (v : Voucher). least (low s) (sums (e.total s) (v ∷ vs))) (sym (answer-is f s h c))

  -- a figure that fits the total of the book goes on to fit
  fits_after : (s : e.State) (h : Stands f s) → low_sound (total h.held) (low s) ≡ true → (cs : List Call) → low_sound (e.total (after e s cs)) (low (after e s cs)) ≡ true
  unfolding after
  fits_after s h ok [] = ap (λ (t : ℕ). low_sound t (low s)) (total-is s h) ∙ ok
  fits_after s h ok (c ∷ cs) =
      let k = stands-next f c s h in
      fits_after (e.next c s) k (ap (low_sound (total k.held)) (notes-next s h c) ∙ noted-sound n h.held c h.good (low s) ok) cs

  new-total : e.total e.new ≡ 0
  unfolding sum
  new-total = total-is e.new (first f)

  begins-sound : low_sound (total empty) (low e.new) ≡ true
  unfolding sum
  begins-sound = ap (low_sound (total empty)) g.begins

  pub lowest : Lowest e low
  lowest = record {
    least-counted = λ cs. counts-from e.new (first f) cs
        ∙ ap (λ (x : ℕ). least x (sums (e.total e.new) (vouchers e e.new cs))) g.begins
        ∙ ap (λ (x : ℕ). least never (sums x (vouchers e e.new cs))) new-total;
    fits-total = λ cs. fits_after e.new (first f) begins-sound cs;
    refusal-leaves = λ cs. refusal-leaves (left e cs) (left-stands f cs);
    never-raised = λ cs. never-raised (left e cs) (left-stands f cs);
  }

-- each history of one kind leaves and keeps what some history of the other does
module _ (e : Engine) (low : e.State → ℕ) (H K : Type 0) (left : H → e.State) (kept : H → List Voucher) (left' : K → e.State) (kept' : K → List Voucher) (of : K → H) where
  through : LowestOf e low H left kept → LowestOf e low K (λ k. left (of k)) (λ k. kept (of k))
  through d = record {
    least-counted = λ k. d.least-counted (of k);
    fits-total = λ k. d.fits-total (of k);
    refusal-leaves = λ k. d.refusal-leaves (of k);
    never-raised = λ k. d.never-raised (of k);
  }

  pub carried : ((k : K) → left (of k) ≡ left' k) → ((k : K) → kept (of k) ≡ kept' k) → LowestOf e low H left kept → LowestOf e low K left' kept'
  carried same_left same_kept d =
      let p : (λ k. left (of k)) ≡ left' = (λ i k. same_left k i) in
      let q : (λ k. kept (of k)) ≡ kept' = (λ i k. same_kept k i) in
      subst (λ (l : K → e.State). LowestOf e low K l kept') p (subst (λ (l : K → List Voucher). LowestOf e low K (λ k. left (of k)) l) q (through d))
