-- The entries, by number: they stay as many, and no call of another does anything to a holder's. Assumes nothing.
use mathlib.Core.Path.{◌≡◌, refl, sym, ap, ◌∙◌}
use mathlib.Core.Bool.{Bool, true, false, not, cond, ◌&&◌}
use mathlib.Core.List.{List, [], ◌∷◌}
use Prim.Native.Nat.{ℕ, zero, suc}
use lib.Dec.{T, eqb, eqb→eq}
use lib.ListN.{length}
use Rattle.rules.specs.Rules as rules
use Rattle.rules_laws.proofs.Lists.{if, and_l, and_r, T_false}
use Rattle.rules_engine.specs.Engine.{Engine}
use Rattle.rules_engine.proofs.Obeys.{Obeys}
use Rattle.holder_rules.specs.Register.{blank, used, range_of, replace, free, exactly, yours, hands}
use Rattle.holder_rules.specs.Holders.{Holding, Answer, piece, Call, is_of}
use Rattle.holder_rules.specs.declared.Entry.{Entry}
use Rattle.holder_laws.specs.Demand.{of_his, his_entry}
use Rattle.holder_laws.proofs.Outcomes.{Kept, Comes, refusal, offers, gives_back, takes}

pub length-replace : (p : Entry → Bool) (e : Entry) (r : List Entry) → length (replace p e r) ≡ length r
unfolding replace
length-replace p e [] = refl
length-replace p e (q ∷ r) = if (p q) (λ (m : List Entry). length m ≡ suc (length r)) (λ t. refl) (λ t. ap suc (length-replace p e r))

-- an entry takes the place of one that is h's no more than it is
replace-his : (h : ℕ) (p : Entry → Bool) (x : Entry) → ((q : Entry) → T (p q) → of_his h x ≡ of_his h q) → (r : List Entry) (i : ℕ) → his_entry h (replace p x r) i ≡ his_entry h r i
unfolding replace
replace-his h p x g [] i = refl
replace-his h p x g (q ∷ l) zero = if (p q) (λ (m : List Entry). his_entry h m 0 ≡ of_his h q) (λ t. g q t) (λ t. refl)
replace-his h p x g (q ∷ l) (suc i) = if (p q) (λ (m : List Entry). his_entry h m (suc i) ≡ his_entry h l i) (λ t. refl) (λ t. replace-his h p x g l i)

-- another's entry, and an unused one
another : (h : ℕ) (q : Entry) → eqb q.holder.0 h ≡ false → of_his h q ≡ blank
another h q d = rw d

nobodys : (h : ℕ) (q : Entry) → T (free q) → of_his h q ≡ blank
nobodys h q t = ap (λ (u : Bool). cond (eqb q.holder.0 h && u) q blank) (T_false (used q) t) ∙ go (eqb q.holder.0 h)
  where
    go : (b : Bool) → cond (b && false) q blank ≡ blank
    go true = refl
    go false = refl

module _ {n : ℕ} {e : Engine} (f : Obeys n e) (k : Holding e.State) (κ : Kept f k) where
  pub comes-entries : (h : ℕ) (c : Call) (w : Answer e.State) → Comes f k κ.book c w → T (not (is_of h c)) → (i : ℕ) → his_entry h w.holding.register i ≡ his_entry h k.register i
  comes-entries h _ _ (refusal c j d) t i = refl
  comes-entries h _ _ (offers s z a m) t i = refl
  comes-entries h _ _ (gives_back g s z kn a y) t i = replace-his h (hands g s z) blank
      (λ q u. nobodys h blank tt ∙ sym (another h q (ap (λ (x : ℕ). eqb x h) (eqb→eq q.holder.0 g (and_l (eqb q.holder.0 g) (exactly s z (range_of q)) (and_r (used q) (yours g s z (range_of q)) u))) ∙ T_false (eqb g h) t)))
      k.register i
  comes-entries h _ _ (takes g c x r kn nt a m nf) t i = replace-his h free (piece g c x) (λ q u. another h (piece g c x) (T_false (eqb g h) t) ∙ sym (nobodys h q u)) k.register i

  pub comes-sized : (c : Call) (w : Answer e.State) → Comes f k κ.book c w → length w.holding.register ≡ length k.register
  comes-sized _ _ (refusal c j d) = refl
  comes-sized _ _ (offers s z a m) = refl
  comes-sized _ _ (gives_back g s z kn a y) = length-replace _ _ k.register
  comes-sized _ _ (takes g c x r kn nt a m nf) = length-replace _ _ k.register
