-- Two allocators of which one is seen in the other, and answers alike, are so under the register. Assumes nothing.
use mathlib.Core.Path.{◌≡◌, refl, ap, ◌∙◌}
use mathlib.Core.Bool.{Bool, true, false, not}
use mathlib.Core.List.{List, [], ◌∷◌}
use Prim.Native.Nat.{ℕ, ◌+◌}
use lib.Dec.{eqb}
use Rattle.rules.specs.Rules as rules
use Rattle.rules.specs.Rules.{any, meets, Free, Allocate, Reserve}
use Rattle.rules_engine.specs.Engine.{Engine}
use Rattle.holder_rules.specs.Register.{known, held, full, enter, yours, leave}
use Rattle.holder_rules.specs.Holders.{Holding, both, Answer, accepted, refuse, unless_refused, unless_other, offer, give_back_lem, piece, take_as, take, asked, Call, Offer, By, step, Voucher, voucher, run, trail}
use Rattle.holder_rules.specs.declared.Entry.{Entry}

-- a state as it is seen, with the register beside it
module _ {S D : Type 0} (seen : S → D) where
  abbrev pub turned : Holding S → Holding D
  turned k = both (seen k.memory) k.register

  abbrev pub shown : Answer S → Answer D
  shown w = record { number = w.number; address = w.address; holding = turned w.holding }

  refuse-alike : (q : Bool) (j : ℕ) (k : Holding S) (w : Answer S) → refuse q j (turned k) (shown w) ≡ shown (refuse q j k w)
  unfolding refuse
  refuse-alike true j k w = refl
  refuse-alike false j k w = refl

  other-alike : (v : rules.Voucher) (q : Bool) (k k' : Holding S) → unless_other v q (turned k) (turned k') ≡ shown (unless_other v q k k')
  unfolding unless_other unless_refused
  other-alike v q k k' =
      let a = refuse-alike (not (eqb v.number 0)) v.number k (accepted v.address k') in
      let b = refuse-alike q 5 k (refuse (not (eqb v.number 0)) v.number k (accepted v.address k')) in
      ap (λ (w : Answer D). refuse (eqb v.number 4) 4 (turned k) w) (ap (λ (w : Answer D). refuse q 5 (turned k) w) a ∙ b)
      ∙ refuse-alike (eqb v.number 4) 4 k (refuse q 5 k (refuse (not (eqb v.number 0)) v.number k (accepted v.address k')))

  take-alike : (v : rules.Voucher) (s : S) (h : ℕ) (c : rules.Call) (k : Holding S) → take_as v (seen s) h c (turned k) ≡ shown (take_as v s h c k)
  unfolding take_as unless_refused
  take-alike v s h c k =
      let w = accepted v.address (both s (enter (piece h c v.address) k.register)) in
      let a = refuse-alike (full k.register) 6 k w in
      ap (λ (x : Answer D). refuse (not (eqb v.number 0)) v.number (turned k) x) a ∙ refuse-alike (not (eqb v.number 0)) v.number k (refuse (full k.register) 6 k w)

module _ (e d : Engine) (seen : e.State → d.State) (k : Holding e.State)
    (answers : (c : rules.Call) → d.answer c (seen k.memory) ≡ e.answer c k.memory) (leaves : (c : rules.Call) → d.next c (seen k.memory) ≡ seen (e.next c k.memory)) where
  freeing : (c : rules.Call) (q : Bool) (r : List Entry)
      → unless_other (d.answer c (seen k.memory)) q (turned seen k) (both (d.next c (seen k.memory)) r) ≡ shown seen (unless_other (e.answer c k.memory) q k (both (e.next c k.memory) r))
  freeing c q r = (let a = answers c in let b = leaves c in (λ i. unless_other (a i) q (turned seen k) (both (b i) r))) ∙ other-alike seen (e.answer c k.memory) q k (both (e.next c k.memory) r)

  taking : (h : ℕ) (c : rules.Call) → take d h c (turned seen k) ≡ shown seen (take e h c k)
  unfolding take
  taking h c = (let a = answers c in let b = leaves c in (λ i. take_as (a i) (b i) h c (turned seen k))) ∙ take-alike seen (e.answer c k.memory) (e.next c k.memory) h c k

  asking : (h : ℕ) (c : rules.Call) → asked d h c (turned seen k) ≡ shown seen (asked e h c k)
  unfolding asked give_back_lem
  asking h (Free s z) = freeing (Free s z) (not (any (yours h s z) (held k.register))) (leave h s z k.register)
  asking h (Allocate z o) = taking h (Allocate z o)
  asking h (Reserve s z o) = taking h (Reserve s z o)

  pub step-alike : (c : Call) → step d c (turned seen k) ≡ shown seen (step e c k)
  unfolding step offer
  step-alike (Offer s z) = freeing (Free s z) (any (meets s (s + z)) (held k.register)) k.register
  step-alike (By h c) = ap (λ (w : Answer d.State). refuse (not (known h)) 4 (turned seen k) w) (asking h c) ∙ refuse-alike seen (not (known h)) 4 k (asked e h c k)

-- and so under any list of calls, as far as each state is one of those that are alike
module _ (e d : Engine) (seen : e.State → d.State) (Good : Holding e.State → Type 0) (keeps : (c : Call) (k : Holding e.State) → Good k → Good (step e c k).holding)
    (answers : (k : Holding e.State) → Good k → (c : rules.Call) → d.answer c (seen k.memory) ≡ e.answer c k.memory)
    (leaves : (k : Holding e.State) → Good k → (c : rules.Call) → d.next c (seen k.memory) ≡ seen (e.next c k.memory)) where
  one : (k : Holding e.State) → Good k → (c : Call) → step d c (turned seen k) ≡ shown seen (step e c k)
  one k g c = step-alike e d seen k (answers k g) (leaves k g) c

  pub run-alike : (k : Holding e.State) → Good k → (cs : List Call) → run d (turned seen k) cs ≡ turned seen (run e k cs)
  unfolding run
  run-alike k g [] = refl
  run-alike k g (c ∷ cs) = ap (λ (w : Answer d.State). run d w.holding cs) (one k g c) ∙ run-alike (step e c k).holding (keeps c k g) cs

  pub trail-alike : (k : Holding e.State) → Good k → (cs : List Call) → trail d (turned seen k) cs ≡ trail e k cs
  unfolding trail
  trail-alike k g [] = refl
  trail-alike k g (c ∷ cs) =
      let first = one k g c in
      let others = ap (λ (w : Answer d.State). trail d w.holding cs) (one k g c) ∙ trail-alike (step e c k).holding (keeps c k g) cs in
      (λ i. voucher c (first i) ∷ others i)
