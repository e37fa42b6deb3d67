-- What a call of the board or of a holder comes to over any allocator, whatever it answers: it is refused and leaves what was there, or the allocator has accepted the call in it. So the
-- allocator goes as under a list of its own calls. Assumes nothing.
use mathlib.Core.Path.{◌≡◌, refl, ◌∙◌}
use mathlib.Core.Logic.{◌≢◌}
use mathlib.Core.Bool.{Bool, not, cond}
use mathlib.Core.List.{List, [], ◌∷◌}
use Prim.Native.Nat.{ℕ, ◌+◌}
use native.Mathlib.Omega.{arith}
use lib.Dec.{T, eqb, eqb→eq}
use borrow.Author.Tests.{ne_eqb}
use Rattle.rules.specs.Rules as rules
use Rattle.rules.specs.Rules.{any, meets, Free, Allocate, Reserve}
use Rattle.rules_laws.proofs.Lists.{if, neq}
use Rattle.rules_engine.specs.Engine.{Engine, after}
use Rattle.holder_rules.specs.Register.{known, held, full, yours}
use Rattle.holder_rules.specs.Holders.{Holding, both, Answer, accepted, refused, refuse, unless_refused, unless_other, offer, give_back_lem, take_as, take, asked, Call, Offer, By, below, step, run}
use Rattle.holder_rules.specs.declared.Entry.{Entry}
use Rattle.holder_laws.proofs.Outcomes.{not-not}

module _ (e : Engine) where
  module _ (k : Holding e.State) where
    -- what the allocator answers
    abbrev pub its : rules.Call → rules.Voucher
    its d = e.answer d k.memory

    pub data Ends (c : Call) : Answer e.State → Type 0 where
      stays : (j : ℕ) → j ≢ 0 → Ends c (refused j k)
      goes : (r : List Entry) → (its (below c)).number ≡ 0 → Ends c (accepted (its (below c)).address (both (e.next (below c) k.memory) r))

    line : (c : Call) (q : Bool) (j : ℕ) → j ≢ 0 → (w : Answer e.State) → Ends c w → Ends c (refuse q j k w)
    unfolding refuse
    line c q j d w h = if q (λ (a : Answer e.State). Ends c a) (λ _. stays j d) (λ _. h)

    follows : (c : Call) (w : Answer e.State) → ((its (below c)).number ≡ 0 → Ends c w) → Ends c (unless_refused (its (below c)).number k w)
    unfolding unless_refused refuse
    follows c w g =
        let j = (its (below c)).number in
        if (not (eqb j 0)) (λ (a : Answer e.State). Ends c a) (λ t. stays j (neq j 0 t)) (λ t. g (eqb→eq j 0 (not-not (eqb j 0) t)))

    other : (c : Call) (q : Bool) (r : List Entry) → Ends c (unless_other (its (below c)) q k (both (e.next (below c) k.memory) r))
    unfolding unless_other
    other c q r = line c (eqb (its (below c)).number 4) 4 (omega arith) _ (line c q 5 (omega arith) _ (follows c _ (λ z. goes r z)))

    takes : (h : ℕ) (d : rules.Call) → Ends (By h d) (take e h d k)
    unfolding take take_as
    takes h d = follows (By h d) _ (λ z. line (By h d) (full k.register) 6 (omega arith) _ (goes _ z))

    asks : (h : ℕ) (d : rules.Call) → Ends (By h d) (asked e h d k)
    unfolding asked give_back_lem
    asks h (Free s z) = other (By h (Free s z)) (not (any (yours h s z) (held k.register))) _
    asks h (Allocate z o) = takes h (Allocate z o)
    asks h (Reserve s z o) = takes h (Reserve s z o)

    pub ends : (c : Call) → Ends c (step e c k)
    unfolding step offer
    ends (Offer s z) = other (Offer s z) (any (meets s (s + z)) (held k.register)) k.register
    ends (By h d) = line (By h d) (not (known h)) 4 (omega arith) _ (asks h d)

  -- ---- lists of calls

  -- the allocator's calls in those that are accepted
  abbrev pub and : {S : Type 0} → Call → Answer S → List rules.Call → List rules.Call
  and c w ds = cond (eqb w.number 0) (below c ∷ ds) ds

  unfoldable pub passed : Holding e.State → List Call → List rules.Call
  passed k [] = []
  passed k (c ∷ cs) = and c (step e c k) (passed (step e c k).holding cs)

  pub memory-passed : (k : Holding e.State) (cs : List Call) → (run e k cs).memory ≡ after e k.memory (passed k cs)
  unfolding run after passed
  memory-passed k [] = refl
  memory-passed k (c ∷ cs) = memory-passed (step e c k).holding cs ∙ go (passed (step e c k).holding cs) (step e c k) (ends k c)
    where
      go : (ds : List rules.Call) (w : Answer e.State) → Ends k c w → after e w.holding.memory ds ≡ after e k.memory (and c w ds)
      go ds _ (stays j d) = rw (ne_eqb j 0 d)
      go ds _ (goes r z) = refl
