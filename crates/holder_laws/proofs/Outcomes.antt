-- What a call of the board or of a holder comes to, of every allocator that obeys the rules: a refusal, an offer, a take or a hand-back. Assumes nothing.
use mathlib.Core.Path.{◌≡◌, refl, sym, ap, ◌∙◌, subst}
use mathlib.Core.Logic.{◌≢◌, ◌⊎◌, inl, inr}
use mathlib.Core.Bool.{Bool, true, false, not, cond, ◌&&◌}
use mathlib.Core.List.{List, [], ◌∷◌}
use Prim.Native.Nat.{ℕ, suc, ◌+◌, ◌-◌, ◌≤◌, ◌<◌}
use native.Mathlib.Omega.{arith}
use lib.Dec.{T, leb, ltb, eqb, eqb→eq}
use Rattle.rules.specs.Rules as rules
use Rattle.rules.specs.Rules.{top, Range, Book, any, meets, free_at, Free, Allocate, Reserve, frees, from, past}
use Rattle.rules.specs.Sound.{In, Sound}
use Rattle.rules_laws.proofs.Lists.{if, T-no}
use Rattle.rules_laws.proofs.Outcomes as below
use Rattle.rules_laws.proofs.Outcomes.{outcome}
use Rattle.rules_laws.proofs.Kept.{Takes, Gives}
use Rattle.rules_laws.proofs.Steps.{step-sound, step-free}
use Rattle.rules_engine.specs.Engine.{Engine}
use Rattle.rules_engine.proofs.Obeys.{Obeys}
use Rattle.holder_rules.specs.Register.{known, held, full, enter, yours, leave}
use Rattle.holder_rules.specs.Holders.{Holding, both, Answer, accepted, refused, refuse, unless_refused, unless_other, offer, give_back_lem, piece, take_as, take, asked, Call, Offer, By, step}
use Rattle.holder_rules.specs.Sound.{SoundRegister}

pub not-not : (t : Bool) → T (not (not t)) → T t
not-not true x = tt
not-not false x = x

module _ {n : ℕ} {e : Engine} (f : Obeys n e) where
  -- the holding is one of a sound book and a sound register
  pub record Kept (k : Holding e.State) : Type 0 where
    pub book : Book
    pub good : Sound n book
    pub of : f.Of book k.memory
    pub register : SoundRegister book.chain k.register

  module _ (k : Holding e.State) (b : Book) where
    -- the allocator accepts its call c with the address x
    pub record Accepts (c : rules.Call) (x : ℕ) : Type 0 where
      pub number : (rules.step n c b).number ≡ 0
      pub address : (rules.step n c b).address ≡ x
      pub some_byte : from c x < past c x
      pub below : past c x ≤ top

    pub data Comes : Call → Answer e.State → Type 0 where
      refusal : (c : Call) (j : ℕ) → j ≢ 0 → Comes c (refused j k)
      offers : (s z : ℕ) → Accepts (Free s z) 0 → T (not (any (meets s (s + z)) (held k.register)))
          → Comes (Offer s z) (accepted 0 (both (e.next (Free s z) k.memory) k.register))
      gives_back : (h s z : ℕ) → T (known h) → Accepts (Free s z) 0 → T (any (yours h s z) (held k.register))
          → Comes (By h (Free s z)) (accepted 0 (both (e.next (Free s z) k.memory) (leave h s z k.register)))
      takes : (h : ℕ) (c : rules.Call) (x : ℕ) (r : Range) → T (known h) → T (not (frees c)) → Accepts c x → Takes n b r (from c x) (past c x) → T (not (full k.register))
          → Comes (By h c) (accepted x (both (e.next c k.memory) (enter (piece h c x) k.register)))

    line : (c : Call) (j : ℕ) → j ≢ 0 → (q : Bool) (w : Answer e.State) → (T (not q) → Comes c w) → Comes c (refuse q j k w)
    unfolding refuse
    line c j h q w g = if q (λ a. Comes c a) (λ _. refusal c j h) g

    -- a free below: it is refused, or its piece is given
    module _ (s z : ℕ) where
      pub data Freed : rules.Answer → Type 0 where
        not-freed : (j : ℕ) → j ≢ 0 → Freed (rules.refused j b)
        freed : (b' : Book) → s < s + z → s + z ≤ top → Freed (rules.accepted 0 b')

      freed-is : (w : rules.Answer) → below.Outcome n b (Free s z) w → Freed w
      freed-is _ (below.refusal j h m) = not-freed j h
      freed-is _ (below.took x r t g) = absurd t
      freed-is _ (below.gave t g) = freed _ g.some_byte g.below

      ladder : (c : Call) (q : Bool) (k' : Holding e.State) (v : rules.Voucher) (w : rules.Answer) → v ≡ rules.voucher (Free s z) w → rules.step n (Free s z) b ≡ w → Freed w
          → (T (not q) → Accepts (Free s z) 0 → Comes c (accepted 0 k')) → Comes c (unless_other v q k k')
      unfolding unless_other unless_refused refuse
      ladder c q k' v _ d a (not-freed j h) g = subst (λ (u : rules.Voucher). Comes c (unless_other u q k k')) (sym d)
          (line c 4 (omega arith) (eqb j 4) _ (λ _. line c 5 (omega arith) q _ (λ _. line c j h (not (eqb j 0)) _ (λ t. absurd (h (eqb→eq j 0 (not-not (eqb j 0) t)))))))
      ladder c q k' v _ d a (freed b' l m) g = subst (λ (u : rules.Voucher). Comes c (unless_other u q k k')) (sym d)
          (line c 5 (omega arith) q _ (λ t. g t (record { number = ap (λ (u : rules.Answer). u.number) a; address = ap (λ (u : rules.Answer). u.address) a; some_byte = l; below = m })))

    -- a take below
    module _ (h : ℕ) (c : rules.Call) (kn : T (known h)) (nf : T (not (frees c))) where
      taking : (v : rules.Voucher) (s : e.State) (w : rules.Answer) → v ≡ rules.voucher c w → rules.step n c b ≡ w → s ≡ e.next c k.memory → Sound n b → below.Outcome n b c w
          → Comes (By h c) (take_as v s h c k)
      unfolding take_as unless_refused refuse
      taking v s _ d a q g (below.refusal j i m) = subst (λ (u : rules.Voucher). Comes (By h c) (take_as u s h c k)) (sym d)
          (line (By h c) j i (not (eqb j 0)) _ (λ t. absurd (i (eqb→eq j 0 (not-not (eqb j 0) t)))))
      taking v s _ d a q g (below.took x r t y) = subst (λ (u : rules.Voucher). Comes (By h c) (take_as u s h c k)) (sym d)
          (line (By h c) 6 (omega arith) (full k.register) _ (λ u. subst (λ (z : e.State). Comes (By h c) (accepted x (both z (enter (piece h c x) k.register)))) (sym q)
          (takes h c x r kn nf (record {
            number = ap (λ (u : rules.Answer). u.number) a;
            address = ap (λ (u : rules.Answer). u.address) a;
            some_byte = y.some_byte;
            below = (let p = y.to in let o = (g.good r y.member).below in omega arith);
          }) y u)))
      taking v s _ d a q g (below.gave t y) = absurd (T-no (frees c) nf t)

  -- what any call comes to
  module _ (k : Holding e.State) (κ : Kept k) where
    freeing : (c : Call) (s z : ℕ) (q : Bool) (k' : Holding e.State) → (T (not q) → Accepts k κ.book (Free s z) 0 → Comes k κ.book c (accepted 0 k'))
        → Comes k κ.book c (unless_other (e.answer (Free s z) k.memory) q k k')
    freeing c s z q k' g = ladder k κ.book s z c q k' (e.answer (Free s z) k.memory) (rules.step n (Free s z) κ.book)
        (f.answers κ.book k.memory (Free s z) κ.good κ.of) refl (freed-is k κ.book s z _ (outcome n κ.book (Free s z) κ.good)) g

    took : (h : ℕ) (c : rules.Call) → T (known h) → T (not (frees c)) → Comes k κ.book (By h c) (take e h c k)
    unfolding take
    took h c kn nf = taking k κ.book h c kn nf (e.answer c k.memory) (e.next c k.memory) (rules.step n c κ.book)
        (f.answers κ.book k.memory c κ.good κ.of) refl refl κ.good (outcome n κ.book c κ.good)

    called : (h : ℕ) (c : rules.Call) → T (known h) → Comes k κ.book (By h c) (asked e h c k)
    unfolding asked give_back_lem
    called h (Free s z) kn = freeing (By h (Free s z)) s z (not (any (yours h s z) (held k.register))) _
        (λ t a. gives_back h s z kn a (not-not (any (yours h s z) (held k.register)) t))
    called h (Allocate z o) kn = took h (Allocate z o) kn tt
    called h (Reserve s z o) kn = took h (Reserve s z o) kn tt

    pub comes : (c : Call) → Comes k κ.book c (step e c k)
    unfolding step offer
    comes (Offer s z) = freeing (Offer s z) s z (any (meets s (s + z)) (held k.register)) _ (λ t a. offers s z a t)
    comes (By h c) = line k κ.book (By h c) 4 (omega arith) (not (known h)) _ (λ t. called h c (not-not (known h) t))
