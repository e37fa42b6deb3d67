-- Demand 3 of every engine that obeys the rules. Each sentence is shown from any state of a sound book on; the first state is one. Assumes nothing.
use Prim.Native.Nat.{ℕ}
use mathlib.Core.Bool.{Bool, false, not, cond}
use mathlib.Core.List.{List, [], ◌∷◌}
use mathlib.Core.Option.{Option, none, some}
use mathlib.Core.Path.{◌≡◌, refl, sym, ap, ◌∙◌, subst}
use lib.Dec.{T}
use Rattle.rules.specs.Rules.{top, Book, empty, total, listing, any, free_at, Call, Voucher, voucher, step, frees, covers, last_covering, said, count, back}
use Rattle.rules.specs.Sound.{Sound}
use Rattle.rules_laws.proofs.Lists.{if, T_true, T_false}
use Rattle.rules_laws.proofs.Kept.{empty-sound}
use Rattle.rules_laws.proofs.Steps.{step-sound, step-free, step-covers}
use Rattle.rules_laws.proofs.Bytes.{sound-total, sound-same}
use Rattle.rules_laws.proofs.Shelf.{same-shelf}
use Rattle.rules_laws.proofs.HandBack.{step_back}
use Rattle.rules_engine.specs.Engine.{Engine, after, vouchers, free_in_lem, rules}
use Rattle.rules_engine.specs.Demand.{left, SameFree, SameShelves, handing_back, Demand}
use Rattle.rules_engine.proofs.Obeys.{Obeys}

-- a voucher more, before the others
earlier : (v : Voucher) (x : ℕ) (d : Bool) (m : Option Voucher)
    → said (cond (covers v x) (frees v.call) d) m ≡ said d (elim m [ none ↦ cond (covers v x) (some v) none | some w ↦ some w ])
earlier v x d none = if (covers v x) (λ o. said (cond (covers v x) (frees v.call) d) none ≡ said d o) (λ t. rw (T_true (covers v x) t)) (λ t. rw (T_false (covers v x) t))
earlier v x d (some w) = refl

module _ {n : ℕ} {e : Engine} (f : Obeys n e) where
  -- the state is one of a sound book
  pub record Stands (s : e.State) : Type 0 where
    pub held : Book
    pub good : Sound n held
    pub of : f.Of held s

  abbrev pub stands-next : (c : Call) (s : e.State) → Stands s → Stands (e.next c s)
  stands-next c s h = record { held = (step n c h.held).book; good = step-sound n h.held c h.good; of = f.leaves h.held s c h.good h.of }

  stands_after : (s : e.State) (cs : List Call) → Stands s → Stands (after e s cs)
  unfolding after
  stands_after s [] h = h
  stands_after s (c ∷ cs) h = stands_after (e.next c s) cs (stands-next c s h)

  -- what is known of such a state
  module _ (s : e.State) (h : Stands s) where
    pub book-is : e.book s ≡ h.held
    book-is = f.shows h.held s h.good h.of

    free-is : (x : ℕ) → free_in_lem e s x ≡ free_at h.held x
    free-is x = ap (λ (b : Book). free_at b x) book-is

    pub answer-is : (c : Call) → e.answer c s ≡ voucher c (step n c h.held)
    answer-is c = f.answers h.held s c h.good h.of

    pub sound : e.Sound s
    sound = f.sound h.held s h.good h.of

    total-counts : e.total s ≡ count top (free_in_lem e s)
    total-counts = f.counts h.held s h.good h.of ∙ sound-total n h.held h.good ∙ sym (ap (λ (b : Book). count top (free_at b)) book-is)

    covers-only : (c : Call) (x : ℕ) → T (covers (e.answer c s) x) → free_in_lem e s x ≡ not (frees c)
    covers-only c x t = free-is x ∙ step-covers n h.held c h.good x (subst (λ (v : Voucher). T (covers v x)) (answer-is c) t)

  -- what holds of the books of two such states holds of the states'
  carried : (P : Book → Book → Type 0) (s t : e.State) (h : Stands s) (k : Stands t) → P h.held k.held → P (e.book s) (e.book t)
  carried P s t h k p = subst (λ (b : Book). P b (e.book t)) (sym (book-is s h)) (subst (P h.held) (sym (book-is t k)) p)

  same-ranges : (s t : e.State) → Stands s → Stands t → SameFree e s t → listing (e.book s) ≡ listing (e.book t)
  same-ranges s t h k = carried (λ b d. ((x : ℕ) → free_at b x ≡ free_at d x) → listing b ≡ listing d) s t h k (sound-same n h.held k.held h.good k.good)

  same-shelves : (s t : e.State) → Stands s → Stands t → SameFree e s t → SameShelves (e.book s) (e.book t)
  same-shelves s t h k = carried (λ b d. ((x : ℕ) → free_at b x ≡ free_at d x) → SameShelves b d) s t h k
      (λ same. same-shelf n h.held k.held h.good k.good (sound-same n h.held k.held h.good k.good same))

  handed-back : (c : Call) (s : e.State) → Stands s → T (not (frees c)) → (e.answer c s).number ≡ 0
      → ((e.answer (handing_back e c s) (e.next c s)).number ≡ 0) × (listing (e.book (e.next (handing_back e c s) (e.next c s))) ≡ listing (e.book s))
  handed-back c s h t d =
      let v = answer-is s h c in
      let k = stands-next c s h in
      let q = back c (step n c h.held).address in
      let eq : handing_back e c s ≡ q = ap (λ (x : Voucher). back c x.address) v in
      let w = step_back n h.held c h.good t (sym (ap (λ (x : Voucher). x.number) v) ∙ d) in (
        ap (λ (x : Call). (e.answer x (e.next c s)).number) eq ∙ ap (λ (x : Voucher). x.number) (answer-is (e.next c s) k q) ∙ w.0,
        ap (λ (x : Call). listing (e.book (e.next x (e.next c s)))) eq
            ∙ ap listing (book-is (e.next q (e.next c s)) (stands-next q (e.next c s) k)) ∙ w.1 ∙ sym (ap listing (book-is s h)),
      )

  -- a call more
  next-free : (c : Call) (s : e.State) → Stands s → (x : ℕ) → free_in_lem e (e.next c s) x ≡ cond (covers (e.answer c s) x) (frees (e.answer c s).call) (free_in_lem e s x)
  next-free c s h x =
      free-is (e.next c s) (stands-next c s h) x ∙ step-free n h.held c h.good x
      ∙ sym (ap (λ (d : Bool). cond (covers (voucher c (step n c h.held)) x) (frees c) d) (free-is s h x))
      ∙ sym (ap (λ (v : Voucher). cond (covers v x) (frees v.call) (free_in_lem e s x)) (answer-is s h c))

  free_bytes : (s : e.State) (cs : List Call) → Stands s → (x : ℕ) → free_in_lem e (after e s cs) x ≡ said (free_in_lem e s x) (last_covering x (vouchers e s cs))
  unfolding after vouchers last_covering
  free_bytes s [] h x = refl
  free_bytes s (c ∷ cs) h x =
      free_bytes (e.next c s) cs (stands-next c s h) x
      ∙ ap (λ (d : Bool). said d (last_covering x (vouchers e (e.next c s) cs))) (next-free c s h x)
      ∙ earlier (e.answer c s) x (free_in_lem e s x) (last_covering x (vouchers e (e.next c s) cs))

  abbrev pub first : Stands e.new
  first = record { held = empty; good = empty-sound n; of = f.begins }

  pub left-stands : (cs : List Call) → Stands (left e cs)
  left-stands cs = stands_after e.new cs first

  first-free : (x : ℕ) → free_in_lem e e.new x ≡ false
  unfolding free_at any
  first-free x = free-is e.new first x

  pub demand : Demand e
  demand = record {
    always-sound = λ cs. sound (left e cs) (left-stands cs);
    free_bytes = λ cs x. free_bytes e.new cs first x ∙ ap (λ (d : Bool). said d (last_covering x (vouchers e e.new cs))) (first-free x);
    total-counts = λ cs. total-counts (left e cs) (left-stands cs);
    covers-only = λ cs. covers-only (left e cs) (left-stands cs);
    same-ranges = λ cs ds. same-ranges (left e cs) (left e ds) (left-stands cs) (left-stands ds);
    same-shelves = λ cs ds. same-shelves (left e cs) (left e ds) (left-stands cs) (left-stands ds);
    handed-back = λ cs c. handed-back c (left e cs) (left-stands cs);
  }

-- ---- the rules themselves

pub rules-demand : (n : ℕ) → Demand (rules n)
rules-demand n = demand (record {
  Of = λ b s. s ≡ b;
  begins = refl;
  answers = λ b s c h o. ap (λ (x : Book). voucher c (step n c x)) o;
  leaves = λ b s c h o. ap (λ (x : Book). (step n c x).book) o;
  shows = λ b s h o. o;
  counts = λ b s h o. ap total o;
  sound = λ b s h o. subst (Sound n) (sym o) h;
})
