-- A call keeps a sound holding sound; what it does to free and held bytes. Assumes nothing.
use mathlib.Core.Path.{◌≡◌, refl, sym, ap, ◌∙◌, subst}
use mathlib.Core.Logic.{◌≢◌, ◌⊎◌, inl, inr}
use mathlib.Core.Bool.{Bool, true, false, not, cond, ◌&&◌}
use mathlib.Core.List.{List, [], ◌∷◌}
use Prim.Native.Nat.{ℕ, suc, ◌+◌, ◌-◌, ◌≤◌, ◌<◌}
use native.Mathlib.Omega.{arith}
use lib.Dec.{T, leb, ltb, eqb, leb→le, nleb→lt, le→leb, ltb→lt, lt→ltb, nltb→le, eqb→eq, not_T}
use Rattle.rules.specs.Rules as rules
use Rattle.rules.specs.Rules.{top, Range, Book, any, meets, holds, free_at, Free, frees, from, past}
use Rattle.rules.specs.Sound.{In, Sound}
use Rattle.rules_laws.proofs.Lists.{if, and_l, and_r, and_i, T-no, T-or-not, T_true, T_false, any→, any←}
use Rattle.rules_laws.proofs.Kept.{free→, free←}
use Rattle.rules_laws.proofs.Steps.{step-sound, step-free}
use Rattle.rules_engine.specs.Engine.{Engine}
use Rattle.rules_engine.proofs.Obeys.{Obeys}
use Rattle.holder_rules.specs.Register.{known, used, range_of, held, full, enter, yours, exactly, leave}
use Rattle.holder_rules.specs.Holders.{Holding, both, Answer, accepted, piece, Call, Offer, By, step}
use Rattle.holder_rules.specs.Sound.{Clear, Held, Has, SoundEntries, SoundRegister}
use Rattle.holder_rules.specs.declared.Entry.{Entry}
use Rattle.holder_laws.proofs.Inserted.{Inserted, inserted→, inserted←, clear-sym, pairwise-in, pairwise-out}
use Rattle.holder_laws.proofs.Entered.{enter-inserted, Left, leave-inserted, has-replace, held-good}
use Rattle.holder_laws.proofs.Outcomes.{Kept, Accepts, Comes, refusal, offers, gives_back, takes, comes}

-- ---- ranges by their bytes

abbrev pub Byte : ℕ → Range → Type 0
Byte x q = (q.start ≤ x) × (x ≤ q.last)

pub clear-bytes : (q p : Range) → q.start ≤ q.last → p.start ≤ p.last → ((x : ℕ) → Byte x q → Byte x p → ⊥) → Clear q p
clear-bytes q p a b f = elim (T-or-not (leb p.start q.last)) [
  | inr t ↦ inl (nleb→lt p.start q.last t)
  | inl t ↦ let u = leb→le p.start q.last t in elim (T-or-not (leb q.start p.last)) [
    | inr v ↦ inr (nleb→lt q.start p.last v)
    | inl v ↦ let w = leb→le q.start p.last v in elim (T-or-not (leb q.start p.start)) [
      | inl y ↦ let z = leb→le q.start p.start y in absurd (f p.start (z, u) (omega arith, b))
      | inr y ↦ let z = nleb→lt q.start p.start y in absurd (f q.start (omega arith, a) (omega arith, w))
    ]
  ]
]

pub no_byte : (q p : Range) → Clear q p → (x : ℕ) → Byte x q → Byte x p → ⊥
no_byte q p (inl h) x a b = omega arith
no_byte q p (inr h) x a b = omega arith

-- the bytes of the piece from a to before t
abbrev pub inside : ℕ → ℕ → ℕ → Bool
inside a t x = leb a x && ltb x t

pub inside→ : (a t x : ℕ) → T (inside a t x) → (a ≤ x) × (x < t)
inside→ a t x h = (leb→le a x (and_l (leb a x) (ltb x t) h), ltb→lt x t (and_r (leb a x) (ltb x t) h))

pub inside← : (a t x : ℕ) → a ≤ x → x < t → T (inside a t x)
inside← a t x h g = and_i (leb a x) (ltb x t) (le→leb a x h) (lt→ltb x t g)

-- a range that is handed back is the piece
pub yours-piece : (h s z : ℕ) (q : Range) → q.start ≤ q.last → T (yours h s z q) → (q.number ≡ h) × (q.start ≡ s) × (suc q.last ≡ s + z)
yours-piece h s z q p t =
    let x = and_r (eqb q.number h) (exactly s z q) t in
    let a = eqb→eq q.start s (and_l (eqb q.start s) (eqb (suc q.last - q.start) z) x) in
    let b = eqb→eq (suc q.last - q.start) z (and_r (eqb q.start s) (eqb (suc q.last - q.start) z) x) in
    (eqb→eq q.number h (and_l (eqb q.number h) (exactly s z q) t), a, omega arith)

-- a range that meets no piece has none of its bytes
pub not-met : (a t : ℕ) (l : List Range) → T (not (any (meets a t) l)) → (q : Range) → In q l → (x : ℕ) → Byte x q → a ≤ x → x < t → ⊥
not-met a t l h q i x y p r = T-no (any (meets a t) l) h (any← (meets a t) l q i (and_i (ltb q.start t) (leb a q.last) (lt→ltb q.start t (omega arith)) (le→leb a q.last (omega arith))))

module _ {n : ℕ} {e : Engine} (f : Obeys n e) where
  module _ (k : Holding e.State) (κ : Kept f k) where
    abbrev pub b : Book
    b = κ.book

    abbrev pub entries : SoundEntries k.register
    entries = κ.register.sound

    -- a free range has no byte of a held one
    pub free-not-held : (x : ℕ) → T (free_at b x) → (q : Range) → In q (held k.register) → Byte x q → ⊥
    free-not-held x t q i y = let w = free→ b x t in no_byte q w.0 (κ.register.clear q i w.0 w.1) x y (w.2, w.3)

    -- the free bytes after an accepted call
    pub free-after : (c : rules.Call) (x : ℕ) → Accepts f k b c x → (y : ℕ) → free_at (rules.step n c b).book y ≡ cond (inside (from c x) (past c x) y) (frees c) (free_at b y)
    free-after c x a y = step-free n b c κ.good y ∙ rw (a.number, a.address)

    -- the next holding, with a register that has no byte which is free now
    next : (c : rules.Call) (r : List Entry) → SoundEntries r → ((y : ℕ) → T (free_at (rules.step n c b).book y) → (q : Range) → In q (held r) → Byte y q → ⊥) → Kept f (both (e.next c k.memory) r)
    next c r s g = let g' = step-sound n b c κ.good in record {
      book = (rules.step n c b).book;
      good = g';
      of = f.leaves b k.memory c κ.good κ.of;
      register = record {
        sound = s;
        clear = λ q i p j. clear-bytes q p (held-good r s q i).proper (g'.good p j).proper (λ x y z. g x (free← (rules.step n c b).book x p j z.0 z.1) q i y);
      };
    }

    -- what is free after a free was free, or is a byte of the piece
    freed : (s z : ℕ) → Accepts f k b (Free s z) 0 → (y : ℕ) → T (free_at (rules.step n (Free s z) b).book y) → T (free_at b y) ⊎ ((s ≤ y) × (y < s + z))
    freed s z a y t = elim (T-or-not (inside s (s + z) y)) [
      | inl i ↦ inr (inside→ s (s + z) y i)
      | inr o ↦ inl (subst T (free-after (Free s z) 0 a y ∙ ap (λ (c : Bool). cond c true (free_at b y)) (T_false (inside s (s + z) y) o)) t)
    ]

    module _ (h s z : ℕ) (t : T (any (yours h s z) (held k.register))) where
      abbrev pub gone : Left h s z k.register
      gone = leave-inserted h s z k.register t

      pub gone-in : In gone.range (held k.register)
      gone-in = inserted← _ _ _ gone.inserted gone.range (inl refl)

      pub rest_in : (q : Range) → In q (held (leave h s z k.register)) → In q (held k.register)
      rest_in q i = inserted← _ _ _ gone.inserted q (inr i)

      pub rest-clear : (q : Range) → In q (held (leave h s z k.register)) → Clear gone.range q
      rest-clear = (pairwise-out _ _ _ gone.inserted entries.apart).1

      pub gone-piece : (gone.range.number ≡ h) × (gone.range.start ≡ s) × (suc gone.range.last ≡ s + z)
      gone-piece = yours-piece h s z gone.range (held-good k.register entries gone.range gone-in).proper gone.yours

      left-sound : SoundEntries (leave h s z k.register)
      left-sound = record {
        good = λ x i. elim (has-replace _ _ k.register x i) [ inl d ↦ inl d | inr j ↦ entries.good x j ];
        apart = (pairwise-out _ _ _ gone.inserted entries.apart).0;
      }

    module _ (h : ℕ) (c : rules.Call) (x : ℕ) (r : Range) (kn : T (known h)) (a : Accepts f k b c x) (i : In r b.chain) (lo : r.start ≤ from c x) (hi : past c x ≤ suc r.last)
        (nf : T (not (full k.register))) where
      pub entry-used : T (used (piece h c x))
      entry-used = and_l (leb 1 h) (leb h Rattle.holder_rules.specs.Register.holders) kn

      pub entered : Inserted (range_of (piece h c x)) (held k.register) (held (enter (piece h c x) k.register))
      entered = enter-inserted (piece h c x) k.register entry-used nf

      pub piece-clear : (q : Range) → In q (held k.register) → Clear (range_of (piece h c x)) q
      piece-clear q j = let y = a.some_byte in
          clear-bytes (range_of (piece h c x)) q (omega arith) (held-good k.register entries q j).proper
          (λ w u v. free-not-held w (free← b w r i (omega arith) (omega arith)) q j v)

      entered-sound : SoundEntries (enter (piece h c x) k.register)
      entered-sound = record {
        good = λ w i. elim (has-replace _ _ k.register w i) [
          | inl d ↦ inr (let y = a.some_byte in let l = a.below in subst (λ (u : Entry). Held (range_of u)) (sym d) (record { whose = kn; proper = omega arith; below = omega arith }))
          | inr j ↦ entries.good w j
        ];
        apart = pairwise-in _ _ _ entered entries.apart piece-clear;
      }

    -- what a call comes to is sound
    pub comes-sound : (c : Call) (w : Answer e.State) → Comes f k b c w → Kept f w.holding
    comes-sound _ _ (refusal c j d) = κ
    comes-sound _ _ (offers s z a m) = next (Free s z) k.register κ.register.sound (λ y t q i u. elim (freed s z a y t) [
      | inl g ↦ free-not-held y g q i u
      | inr g ↦ not-met s (s + z) (held k.register) m q i y u g.0 g.1
    ])
    comes-sound _ _ (gives_back h s z kn a t) = next (Free s z) (leave h s z k.register) (left-sound h s z t) (λ y g q i u. elim (freed s z a y g) [
      | inl v ↦ free-not-held y v q (rest_in h s z t q i) u
      | inr v ↦ let p = gone-piece h s z t in no_byte (gone h s z t).range q (rest-clear h s z t q i) y (let o = p.1 in omega arith, let o = p.2 in omega arith) u
    ])
    comes-sound _ _ (takes h c x r kn nt a m nf) = next c (enter (piece h c x) k.register) (entered-sound h c x r kn a m.member m.from m.to nf) (λ y t q i u.
        elim (T-or-not (inside (from c x) (past c x) y)) [
          | inl v ↦ T-no (frees c) nt (subst T (free-after c x a y ∙ ap (λ (d : Bool). cond d (frees c) (free_at b y)) (T_true (inside (from c x) (past c x) y) v)) t)
          | inr v ↦ let g = subst T (free-after c x a y ∙ ap (λ (d : Bool). cond d (frees c) (free_at b y)) (T_false (inside (from c x) (past c x) y) v)) t in
              elim (inserted→ _ _ _ (entered h c x r kn a m.member m.from m.to nf) q i) [
                | inl d ↦ let s1 : q.start ≡ from c x = ap (λ (o : Range). o.start) d in let s2 : q.last ≡ past c x - 1 = ap (λ (o : Range). o.last) d in let s3 = a.some_byte in
                    T-no (inside (from c x) (past c x) y) v (inside← (from c x) (past c x) y (omega arith) (omega arith))
                | inr j ↦ free-not-held y g q j u
              ]
        ])

  pub step_keeps : (c : Call) (k : Holding e.State) → Kept f k → Kept f (step e c k).holding
  step_keeps c k κ = comes-sound k κ c (step e c k) (comes f k κ c)
