-- The law of multiples, for any divisor: where the ends of all free ranges are multiples, and those of the piece that a call moves, so are
-- the ends of all free ranges after it. An end is a first byte, or the byte after a last one. Assumes nothing.
use mathlib.Core.Path.{◌≡◌, refl, sym, ap, ◌∙◌, subst}
use mathlib.Core.Logic.{◌⊎◌, inl, inr}
use mathlib.Core.Bool.{Bool, true, false, not, cond, ◌&&◌}
use mathlib.Core.Option.{Option, none, some}
use Prim.Native.Nat.{ℕ, zero, suc, ◌+◌, ◌-◌, ◌*◌, ◌/◌, ◌^◌, ◌≤◌, ◌<◌, ◌∣◌}
use native.Mathlib.Omega.{arith}
use native.Mathlib.Nat.{add-zero, add-suc, suc-mul, zero-mul, mul-zero, mul-one, mul-add, dvd-zero, dvd-add, dvd_trans, dvd-mul_left, div-mul_cancel, mul-add-div_right, div-eq_of_lt, mul-le-mul_right, lt_of_mul-lt-mul_right}
use lib.Pow.{pow_pos}
use lib.Dec.{T, leb, ltb, eqb, leb→le, le→leb, lt→ltb, ltb→lt, eqb→eq}
use Rattle.rules.specs.Rules.{Range, Book, down, up, put, remove, free_at, full, fit, serves, put_if, taken, joined, lower, upper, given, Answer, refuse, allocate_from, allocate, Call, Free, Allocate, Reserve, step, Voucher, voucher, from, past, covers, count}
use Rattle.rules.specs.Sound.{In, Sound}
use Rattle.rules_laws.proofs.Lists.{if, and_l, and_r, and_i, same_test, Found, found}
use Rattle.rules_laws.proofs.Kept.{Takes, Gives, in-put→, in-remove→, free→, free←}
use Rattle.rules_laws.proofs.Outcomes.{Outcome, refusal, took, gave, outcome}

-- ---- ranges

pub record Ends (d : ℕ) (r : Range) : Type 0 where
  pub start : d ∣ r.start
  pub past : d ∣ suc r.last

-- all free ranges have such ends
abbrev pub Blocks : ℕ → Book → Type 0
Blocks d b = (r : Range) → In r b.chain → Ends d r

module _ (d : ℕ) where
  blocks-put : (r : Range) (b : Book) → Ends d r → Blocks d b → Blocks d (put r b)
  blocks-put r b e h q i = elim (in-put→ r b q i) [ inl g ↦ subst (Ends d) (sym g) e | inr j ↦ h q j ]

  blocks-put_if : (c : Bool) (r : Range) (b : Book) → (T c → Ends d r) → Blocks d b → Blocks d (put_if c r b)
  blocks-put_if true r b e h = blocks-put r b (e tt) h
  blocks-put_if false r b e h = h

  blocks-remove : (r : Range) (b : Book) → Blocks d b → Blocks d (remove r b)
  blocks-remove r b h q i = h q (in-remove→ r b q i).0

  blocks-taken : (n : ℕ) (b : Book) (r : Range) (a t : ℕ) → Takes n b r a t → d ∣ a → d ∣ t → Blocks d b → Blocks d (taken n r a t b)
  unfolding taken
  blocks-taken n b r a t k ea et h =
      blocks-put_if (leb t r.last) _ _ (λ l. record { start = et; past = (h r k.member).past })
      (blocks-put_if (ltb r.start a) _ _
      (λ l. let g = ltb→lt r.start a l in record { start = (h r k.member).start; past = subst (λ (x : ℕ). d ∣ x) (let e : a ≡ suc (a - 1) = omega arith in e) ea })
      (blocks-remove r b h))

  blocks-joined : (i a t : ℕ) (lo hi : Option Range) (p q : Range → Bool) (b : Book) → Found p b.chain lo → Found q b.chain hi
      → d ∣ a → d ∣ suc (t - 1) → Blocks d b → Blocks d (joined i a t lo hi b)
  unfolding joined
  blocks-joined i a t none none p q b f g ea et h = blocks-put _ _ (record { start = ea; past = et }) h
  blocks-joined i a t none (some u) p q b f g ea et h = blocks-put _ _ (record { start = ea; past = (h u g.0).past }) (blocks-remove u b h)
  blocks-joined i a t (some l) none p q b f g ea et h = blocks-put _ _ (record { start = (h l f.0).start; past = et }) (blocks-remove l b h)
  blocks-joined i a t (some l) (some u) p q b f g ea et h =
      blocks-put _ _ (record { start = (h l f.0).start; past = (h u g.0).past }) (blocks-remove u (remove l b) (blocks-remove l b h))

  blocks-given : (n : ℕ) (b : Book) (a t : ℕ) → Gives n b a t → d ∣ a → d ∣ t → Blocks d b → Blocks d (given n a t b)
  unfolding given
  blocks-given n b a t k ea et h =
      blocks-joined _ a t (lower a b) (upper t b) _ _ b (found _ b.chain) (found _ b.chain) ea
      (subst (λ (x : ℕ). d ∣ x) (let s = k.some_byte in let e : t ≡ suc (t - 1) = omega arith in e) et) h

-- ---- calls

-- the call was refused, or the ends of the piece that it moved are multiples
abbrev pub Moves : ℕ → Voucher → Type 0
Moves d v = v.number ≡ 0 → (d ∣ from v.call v.address) × (d ∣ past v.call v.address)

after-blocks : (d n : ℕ) (b : Book) (c : Call) (w : Answer) → Outcome n b c w → Moves d (voucher c w) → Blocks d b → Blocks d w.book
after-blocks d n b c _ (refusal k h m) f e = e
after-blocks d n b c _ (took x r g h) f e = let w = f refl in blocks-taken d n b r (from c x) (past c x) h w.0 w.1 e
after-blocks d n b c _ (gave g h) f e = let w = f refl in blocks-given d n b (from c 0) (past c 0) h w.0 w.1 e

pub step-blocks : (d n : ℕ) (b : Book) (c : Call) → Sound n b → Moves d (voucher c (step n c b)) → Blocks d b → Blocks d (step n c b).book
step-blocks d n b c s = after-blocks d n b c (step n c b) (outcome n b c s)

-- ---- which calls move such pieces

-- rounding up gives a multiple of what the power is a multiple of; and leaves alone what is a multiple of the power
pub up_multiple : (d o x : ℕ) → d ∣ 2 ^ o → d ∣ up o x
unfolding up
up_multiple d o x h = dvd_trans d h (dvd-mul_left (2 ^ o) ((x + (2 ^ o - 1)) / 2 ^ o))

pub up-stays : (o x : ℕ) → 2 ^ o ∣ x → up o x ≡ x
unfolding up
up-stays o x h =
    let p = pow_pos o in
    let q : x / 2 ^ o * 2 ^ o ≡ x = div-mul_cancel (2 ^ o) h in
    let e : (x / 2 ^ o * 2 ^ o + (2 ^ o - 1)) / 2 ^ o ≡ x / 2 ^ o + (2 ^ o - 1) / 2 ^ o = mul-add-div_right p (x / 2 ^ o) (2 ^ o - 1) in
    let z : (2 ^ o - 1) / 2 ^ o ≡ 0 = div-eq_of_lt (omega arith) in
    let f : (x + (2 ^ o - 1)) / 2 ^ o ≡ x / 2 ^ o = subst (λ (y : ℕ). (y + (2 ^ o - 1)) / 2 ^ o ≡ x / 2 ^ o) q (omega arith) in
    subst (λ (y : ℕ). y * 2 ^ o ≡ x) (sym f) q

-- the power of the order is a multiple of d, or d of it
abbrev pub Agrees : ℕ → ℕ → Type 0
Agrees d o = (d ∣ 2 ^ o) ⊎ (2 ^ o ∣ d)

pub up-agrees : (d o x : ℕ) → Agrees d o → d ∣ x → d ∣ up o x
up-agrees d o x (inl h) g = up_multiple d o x h
up-agrees d o x (inr h) g = subst (λ (y : ℕ). d ∣ y) (sym (up-stays o x (dvd_trans (2 ^ o) h g))) g

module _ (P : ℕ → Type 0) (zeroed : P 0) where
  refuse-address : (q : Bool) (k : ℕ) (b : Book) (w : Answer) → P w.address → P (refuse q k b w).address
  unfolding refuse
  refuse-address q k b w h = if q (λ (v : Answer). P v.address) (λ _. zeroed) (λ _. h)

  -- the address of a take: 0 where it is refused, else the start of a free range, rounded up
  allocated-address : (n z o : ℕ) (b : Book) (m : Option Range) → Found (λ r. serves (not (full n b)) (fit z o r)) b.shelf m
      → ((r : Range) → In r b.shelf → P (up o r.start)) → P (allocate_from n z o b m).address
  unfolding allocate_from
  allocated-address n z o b none f h = zeroed
  allocated-address n z o b (some r) f h = h r f.0

  pub allocate-address : (n z o : ℕ) (b : Book) → Sound n b → ((r : Range) → In r b.chain → P (up o r.start)) → P (allocate n z o b).address
  unfolding allocate
  allocate-address n z o b s h =
      refuse-address _ _ b _ (refuse-address _ _ b _ (refuse-address _ _ b _ (refuse-address _ _ b _
      (allocated-address n z o b _ (found (λ r. serves (not (full n b)) (fit z o r)) b.shelf) (λ r i. h r ((s.same r).1 i))))))

-- the numbers of the call are multiples: of a free both, of a take the size, of a reserve the ends of the widened piece
abbrev pub Whole : ℕ → Call → Type 0
Whole d (Free s z) = (d ∣ s) × (d ∣ z)
Whole d (Allocate z o) = (d ∣ z) × Agrees d o
Whole d (Reserve s z o) = (d ∣ down o s) × (d ∣ up o (s + z))

pub whole-moves : (d n : ℕ) (b : Book) (c : Call) → Sound n b → Blocks d b → Whole d c → Moves d (voucher c (step n c b))
unfolding step
whole-moves d n b (Free s z) h e w = λ _. (w.0, dvd-add d w.0 w.1)
whole-moves d n b (Allocate z o) h e w = λ _.
    let x = allocate-address (λ (y : ℕ). d ∣ y) (dvd-zero d) n z o b h (λ r i. up-agrees d o r.start w.1 (e r i).start) in
    (x, dvd-add d x w.0)
whole-moves d n b (Reserve s z o) h e w = λ _. w

-- ---- blocks of d bytes: block k is the bytes from k * d on

module _ (d k i : ℕ) (inside : i < d) where
  -- what begins at a multiple and reaches into the block, reaches its first byte; what ends at one and is past the first, is past the others
  pub block-from : (a : ℕ) → d ∣ a → a ≤ k * d + i → a ≤ k * d
  block-from a h g =
      let q : a / d * d ≡ a = div-mul_cancel d h in
      let s = suc-mul k d in
      let lt : a / d < suc k = lt_of_mul-lt-mul_right d (omega arith) in
      let le : a / d * d ≤ k * d = mul-le-mul_right d (omega arith) in
      omega arith

  pub block-past : (t : ℕ) → d ∣ t → k * d < t → k * d + i < t
  block-past t h g =
      let q : t / d * d ≡ t = div-mul_cancel d h in
      let s = suc-mul k d in
      let lt : k < t / d = lt_of_mul-lt-mul_right d (omega arith) in
      let le : suc k * d ≤ t / d * d = mul-le-mul_right d lt in
      omega arith

  -- the bytes of a block are free like the first,
  pub block-free : (b : Book) → Blocks d b → free_at b (k * d + i) ≡ free_at b (k * d)
  block-free b h = same_test _ _
      (λ t. let w = free→ b (k * d + i) t in free← b (k * d) w.0 w.1 (block-from w.0.start (h w.0 w.1).start w.2) (omega (arith, w.3)))
      (λ t. let w = free→ b (k * d) t in
      free← b (k * d + i) w.0 w.1 (omega (arith, w.2)) (let g = block-past (suc w.0.last) (h w.0 w.1).past (omega (arith, w.3)) in omega arith))

  -- and covered like the first
  pub block-covered : (v : Voucher) → Moves d v → covers v (k * d + i) ≡ covers v (k * d)
  block-covered v h =
      let a = from v.call v.address in
      let t = past v.call v.address in
      let n = eqb v.number 0 in
      same_test _ _
      (λ u. let e = and_l n _ u in
      let w = and_r n (leb a (k * d + i) && ltb (k * d + i) t) u in
      let le = leb→le a (k * d + i) (and_l (leb a (k * d + i)) _ w) in
      let lt = ltb→lt (k * d + i) t (and_r (leb a (k * d + i)) (ltb (k * d + i) t) w) in
      and_i n _ e (and_i (leb a (k * d)) _ (le→leb a (k * d) (block-from a (h (eqb→eq v.number 0 e)).0 le)) (lt→ltb (k * d) t (omega arith))))
      (λ u. let e = and_l n _ u in
      let w = and_r n (leb a (k * d) && ltb (k * d) t) u in
      let le = leb→le a (k * d) (and_l (leb a (k * d)) _ w) in
      let lt = ltb→lt (k * d) t (and_r (leb a (k * d)) (ltb (k * d) t) w) in
      and_i n _ e (and_i (leb a (k * d + i)) _ (le→leb a (k * d + i) (omega arith)) (lt→ltb (k * d + i) t (block-past t (h (eqb→eq v.number 0 e)).1 lt))))

-- ---- counting blocks

count-more : (a m : ℕ) (p : ℕ → Bool) → count (a + m) p ≡ count m (λ i. p (a + i)) + count a p
unfolding count
count-more a zero p = ap (λ (x : ℕ). count x p) (add-zero a) ∙ (let e : count a p ≡ 0 + count a p = omega arith in e)
count-more a (suc m) p = ap (λ (x : ℕ). count x p) (add-suc a m) ∙ (let h = count-more a m p in let e : cond (p (a + m)) 1 0 + count (a + m) p ≡ cond (p (a + m)) 1 0 + count m (λ i. p (a + i)) + count a p = omega arith in e)

count_same : (m : ℕ) (p : ℕ → Bool) (c : Bool) → ((i : ℕ) → i < m → p i ≡ c) → count m p ≡ cond c m 0
unfolding count
count_same zero p true h = refl
count_same zero p false h = refl
count_same (suc m) p true h = let g = count_same m p true (λ i j. h i (omega arith)) in rw (h m (omega arith)) (omega arith)
count_same (suc m) p false h = let g = count_same m p false (λ i j. h i (omega arith)) in rw (h m (omega arith)) (omega arith)

-- where the bytes of each block are like its first, they are d times as many as such blocks
pub count-blocks : (d k : ℕ) (p : ℕ → Bool) → ((j i : ℕ) → i < d → p (j * d + i) ≡ p (j * d)) → count (k * d) p ≡ d * count k (λ j. p (j * d))
unfolding count
count-blocks d zero p h = ap (λ (m : ℕ). count m p) (zero-mul d) ∙ sym (mul-zero d)
count-blocks d (suc k) p h =
    ap (λ (m : ℕ). count m p) (suc-mul k d) ∙ count-more (k * d) d p ∙ go (p (k * d)) (count_same d (λ i. p (k * d + i)) (p (k * d)) (h k)) (count-blocks d k p h)
  where
    go : (c : Bool) → count d (λ i. p (k * d + i)) ≡ cond c d 0 → count (k * d) p ≡ d * count k (λ j. p (j * d)) → count d (λ i. p (k * d + i)) + count (k * d) p ≡ d * (cond c 1 0 + count k (λ j. p (j * d)))
    go true e f = let m = mul-add d 1 (count k (λ j. p (j * d))) in let o = mul-one d in omega arith
    go false e f = let m = mul-add d 0 (count k (λ j. p (j * d))) in let o = mul-zero d in omega arith
