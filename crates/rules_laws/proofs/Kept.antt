-- Taking and giving keep a book sound; which bytes are free afterwards. Assumes nothing.
use mathlib.Core.Path.{◌≡◌, refl, sym, ap, subst}
use mathlib.Core.Logic.{◌≢◌, ◌⊎◌, inl, inr}
use mathlib.Core.Bool.{Bool, true, false, cond}
use mathlib.Core.Option.{Option, none, some}
use Prim.Native.Nat.{ℕ, suc, ◌-◌, ◌≤◌, ◌<◌}
use native.Mathlib.Omega.{arith}
use lib.Dec.{T, leb, ltb, eqb, leb→le, le→leb, lt→ltb, ltb→lt, nltb→le, eqb→eq}
use Rattle.rules.specs.Rules.{top, Range, range, start_of, size, Book, empty, put, remove, unused, holds, free_at, splits, put_if, taken, lower, upper, joined, given, alone}
use Rattle.rules.specs.Sound.{In, Pairwise, Ahead, Apart, Other, Smaller, Good, Sound}
use Rattle.rules_laws.proofs.Lists.{if, and_l, and_r, and_i, T-no, T-or-not, neq, weaker, compared, in-before→, in-before←, pairwise-before, in-without→, in-without←, pairwise-without, any→, any←, Found, found, lowest-unused}

pub empty-sound : (n : ℕ) → Sound n empty
empty-sound n = record { good = λ r i. absurd i; apart = tt; once = tt; sizes = tt; once-shelf = tt; same = λ r. (λ i. i, λ i. i) }

-- ---- one range put in or taken out

starts : (n : ℕ) (b : Book) → Sound n b → Pairwise (λ q p. start_of q ≤ start_of p) b.chain
starts n b s = weaker Ahead (λ q p. start_of q ≤ start_of p) b.chain (λ q p i j a. omega (arith, (s.good q i).proper)) s.apart

pub put-sound : (n : ℕ) (b : Book) (r : Range) → Sound n b → Good n r → ((q : Range) → In q b.chain → Other r q × Apart r q) → Sound n (put r b)
unfolding put
put-sound n b r s g f = record {
  good = λ q i. elim (in-before→ start_of r b.chain q i) [ inl e ↦ subst (λ (x : Range). Good n x) (sym e) g | inr j ↦ s.good q j ];
  apart = pairwise-before start_of Ahead r b.chain (starts n b s) s.apart
      (λ q i h. elim (f q i).1 [ inl a ↦ absurd (omega (arith, (s.good q i).proper)) | inr a ↦ a ])
      (λ q i h. elim (f q i).1 [ inl a ↦ a | inr a ↦ absurd (omega (arith, g.proper)) ]);
  once = pairwise-before start_of Other r b.chain (starts n b s) s.once (λ q i h. (f q i).0) (λ q i h e. (f q i).0 (sym e));
  sizes = pairwise-before size Smaller r b.shelf s.sizes s.sizes (λ q i h. h) (λ q i h. omega arith);
  once-shelf = pairwise-before size Other r b.shelf s.sizes s.once-shelf
      (λ q i h. (f q ((s.same q).1 i)).0) (λ q i h e. (f q ((s.same q).1 i)).0 (sym e));
  same = λ q. (
    λ i. in-before← size r b.shelf q (elim (in-before→ start_of r b.chain q i) [ inl e ↦ inl e | inr j ↦ inr ((s.same q).0 j) ]),
    λ i. in-before← start_of r b.chain q (elim (in-before→ size r b.shelf q i) [ inl e ↦ inl e | inr j ↦ inr ((s.same q).1 j) ]),
  );
}

pub remove-sound : (n : ℕ) (b : Book) (r : Range) → Sound n b → Sound n (remove r b)
unfolding remove
remove-sound n b r s = record {
  good = λ q i. s.good q (in-without→ r.number b.chain q i).0;
  apart = pairwise-without r.number Ahead b.chain s.apart;
  once = pairwise-without r.number Other b.chain s.once;
  sizes = pairwise-without r.number Smaller b.shelf s.sizes;
  once-shelf = pairwise-without r.number Other b.shelf s.once-shelf;
  same = λ q. (
    λ i. let w = in-without→ r.number b.chain q i in in-without← r.number b.shelf q ((s.same q).0 w.0) w.1,
    λ i. let w = in-without→ r.number b.shelf q i in in-without← r.number b.chain q ((s.same q).1 w.0) w.1,
  );
}

-- the members afterwards
pub in-put→ : (r : Range) (b : Book) (q : Range) → In q (put r b).chain → (q ≡ r) ⊎ In q b.chain
unfolding put
in-put→ r b q i = in-before→ start_of r b.chain q i

pub in-put← : (r : Range) (b : Book) (q : Range) → (q ≡ r) ⊎ In q b.chain → In q (put r b).chain
unfolding put
in-put← r b q i = in-before← start_of r b.chain q i

pub in-remove→ : (r : Range) (b : Book) (q : Range) → In q (remove r b).chain → In q b.chain × Other r q
unfolding remove
in-remove→ r b q i = in-without→ r.number b.chain q i

pub in-remove← : (r : Range) (b : Book) (q : Range) → In q b.chain → Other r q → In q (remove r b).chain
unfolding remove
in-remove← r b q i d = in-without← r.number b.chain q i d

in-put_if→ : (c : Bool) (r : Range) (b : Book) (q : Range) → In q (put_if c r b).chain → (T c × (q ≡ r)) ⊎ In q b.chain
in-put_if→ true r b q i = elim (in-put→ r b q i) [ inl e ↦ inl (tt, e) | inr j ↦ inr j ]
in-put_if→ false r b q i = inr i

in-put_if← : (c : Bool) (r : Range) (b : Book) (q : Range) → (T c × (q ≡ r)) ⊎ In q b.chain → In q (put_if c r b).chain
in-put_if← true r b q (inl e) = in-put← r b q (inl e.1)
in-put_if← true r b q (inr i) = in-put← r b q (inr i)
in-put_if← false r b q (inl e) = absurd e.0
in-put_if← false r b q (inr i) = i

put_if-sound : (n : ℕ) (c : Bool) (b : Book) (r : Range) → Sound n b → (T c → Good n r)
    → (T c → (q : Range) → In q b.chain → Other r q × Apart r q) → Sound n (put_if c r b)
put_if-sound n true b r s g f = put-sound n b r s (g tt) (f tt)
put_if-sound n false b r s g f = s

-- a member, or one that is apart and has another record
pub same_number : (n : ℕ) (b : Book) (q p : Range) → Sound n b → In q b.chain → In p b.chain → q.number ≡ p.number → q ≡ p
same_number n b q p s i j e = elim (compared Other b.chain s.once q p i j) [ inl h ↦ h | inr h ↦ elim h [ inl d ↦ absurd (d e) | inr d ↦ absurd (d (sym e)) ] ]

pub others_apart : (n : ℕ) (b : Book) (q p : Range) → Sound n b → In q b.chain → In p b.chain → Other q p → Apart q p
others_apart n b q p s i j d = elim (compared Ahead b.chain s.apart q p i j) [ inl h ↦ absurd (d (ap (λ (x : Range). x.number) h)) | inr h ↦ elim h [ inl a ↦ inr a | inr a ↦ inl a ] ]

-- ---- free bytes

pub free→ : (b : Book) (x : ℕ) → T (free_at b x) → (r : Range) × In r b.chain × (r.start ≤ x) × (x ≤ r.last)
unfolding free_at
free→ b x t = let w = any→ (holds x) b.chain t in
    (w.0, w.1, leb→le w.0.start x (and_l (leb w.0.start x) (leb x w.0.last) w.2), leb→le x w.0.last (and_r (leb w.0.start x) (leb x w.0.last) w.2))

pub free← : (b : Book) (x : ℕ) (r : Range) → In r b.chain → r.start ≤ x → x ≤ r.last → T (free_at b x)
unfolding free_at
free← b x r i h k = any← (holds x) b.chain r i (and_i (leb r.start x) (leb x r.last) (le→leb r.start x h) (le→leb x r.last k))

-- ---- taking

-- what a call that takes has seen to: the piece is in a free range, and there is a record if it splits that
pub record Takes (n : ℕ) (b : Book) (r : Range) (a t : ℕ) : Type 0 where
  pub member : In r b.chain
  pub from : r.start ≤ a
  pub some_byte : a < t
  pub to : t ≤ suc r.last
  pub room : T (splits a t r) → unused n b < n

pub unused-other : (n : ℕ) (b : Book) → unused n b < n → (q : Range) → In q b.chain → unused n b ≢ q.number
unfolding unused
unused-other n b h q i = lowest-unused n 0 b.chain (omega arith) q i

module _ (n : ℕ) (b : Book) (r : Range) (a t : ℕ) (s : Sound n b) (k : Takes n b r a t) where
  low-piece : Range
  low-piece = range r.number r.start (a - 1)

  high-number : ℕ
  high-number = cond (ltb r.start a) (unused n b) r.number

  high-piece : Range
  high-piece = range high-number t r.last

  room : T (ltb r.start a) → t ≤ r.last → unused n b < n
  room low high = k.room (and_i (ltb r.start a) (leb t r.last) low (le→leb t r.last high))

  high-known : t ≤ r.last → high-number < n
  unfolding high-number
  high-known h = if (ltb r.start a) (λ x. x < n) (λ l. room l h) (λ l. (s.good r k.member).known)

  high-other : t ≤ r.last → (q : Range) → In q b.chain → Other r q → high-number ≢ q.number
  unfolding high-number
  high-other h q i d = if (ltb r.start a) (λ x. x ≢ q.number) (λ l. unused-other n b (room l h) q i) (λ l. d)

  high-new : t ≤ r.last → T (ltb r.start a) → high-number ≢ r.number
  unfolding high-number
  high-new h l = if (ltb r.start a) (λ x. x ≢ r.number) (λ l. unused-other n b (room l h) r k.member) (λ m. absurd (T-no (ltb r.start a) m l))

  low-sound : Sound n (put_if (ltb r.start a) low-piece (remove r b))
  unfolding low-piece
  low-sound = put_if-sound n (ltb r.start a) (remove r b) low-piece (remove-sound n b r s)
      (λ l. let h = ltb→lt r.start a l in let g = s.good r k.member in record { known = g.known; proper = omega arith; below = omega (arith, k.to, k.some_byte) })
      (λ l q i. let h = ltb→lt r.start a l in let w = in-remove→ r b q i in
      (w.1, elim (others_apart n b r q s k.member w.0 w.1) [ inl h ↦ inl h | inr h ↦ inr (omega (arith, k.to, k.some_byte)) ]))

  pub taken-sound : Sound n (taken n r a t b)
  unfolding taken low-piece high-piece high-number
  taken-sound = put_if-sound n (leb t r.last) (put_if (ltb r.start a) low-piece (remove r b)) high-piece low-sound
      (λ l. let h = leb→le t r.last l in let g = s.good r k.member in record { known = high-known h; proper = h; below = g.below })
      (λ l q i. let h = leb→le t r.last l in elim (in-put_if→ (ltb r.start a) low-piece (remove r b) q i) [
        | inl e ↦ (
          subst (λ (x : Range). Other high-piece x) (sym e.1) (high-new h e.0),
          inl (subst (λ (x : Range). Ahead x high-piece) (sym e.1) (let g = ltb→lt r.start a e.0 in omega (arith, k.some_byte))),
        )
        | inr j ↦ let w = in-remove→ r b q j in (
          high-other h q w.0 w.1,
          elim (others_apart n b r q s k.member w.0 w.1) [ inl g ↦ inl (omega (arith, k.from, k.some_byte)) | inr g ↦ inr g ],
        )
      ])

  -- exactly the bytes of the piece are no longer free
  pub taken-free→ : (x : ℕ) → T (free_at (taken n r a t b) x) → T (free_at b x) × ((x < a) ⊎ (t ≤ x))
  unfolding taken low-piece high-piece high-number
  taken-free→ x f = let w = free→ (taken n r a t b) x f in
      elim (in-put_if→ (leb t r.last) high-piece (put_if (ltb r.start a) low-piece (remove r b)) w.0 w.1) [
        | inl e ↦ let e1 : w.0.start ≡ t = ap (λ (q : Range). q.start) e.1 in let e2 : w.0.last ≡ r.last = ap (λ (q : Range). q.last) e.1 in
            (free← b x r k.member (omega (arith, k.from, k.some_byte)) (omega arith), inr (omega arith))
        | inr j ↦ elim (in-put_if→ (ltb r.start a) low-piece (remove r b) w.0 j) [
          | inl e ↦ let e1 : w.0.start ≡ r.start = ap (λ (q : Range). q.start) e.1 in let e2 : w.0.last ≡ a - 1 = ap (λ (q : Range). q.last) e.1 in
              let h = ltb→lt r.start a e.0 in
              (free← b x r k.member (omega arith) (omega (arith, k.to, k.some_byte)), inl (omega arith))
          | inr m ↦ let v = in-remove→ r b w.0 m in (
            free← b x w.0 v.0 w.2 w.3,
            elim (others_apart n b r w.0 s k.member v.0 v.1) [ inl h ↦ inl (omega (arith, k.from)) | inr h ↦ inr (omega (arith, k.to)) ],
          )
        ]
      ]

  pub taken-free← : (x : ℕ) → T (free_at b x) → (x < a) ⊎ (t ≤ x) → T (free_at (taken n r a t b) x)
  unfolding taken low-piece high-piece high-number
  taken-free← x f out = let w = free→ b x f in
      elim (T-or-not (eqb r.number w.0.number)) [
        | inl e ↦ let same : w.0 ≡ r = same_number n b w.0 r s w.1 k.member (sym (eqb→eq r.number w.0.number e)) in
            let e1 : w.0.start ≡ r.start = ap (λ (q : Range). q.start) same in let e2 : w.0.last ≡ r.last = ap (λ (q : Range). q.last) same in
            elim out [
              | inl h ↦ free← (taken n r a t b) x low-piece
                  (in-put_if← (leb t r.last) high-piece (put_if (ltb r.start a) low-piece (remove r b)) low-piece
                  (inr (in-put_if← (ltb r.start a) low-piece (remove r b) low-piece (inl (lt→ltb r.start a (omega arith), refl)))))
                  (omega arith) (omega arith)
              | inr h ↦ free← (taken n r a t b) x high-piece
                  (in-put_if← (leb t r.last) high-piece (put_if (ltb r.start a) low-piece (remove r b)) high-piece (inl (le→leb t r.last (omega arith), refl)))
                  h (omega arith)
            ]
        | inr d ↦ free← (taken n r a t b) x w.0
            (in-put_if← (leb t r.last) high-piece (put_if (ltb r.start a) low-piece (remove r b)) w.0
            (inr (in-put_if← (ltb r.start a) low-piece (remove r b) w.0 (inr (in-remove← r b w.0 w.1 (neq r.number w.0.number d))))))
            w.2 w.3
      ]

  -- where nothing remains of r, its record is not used
  pub taken-whole : a ≤ r.start → r.last < t → (q : Range) → In q (taken n r a t b).chain → Other r q
  unfolding taken low-piece high-piece high-number
  taken-whole h g q i = elim (in-put_if→ (leb t r.last) high-piece (put_if (ltb r.start a) low-piece (remove r b)) q i) [
    | inl e ↦ absurd (omega (arith, leb→le t r.last e.0))
    | inr j ↦ elim (in-put_if→ (ltb r.start a) low-piece (remove r b) q j) [
      | inl e ↦ absurd (omega (arith, ltb→lt r.start a e.0))
      | inr m ↦ (in-remove→ r b q m).1
    ]
  ]

-- ---- giving

-- what an accepted free has seen to: no byte of the piece is free, and there is a record if it touches nothing
pub record Gives (n : ℕ) (b : Book) (a t : ℕ) : Type 0 where
  pub some_byte : a < t
  pub below : t ≤ top
  pub clear : (q : Range) → In q b.chain → (suc q.last ≤ a) ⊎ (t ≤ q.start)
  pub room : T (alone (lower a b) (upper t b)) → unused n b < n

-- the joined range
abbrev low_end : Option Range → ℕ → ℕ
low_end none a = a
low_end (some l) a = l.start

abbrev high_end : Option Range → ℕ → ℕ
high_end none t = t - 1
high_end (some u) t = u.last

abbrev kept : ℕ → Option Range → Option Range → ℕ
kept i none none = i
kept i none (some u) = u.number
kept i (some l) u = l.number

abbrev Beside : Option Range → Range → Type 0
Beside none q = Unit {0}
Beside (some l) q = Other l q

in-joined→ : (i a t : ℕ) (lo hi : Option Range) (b : Book) (q : Range) → In q (joined i a t lo hi b).chain
    → (q ≡ range (kept i lo hi) (low_end lo a) (high_end hi t)) ⊎ (In q b.chain × Beside lo q × Beside hi q)
unfolding joined
in-joined→ i a t none none b q m = elim (in-put→ _ _ q m) [ inl e ↦ inl e | inr j ↦ inr (j, tt, tt) ]
in-joined→ i a t none (some u) b q m = elim (in-put→ _ _ q m) [ inl e ↦ inl e | inr j ↦ let w = in-remove→ u b q j in inr (w.0, tt, w.1) ]
in-joined→ i a t (some l) none b q m = elim (in-put→ _ _ q m) [ inl e ↦ inl e | inr j ↦ let w = in-remove→ l b q j in inr (w.0, w.1, tt) ]
in-joined→ i a t (some l) (some u) b q m = elim (in-put→ _ _ q m) [
  | inl e ↦ inl e
  | inr j ↦ let w = in-remove→ u (remove l b) q j in let v = in-remove→ l b q w.0 in inr (v.0, v.1, w.1)
]

in-joined← : (i a t : ℕ) (lo hi : Option Range) (b : Book) (q : Range)
    → (q ≡ range (kept i lo hi) (low_end lo a) (high_end hi t)) ⊎ (In q b.chain × Beside lo q × Beside hi q) → In q (joined i a t lo hi b).chain
unfolding joined
in-joined← i a t none none b q (inl e) = in-put← _ _ q (inl e)
in-joined← i a t none none b q (inr m) = in-put← _ _ q (inr m.0)
in-joined← i a t none (some u) b q (inl e) = in-put← _ _ q (inl e)
in-joined← i a t none (some u) b q (inr m) = in-put← _ _ q (inr (in-remove← u b q m.0 m.2))
in-joined← i a t (some l) none b q (inl e) = in-put← _ _ q (inl e)
in-joined← i a t (some l) none b q (inr m) = in-put← _ _ q (inr (in-remove← l b q m.0 m.1))
in-joined← i a t (some l) (some u) b q (inl e) = in-put← _ _ q (inl e)
in-joined← i a t (some l) (some u) b q (inr m) = in-put← _ _ q (inr (in-remove← u (remove l b) q (in-remove← l b q m.0 m.1) m.2))

abbrev ends : ℕ → Range → Bool
ends a r = eqb (suc r.last) a

abbrev begins : ℕ → Range → Bool
begins t r = eqb r.start t

module _ (n : ℕ) (b : Book) (a t : ℕ) (s : Sound n b) (k : Gives n b a t) where
  -- a range beside both neighbours touches neither them nor the piece
  low-side : (lo : Option Range) → Found (ends a) b.chain lo → (q : Range) → In q b.chain → Beside lo q → suc q.last ≤ a → suc q.last < low_end lo a
  low-side none f q i d h = let e : suc q.last ≢ a = neq (suc q.last) a (f q i) in omega arith
  low-side (some l) f q i d h = let e = eqb→eq (suc l.last) a f.1 in
      elim (others_apart n b l q s f.0 i d) [ inl g ↦ g | inr g ↦ absurd (omega (arith, (s.good q i).proper)) ]

  high-side : (hi : Option Range) → Found (begins t) b.chain hi → (q : Range) → In q b.chain → Beside hi q → t ≤ q.start → suc (high_end hi t) < q.start
  high-side none f q i d h = let e : q.start ≢ t = neq q.start t (f q i) in omega (arith, k.some_byte)
  high-side (some u) f q i d h = let e = eqb→eq u.start t f.1 in
      elim (others_apart n b u q s f.0 i d) [ inl g ↦ absurd (omega (arith, (s.good q i).proper)) | inr g ↦ g ]

  joined-apart : (i : ℕ) (lo hi : Option Range) → Found (ends a) b.chain lo → Found (begins t) b.chain hi → (q : Range) → In q b.chain → Beside lo q → Beside hi q
      → Apart (range i (low_end lo a) (high_end hi t)) q
  joined-apart i lo hi f g q m d e = elim (k.clear q m) [ inl h ↦ inl (low-side lo f q m d h) | inr h ↦ inr (high-side hi g q m e h) ]

  low-end-le : (lo : Option Range) → Found (ends a) b.chain lo → low_end lo a ≤ a
  low-end-le none f = omega arith
  low-end-le (some l) f = let e = eqb→eq (suc l.last) a f.1 in omega (arith, (s.good l f.0).proper)

  high-end-ge : (hi : Option Range) → Found (begins t) b.chain hi → t ≤ suc (high_end hi t)
  high-end-ge none f = omega (arith, k.some_byte)
  high-end-ge (some u) f = let e = eqb→eq u.start t f.1 in omega (arith, (s.good u f.0).proper)

  high-end-top : (hi : Option Range) → Found (begins t) b.chain hi → high_end hi t < top
  high-end-top none f = omega (arith, k.some_byte, k.below)
  high-end-top (some u) f = (s.good u f.0).below

  joined-good : (i : ℕ) (lo hi : Option Range) → Found (ends a) b.chain lo → Found (begins t) b.chain hi → i < n → Good n (range i (low_end lo a) (high_end hi t))
  joined-good i lo hi f g h = record { known = h; proper = omega (arith, k.some_byte, low-end-le lo f, high-end-ge hi g); below = high-end-top hi g }

  joined-sound : (lo hi : Option Range) → Found (ends a) b.chain lo → Found (begins t) b.chain hi → (T (alone lo hi) → unused n b < n) → Sound n (joined (unused n b) a t lo hi b)
  unfolding joined
  joined-sound none none f g h = put-sound n b _ s (joined-good (unused n b) none none f g (h tt))
      (λ q i. (unused-other n b (h tt) q i, joined-apart (unused n b) none none f g q i tt tt))
  joined-sound none (some u) f g h = put-sound n (remove u b) _ (remove-sound n b u s) (joined-good u.number none (some u) f g (s.good u g.0).known)
      (λ q i. let w = in-remove→ u b q i in (w.1, joined-apart u.number none (some u) f g q w.0 tt w.1))
  joined-sound (some l) none f g h = put-sound n (remove l b) _ (remove-sound n b l s) (joined-good l.number (some l) none f g (s.good l f.0).known)
      (λ q i. let w = in-remove→ l b q i in (w.1, joined-apart l.number (some l) none f g q w.0 w.1 tt))
  joined-sound (some l) (some u) f g h = put-sound n (remove u (remove l b)) _ (remove-sound n (remove l b) u (remove-sound n b l s)) (joined-good l.number (some l) (some u) f g (s.good l f.0).known)
      (λ q i. let w = in-remove→ u (remove l b) q i in let v = in-remove→ l b q w.0 in (v.1, joined-apart l.number (some l) (some u) f g q v.0 v.1 w.1))

  pub given-sound : Sound n (given n a t b)
  unfolding given
  given-sound = joined-sound (lower a b) (upper t b) (found (ends a) b.chain) (found (begins t) b.chain) k.room

  -- a neighbour's bytes were free
  low_free : (lo : Option Range) → Found (ends a) b.chain lo → (x : ℕ) → low_end lo a ≤ x → x < a → T (free_at b x)
  low_free none f x h g = absurd (omega arith)
  low_free (some l) f x h g = let e = eqb→eq (suc l.last) a f.1 in free← b x l f.0 h (omega arith)

  high-free : (hi : Option Range) → Found (begins t) b.chain hi → (x : ℕ) → t ≤ x → x ≤ high_end hi t → T (free_at b x)
  high-free none f x h g = absurd (omega (arith, k.some_byte))
  high-free (some u) f x h g = let e = eqb→eq u.start t f.1 in free← b x u f.0 (omega arith) g

  joined-free→ : (i : ℕ) (lo hi : Option Range) → Found (ends a) b.chain lo → Found (begins t) b.chain hi → (x : ℕ)
      → T (free_at (joined i a t lo hi b) x) → T (free_at b x) ⊎ ((a ≤ x) × (x < t))
  joined-free→ i lo hi f g x p = let w = free→ (joined i a t lo hi b) x p in elim (in-joined→ i a t lo hi b w.0 w.1) [
    | inl e ↦ let e1 : w.0.start ≡ low_end lo a = ap (λ (q : Range). q.start) e in let e2 : w.0.last ≡ high_end hi t = ap (λ (q : Range). q.last) e in
        elim (T-or-not (ltb x a)) [
          | inl h ↦ inl (low_free lo f x (omega arith) (ltb→lt x a h))
          | inr h ↦ elim (T-or-not (ltb x t)) [ inl j ↦ inr (nltb→le x a h, ltb→lt x t j) | inr j ↦ inl (high-free hi g x (nltb→le x t j) (omega arith)) ]
        ]
    | inr m ↦ inl (free← b x w.0 m.0 w.2 w.3)
  ]

  low-in : (lo : Option Range) → Found (ends a) b.chain lo → (q : Range) → In q b.chain → Beside lo q ⊎ ((low_end lo a ≤ q.start) × (q.last < a))
  low-in none f q i = inl tt
  low-in (some l) f q i = elim (T-or-not (eqb l.number q.number)) [
    | inl h ↦ let same = same_number n b l q s f.0 i (eqb→eq l.number q.number h) in let e = eqb→eq (suc l.last) a f.1 in
        let e1 : l.start ≡ q.start = ap (λ (p : Range). p.start) same in let e2 : l.last ≡ q.last = ap (λ (p : Range). p.last) same in inr (omega arith, omega arith)
    | inr h ↦ inl (neq l.number q.number h)
  ]

  high-in : (hi : Option Range) → Found (begins t) b.chain hi → (q : Range) → In q b.chain → Beside hi q ⊎ ((t ≤ q.start) × (q.last ≤ high_end hi t))
  high-in none f q i = inl tt
  high-in (some u) f q i = elim (T-or-not (eqb u.number q.number)) [
    | inl h ↦ let same = same_number n b u q s f.0 i (eqb→eq u.number q.number h) in let e = eqb→eq u.start t f.1 in
        let e1 : u.start ≡ q.start = ap (λ (p : Range). p.start) same in let e2 : u.last ≡ q.last = ap (λ (p : Range). p.last) same in inr (omega arith, omega arith)
    | inr h ↦ inl (neq u.number q.number h)
  ]

  joined-free← : (i : ℕ) (lo hi : Option Range) → Found (ends a) b.chain lo → Found (begins t) b.chain hi → (x : ℕ)
      → T (free_at b x) ⊎ ((a ≤ x) × (x < t)) → T (free_at (joined i a t lo hi b) x)
  joined-free← i lo hi f g x p =
      let within : low_end lo a ≤ x → x ≤ high_end hi t → T (free_at (joined i a t lo hi b) x)
      = λ h j. free← (joined i a t lo hi b) x (range (kept i lo hi) (low_end lo a) (high_end hi t)) (in-joined← i a t lo hi b _ (inl refl)) h j in
      elim p [
        | inr h ↦ within (omega (arith, low-end-le lo f)) (omega (arith, high-end-ge hi g))
        | inl h ↦ let w = free→ b x h in elim (low-in lo f w.0 w.1) [
          | inr j ↦ within (omega arith) (omega (arith, high-end-ge hi g, k.some_byte))
          | inl d ↦ elim (high-in hi g w.0 w.1) [
            | inr j ↦ within (omega (arith, low-end-le lo f, k.some_byte)) (omega arith)
            | inl e ↦ free← (joined i a t lo hi b) x w.0 (in-joined← i a t lo hi b w.0 (inr (w.1, d, e))) w.2 w.3
          ]
        ]
      ]

  -- exactly the bytes of the piece are free besides
  pub given-free→ : (x : ℕ) → T (free_at (given n a t b) x) → T (free_at b x) ⊎ ((a ≤ x) × (x < t))
  unfolding given
  given-free→ x = joined-free→ (unused n b) (lower a b) (upper t b) (found (ends a) b.chain) (found (begins t) b.chain) x

  pub given-free← : (x : ℕ) → T (free_at b x) ⊎ ((a ≤ x) × (x < t)) → T (free_at (given n a t b) x)
  unfolding given
  given-free← x = joined-free← (unused n b) (lower a b) (upper t b) (found (ends a) b.chain) (found (begins t) b.chain) x
