-- The ranges on either side of a place in the chain. Assumes nothing.
use Prim.Native.Nat.{ℕ, suc, ◌+◌, ◌<◌, ◌≤◌}
use mathlib.Core.Logic.{◌≢◌, ◌⊎◌, inl, inr}
use mathlib.Core.List.{List, [], ◌∷◌, ◌++◌}
use mathlib.Core.Option.{none, some}
use mathlib.Core.Path.{◌≡◌, refl, sym, ap, ◌∙◌, subst}
use lib.Dec.{T, leb, leb→le, le→leb}
use native.Mathlib.Omega.{arith}
use Rattle.linked_lists.specs.Links as links
use Rattle.rules.specs.Rules.{Range, start_of, contains, find}
use Rattle.rules.specs.Sound.{In, Pairwise, Ahead, Good}
use Rattle.rules_laws.proofs.Lists.{find-one, find_none, and_l, and_r, and_i}
use Rattle.pool_state.specs.Shown.{numbers, Stops, Gapped}
use Rattle.pool_state.proofs.Walks.{in_right, in_left, in_either}

-- the last range of a list that has one
last-range : (m : ℕ) (p : Range) (l : List Range) → (i : List Range) × (r : Range) × (p ∷ l ≡ i ++ (r ∷ [])) × (links.last_from m (numbers (p ∷ l)) ≡ r.number)
last-range m p [] = ([], p, refl, refl)
last-range m p (q ∷ l) = let w = last-range p.number q l in (p ∷ w.0, w.1, ap (λ (k : List Range). p ∷ k) w.2, w.3)

pair-last : (R : Range → Range → Type 0) (l : List Range) (r : Range) (u : List Range) → Pairwise R ((l ++ (r ∷ [])) ++ u) → (p : Range) → In p l → R p r
pair-last R [] r u h p x'' = elim x'' [ ]
pair-last R (q ∷ l) r u h p (inl e) = subst (λ (x : Range). R x r) (sym e) (h.0 r (in_left r (l ++ (r ∷ [])) u (in_right r l (r ∷ []) (inl refl))))
pair-last R (q ∷ l) r u h p (inr i) = pair-last R l r u h.1 p i

pub pair_left : (R : Range → Range → Type 0) (l u : List Range) → Pairwise R (l ++ u) → Pairwise R l
pair_left R [] u h = tt
pair_left R (q ∷ l) u h = (λ p i. h.0 p (in_left p l u i), pair_left R l u h.1)

pub pair-right : (R : Range → Range → Type 0) (l u : List Range) → Pairwise R (l ++ u) → Pairwise R u
pair-right R [] u h = h
pair-right R (q ∷ l) u h = pair-right R l u h.1

module _ (n : ℕ) (small : n ≤ links.none) (c : List Range) (good : (r : Range) → In r c → Good n r) (apart : Pairwise Ahead c)
    (s x y : ℕ) (g : Gapped start_of c s x y) where
  abbrev low : List Range
  low = g.walked.passed

  abbrev high : List Range
  high = g.walked.rest

  parted-in : (q : Range) → In q c → In q low ⊎ In q high
  parted-in q m = in_either q low high (rw g.walked.parts at m)

  from_low : (q : Range) → In q low → In q c
  from_low q m = rw g.walked.parts (in_left q low high m)

  from-high : (q : Range) → In q high → In q c
  from-high q m = rw g.walked.parts (in_right q low high m)

  pub high-starts : (q : Range) → In q high → s ≤ q.start
  high-starts q m = go high g.stops (pair-right Ahead low high (rw g.walked.parts at apart)) (λ p i. (good p (from-high p i)).proper) m
    where
      go : (u : List Range) → Stops start_of s u → Pairwise Ahead u → ((p : Range) → In p u → p.start ≤ p.last) → In q u → s ≤ q.start
      go [] t h f i = absurd i
      go (p ∷ u) t h f (inl e) = subst (λ (z : Range). s ≤ z.start) (sym e) t
      go (p ∷ u) t h f (inr i) = let a = h.0 q i in let b = f p (inl refl) in omega arith

  -- ---- the range below

  pub record Below : Type 0 where
    pub range : Range
    pub member : In range c
    pub number : x ≡ range.number
    pub starts : range.start < s
    pub others : (q : Range) → In q c → (q ≡ range) ⊎ (Ahead q range ⊎ (s ≤ q.start))

  pub below : x ≢ links.none → Below
  below d = go low refl
    where
      go : (l : List Range) → low ≡ l → Below
      go [] e = absurd (d (g.walked.low ∙ ap (λ (k : List Range). links.last_from links.none (numbers k)) e))
      go (p ∷ l) e =
          let w = last-range links.none p l in
          let r = w.1 in
          let el : low ≡ w.0 ++ (r ∷ []) = e ∙ w.2 in
          let here : In r low = rw el (in_right r w.0 (r ∷ []) (inl refl)) in
          record {
            range = r;
            member = from_low r here;
            number = g.walked.low ∙ ap (λ (k : List Range). links.last_from links.none (numbers k)) e ∙ w.3;
            starts = g.walked.smaller r here;
            others = λ q m. elim (parted-in q m) [
              | inr i ↦ inr (inr (high-starts q i))
              | inl i ↦ elim (in_either q w.0 (r ∷ []) (rw el at i)) [
                | inl j ↦ inr (inl (pair-last Ahead w.0 r high (rw (g.walked.parts ∙ ap (λ (k : List Range). k ++ high) el) at apart) q j))
                | inr j ↦ elim j [ inl f ↦ inl f | inr f ↦ absurd f ]
              ]
            ];
          }

  pub none_below : x ≡ links.none → (q : Range) → In q c → s ≤ q.start
  none_below d q m = elim (parted-in q m) [
    | inr i ↦ high-starts q i
    | inl i ↦ go low refl i
  ]
    where
      go : (l : List Range) → low ≡ l → In q l → s ≤ q.start
      go [] e i = absurd i
      go (p ∷ l) e i =
          let w = last-range links.none p l in
          let here : In w.1 low = rw (e ∙ w.2) (in_right w.1 w.0 (w.1 ∷ []) (inl refl)) in
          let k = (good w.1 (from_low w.1 here)).known in
          let f : links.none ≡ w.1.number = sym d ∙ g.walked.low ∙ ap (λ (k : List Range). links.last_from links.none (numbers k)) e ∙ w.3 in
          absurd (let z : ⊥ = omega arith in z)

  -- ---- the range above

  pub record Above : Type 0 where
    pub range : Range
    pub member : In range c
    pub number : y ≡ range.number
    pub starts : s ≤ range.start
    pub others : (q : Range) → In q c → (q ≡ range) ⊎ (Ahead range q ⊎ (q.start < s))

  pub above : y ≢ links.none → Above
  above d = go high refl
    where
      go : (u : List Range) → high ≡ u → Above
      go [] e = absurd (d (g.walked.high ∙ ap (λ (k : List Range). links.head (numbers k)) e))
      go (r ∷ u) e =
          let here : In r high = rw e (inl refl) in
          let h : Pairwise Ahead (r ∷ u) = rw e at (pair-right Ahead low high (rw g.walked.parts at apart)) in
          record {
            range = r;
            member = from-high r here;
            number = g.walked.high ∙ ap (λ (k : List Range). links.head (numbers k)) e;
            starts = high-starts r here;
            others = λ q m. elim (parted-in q m) [
              | inl i ↦ inr (inr (g.walked.smaller q i))
              | inr i ↦ elim (rw e at i) [ inl f ↦ inl f | inr j ↦ inr (inl (h.0 q j)) ]
            ];
          }

  pub none_above : y ≡ links.none → (q : Range) → In q c → q.start < s
  none_above d q m = elim (parted-in q m) [
    | inl i ↦ g.walked.smaller q i
    | inr i ↦ go high refl i
  ]
    where
      go : (u : List Range) → high ≡ u → In q u → q.start < s
      go [] e i = absurd i
      go (p ∷ u) e i =
          let k = (good p (from-high p (rw e (inl refl)))).known in
          let f : links.none ≡ p.number = sym d ∙ g.walked.high ∙ ap (λ (k : List Range). links.head (numbers k)) e in
          absurd (let z : ⊥ = omega arith in z)

-- ---- the range that holds a piece

contains→ : (a t : ℕ) (r : Range) → T (contains a t r) → (r.start ≤ a) × (t ≤ suc r.last)
contains→ a t r h = (leb→le r.start a (and_l (leb r.start a) (leb t (suc r.last)) h), leb→le t (suc r.last) (and_r (leb r.start a) (leb t (suc r.last)) h))

module _ (n : ℕ) (small : n ≤ links.none) (c : List Range) (good : (r : Range) → In r c → Good n r) (apart : Pairwise Ahead c)
    (a t x y : ℕ) (some_byte : a < t) (g : Gapped start_of c (a + 1) x y) where
  pub none-contains : x ≡ links.none → find (contains a t) c ≡ none
  none-contains d = find_none (contains a t) c
      (λ q m h. let w = contains→ a t q h in let k = none_below n small c good apart (a + 1) x y g d q m in omega arith)

  module _ (b : Below n small c good apart (a + 1) x y g) where
    -- any range that holds the piece is the one below
    only_below : (q : Range) → In q c → T (contains a t q) → q ≡ b.range
    only_below q m h = let w = contains→ a t q h in elim (b.others q m) [
      | inl e ↦ e
      | inr e ↦ elim e [ inl k ↦ absurd (let i = b.starts in let z : ⊥ = omega arith in z) | inr k ↦ absurd (let z : ⊥ = omega arith in z) ]
    ]

    pub short-contains : suc b.range.last < t → find (contains a t) c ≡ none
    short-contains h = find_none (contains a t) c
        (λ q m k. let w = contains→ a t q k in let e = ap (λ (r : Range). r.last) (only_below q m k) in omega arith)

    pub long-contains : t ≤ suc b.range.last → find (contains a t) c ≡ some b.range
    long-contains h = find-one (contains a t) c b.range b.member
        (and_i (leb b.range.start a) (leb t (suc b.range.last)) (le→leb b.range.start a (let i = b.starts in omega arith)) (le→leb t (suc b.range.last) h))
        only_below
