-- Lists of ranges and a walk along one.
use Prim.Native.Nat.{ℕ, ◌<◌, ◌≤◌}
use mathlib.Core.Bool.{true}
use mathlib.Core.Logic.{◌≢◌, ◌⊎◌, inl, inr, ⊎_elim}
use mathlib.Core.List.{List, [], ◌∷◌, ◌++◌}
use mathlib.Core.Path.{◌≡◌, refl, sym, ap, ◌∙◌, subst}
use lib.ListN.{length, get_or, length-append}
use lib.Seq.{append_snoc}
use native.Mathlib.Omega.{arith}
use borrow.Author.Tests.{eq-eqb, ne_eqb, le-leb, lt-leb}
use Rattle.linked_lists.specs.Links.{none, head, last_from, Fresh, Listed, has, steps}
use Rattle.linked_lists.specs.Links as links
use Rattle.linked_lists.proofs.Laws.{same?, after-mid, last_snoc, steps-walk, length-listed, true≢false, has-cons}
use Rattle.rules.specs.Rules.{Range, before, without}
use Rattle.rules.specs.Sound.{In, Pairwise, Good}
use Rattle.pool_state.specs.Shown.{numbers, at, Runs, Walked, Gapped, Stops}

-- ---- numbers

pub numbers-append : (l r : List Range) → numbers (l ++ r) ≡ numbers l ++ numbers r
numbers-append [] r = refl
numbers-append (q ∷ l) r = ap (λ (k : List ℕ). q.number ∷ k) (numbers-append l r)

pub in_right : (q : Range) (l r : List Range) → In q r → In q (l ++ r)
in_right q [] r i = i
in_right q (p ∷ l) r i = inr (in_right q l r i)

pub in_left : (q : Range) (l r : List Range) → In q l → In q (l ++ r)
in_left q [] r x' = elim x' [ ]
in_left q (p ∷ l) r (inl e) = inl e
in_left q (p ∷ l) r (inr i) = inr (in_left q l r i)

pub in_either : (q : Range) (l r : List Range) → In q (l ++ r) → In q l ⊎ In q r
in_either q [] r i = inr i
in_either q (p ∷ l) r (inl e) = inl (inl e)
in_either q (p ∷ l) r (inr i) = elim (in_either q l r i) [ inl j ↦ inl (inr j) | inr j ↦ inr j ]

-- a range of the list has its number there, and back
pub in-has : (q : Range) (l : List Range) → In q l → has q.number (numbers l) ≡ true
in-has q [] x' = elim x' [ ]
in-has q (p ∷ l) (inl e) = rw (eq-eqb q.number p.number (ap (λ (x : Range). x.number) e))
in-has q (p ∷ l) (inr i) = has-cons p.number q.number (numbers l) (in-has q l i)

pub has_in : (i : ℕ) (l : List Range) → has i (numbers l) ≡ true → (q : Range) × In q l × (i ≡ q.number)
has_in i [] h = true≢false (sym h)
has_in i (p ∷ l) h = ⊎_elim
    (λ (e : i ≡ p.number). (p, inl refl, e))
    (λ (e : i ≢ p.number). let w = has_in i l (rw (ne_eqb i p.number e) at h) in (w.0, inr w.1, w.2))
    (same? i p.number)

pub fresh-numbers : (i : ℕ) (l : List Range) → ((q : Range) → In q l → i ≢ q.number) → Fresh i (numbers l)
fresh-numbers i [] h = tt
fresh-numbers i (p ∷ l) h = (h p (inl refl), fresh-numbers i l (λ q m. h q (inr m)))

pub in-fresh : (i : ℕ) (l : List Range) → Fresh i (numbers l) → (q : Range) → In q l → i ≢ q.number
in-fresh i [] f q x'' = elim x'' [ ]
in-fresh i (p ∷ l) f q (inl e) = subst (λ (x : Range). i ≢ x.number) (sym e) f.0
in-fresh i (p ∷ l) f q (inr m) = in-fresh i l f.1 q m

-- ---- a member parts a list

pub part : (r : Range) (c : List Range) → In r c → (l : List Range) × (u : List Range) × (c ≡ l ++ r ∷ u)
part r [] x' = elim x' [ ]
part r (q ∷ c) (inl e) = ([], c, ap (λ (x : Range). x ∷ c) (sym e))
part r (q ∷ c) (inr i) = let w = part r c i in (q ∷ w.0, w.1, ap (λ (k : List Range). q ∷ k) w.2)

pub pair-low : (R : Range → Range → Type 0) (l : List Range) (r : Range) (u : List Range) → Pairwise R (l ++ r ∷ u) → (p : Range) → In p l → R p r
pair-low R [] r u h p x'' = elim x'' [ ]
pair-low R (q ∷ l) r u h p (inl e) = subst (λ (x : Range). R x r) (sym e) (h.0 r (in_right r l (r ∷ u) (inl refl)))
pair-low R (q ∷ l) r u h p (inr i) = pair-low R l r u h.1 p i

pub pair-high : (R : Range → Range → Type 0) (l : List Range) (r : Range) (u : List Range) → Pairwise R (l ++ r ∷ u) → (p : Range) → In p u → R r p
pair-high R [] r u h p i = h.0 p i
pair-high R (q ∷ l) r u h p i = pair-high R l r u h.1 p i

-- ---- without and before, on ranges and on numbers

pub without-fresh : (i : ℕ) (l : List Range) → Fresh i (numbers l) → without i l ≡ l
unfolding without
without-fresh i [] f = refl
without-fresh i (p ∷ l) f = rw (ne_eqb i p.number f.0) (ap (λ (k : List Range). p ∷ k) (without-fresh i l f.1))

pub numbers-without : (n i : ℕ) (l : List Range) → Listed n (numbers l) → numbers (without i l) ≡ links.without i (numbers l)
unfolding without
numbers-without n i [] h = refl
numbers-without n i (p ∷ l) h = ⊎_elim
    (λ (e : i ≡ p.number). rw (eq-eqb i p.number e) (ap numbers (without-fresh i l (rw e h.1))))
    (λ (e : i ≢ p.number). rw (ne_eqb i p.number e) (ap (λ (k : List ℕ). p.number ∷ k) (numbers-without n i l h.2)))
    (same? i p.number)

-- r goes between those whose key is below its own and one whose key is not
pub before_at : (key : Range → ℕ) (r : Range) (l m : List Range) → ((q : Range) → In q l → key q < key r) → Stops key (key r) m → before key r (l ++ m) ≡ l ++ r ∷ m
unfolding before
before_at key r [] [] f s = refl
before_at key r [] (q ∷ m) f s = rw (le-leb (key r) (key q) s)
before_at key r (p ∷ l) m f s = rw (lt-leb (key r) (key p) (f p (inl refl))) (ap (λ (k : List Range). p ∷ k) (before_at key r l m (λ q i. f q (inr i)) s))

-- ---- a walk

module _ (n : ℕ) (small : n ≤ none) (key : Range → ℕ) (l : List Range) (start end next : List ℕ) (t : Runs n l start end next) (s : ℕ) where
  abbrev link : ℕ → ℕ
  link i = get_or next i 0

  pub walk-starts : (a : ℕ) → a ≡ head (numbers l) → Walked key l s none a
  walk-starts a e = record { passed = []; rest = l; parts = refl; smaller = λ q i. absurd i; low = refl; high = e }

  listed_at : (p r : List Range) → l ≡ p ++ r → Listed n (numbers p ++ numbers r)
  listed_at p r e = rw (e, numbers-append p r) at t.listed

  -- where the walk has not come to the end, it stands at a range of the list
  pub record Stands (b a : ℕ) : Type 0 where
    pub low : List Range
    pub here : Range
    pub high : List Range
    pub parts : l ≡ low ++ here ∷ high
    pub smaller : (q : Range) → In q low → key q < s
    pub at_last : b ≡ last_from none (numbers low)
    pub at_here : a ≡ here.number

  pub stands : (b a : ℕ) → Walked key l s b a → a ≢ none → Stands b a
  stands b a w h = go w.rest w.parts w.high
    where
      go : (r : List Range) → l ≡ w.passed ++ r → a ≡ head (numbers r) → Stands b a
      go [] e q = absurd (h q)
      go (y ∷ r) e q = record { low = w.passed; here = y; high = r; parts = e; smaller = w.smaller; at_last = w.low; at_here = q }

  module _ (b a : ℕ) (w : Stands b a) where
    pub stands-in : In w.here l
    stands-in = rw w.parts (in_right w.here w.low (w.here ∷ w.high) (inl refl))

    pub stands_at : at start end a ≡ w.here
    stands_at = rw w.at_here (t.stand w.here stands-in)

    pub stands_good : Good n (at start end a)
    stands_good = rw stands_at (t.good w.here stands-in)

    pub rest-next : get_or next a 0 ≡ head (numbers w.high)
    rest-next =
        rw w.at_here
        (t.nexts w.here stands-in
        ∙ rw (w.parts, numbers-append w.low (w.here ∷ w.high))
        (after-mid n small w.here.number (numbers w.low) (numbers w.high) (listed_at w.low (w.here ∷ w.high) w.parts)))

    -- one step
    pub walk-on : key (at start end a) < s → Walked key l s a (get_or next a 0)
    walk-on less =
        record {
          passed = w.low ++ (w.here ∷ []);
          rest = w.high;
          parts = w.parts ∙ sym (append_snoc w.low w.here w.high);
          smaller = λ q i. elim (in_either q w.low (w.here ∷ []) i) [ inl j ↦ w.smaller q j | inr j ↦ elim j [ inl e ↦ rw (e ∙ sym stands_at) less | inr k ↦ absurd k ] ];
          low = w.at_here ∙ sym (ap (last_from none) (numbers-append w.low (w.here ∷ [])) ∙ last_snoc none (numbers w.low) w.here.number);
          high = rest-next;
        }

    pub walk-stops : s ≤ key (at start end a) → Gapped key l s b a
    walk-stops h =
        record {
          walked = record { passed = w.low; rest = w.here ∷ w.high; parts = w.parts; smaller = w.smaller; low = w.at_last; high = w.at_here };
          stops = rw stands_at at h;
        }

  -- how far there is to go
  rest-steps : (p r : List Range) → l ≡ p ++ r → steps link n (head (numbers r)) ≡ length (numbers r)
  rest-steps p r e =
      steps-walk n small link (numbers p) (numbers r) (listed_at p r e)
      (λ i h. let e' = ap numbers e ∙ numbers-append p r in
      let v = has_in i l (rw e' h) in
      rw (← e') (rw v.2 (t.nexts v.0 v.1)))
      n
      (omega (arith, length-append (numbers p) (numbers r), length-listed n (numbers p ++ numbers r) (listed_at p r e)))

  pub walk-less : (b a : ℕ) → Stands b a → steps link n (get_or next a 0) < steps link n a
  walk-less b a w =
      rw (rest-next b a w, w.at_here)
      (let q = rest-steps w.low (w.here ∷ w.high) w.parts in
      let q' = rest-steps (w.low ++ (w.here ∷ [])) w.high (w.parts ∙ sym (append_snoc w.low w.here w.high)) in
      omega arith)

  -- the end
  pub walk_ends : (b a : ℕ) → Walked key l s b a → a ≡ none → Gapped key l s b a
  walk_ends b a w h = go w.rest w.parts w.high
    where
      go : (r : List Range) → l ≡ w.passed ++ r → a ≡ head (numbers r) → Gapped key l s b a
      go [] e q = record { walked = record { passed = w.passed; rest = []; parts = e; smaller = w.smaller; low = w.low; high = q }; stops = tt }
      go (y ∷ r) e q =
          absurd (let g = (t.good y (rw e (in_right y w.passed (y ∷ r) (inl refl)))).known in let z : ⊥ = omega arith in z)
