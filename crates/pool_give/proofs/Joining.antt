-- Giving: which ranges the piece touches, and what each case leaves. Assumes nothing.
use Prim.Native.Nat.{ℕ, suc, ◌+◌, ◌-◌, ◌<◌, ◌≤◌}
use mathlib.Core.Bool.{Bool, true, false, cond, ◌&&◌}
use mathlib.Core.Logic.{◌≢◌, inl, inr, ⊎_elim}
use mathlib.Core.List.{List, [], ◌∷◌, ◌++◌}
use mathlib.Core.Option.{none, some}
use mathlib.Core.Path.{◌≡◌, refl, sym, ap, ◌∙◌, subst}
use lib.ListN.{get_or}
use lib.Dec.{T, eqb, ltb, eqb→eq, eqb_refl}
use native.Mathlib.Omega.{arith}
use borrow.Author.Tests.{eq-eqb, lt-ltb, le-ltb, le-leb, lt-leb}
use Rattle.std.specs.Prelude.{Ok, Err}
use Rattle.linked_lists.specs.Links as links
use Rattle.linked_lists.proofs.Laws.{same?, true≢false, below?}
use Rattle.rules.specs.Rules.{top, Range, range, size, Book, sum, total, without, put, remove, lower, upper, alone, joined, given, unused, full}
use Rattle.rules.specs.Sound.{In, Pairwise, Good, Ahead, Other}
use Rattle.rules_laws.proofs.Lists.{find-one, find_none, compared}
use Rattle.rules_laws.proofs.Kept.{others_apart, unused-other, same_number, remove-sound, in-remove→, in-remove←}
use Rattle.rules_laws.proofs.Sums.{sum-append, sum-between, total-put, total-remove}
use Rattle.pool_state.specs.Shown.{at, Shape}
use Rattle.pool_state.specs.declared.MemoryAllocator.{MemoryAllocator}
use Rattle.pool_entries.specs.Entries.{Replaces, Inserts, Drops}
use Rattle.pool_entries.proofs.Moves.{recount, recounted, done, refused}
use Rattle.pool_chain.proofs.Neighbours.{pair_left, pair-right, high-starts, Below, below, none_below, Above, above, none_above}
use Rattle.pool_state.proofs.Walks.{in_left, in_right}
use Rattle.pool_give.specs.Give.{Offers, wants, Joins}

-- ---- removing two ranges, in either order

without-swap : (i j : ℕ) (l : List Range) → without i (without j l) ≡ without j (without i l)
unfolding without
without-swap i j [] = refl
without-swap i j (q ∷ l) = go (without-swap i j l) (eqb i q.number) (eqb j q.number) refl refl
  where
    go : without i (without j l) ≡ without j (without i l) → (c d : Bool) → eqb i q.number ≡ c → eqb j q.number ≡ d
        → without i (cond d (without j l) (q ∷ without j l)) ≡ without j (cond c (without i l) (q ∷ without i l))
    go ih true true e f = ih
    go ih true false e f = rw e ih
    go ih false true e f = rw f ih
    go ih false false e f = rw (e, f) (ap (λ (k : List Range). q ∷ k) ih)

remove-swap : (r q : Range) (b : Book) → remove r (remove q b) ≡ remove q (remove r b)
unfolding remove
remove-swap r q b = let e₁ = without-swap r.number q.number b.chain in let e₂ = without-swap r.number q.number b.shelf in
    (λ z. record { chain = e₁ z; shelf = e₂ z })

-- ---- totals

spare : (x y : ℕ) → y ≤ x → (x - y) + y ≡ x
spare x y h = omega arith

low-spare : (s' s t : ℕ) → s' ≡ s → s < t → (suc (t - 1) - s') + s ≡ t
low-spare s' s t e h = omega arith

high-spare : (l' l a : ℕ) → l' ≡ l → a ≤ suc l → (suc l' - a) + a ≡ suc l
high-spare l' l a e h = omega arith

whole-spare : (s' s l' l : ℕ) → s' ≡ s → l' ≡ l → s ≤ suc l → (suc l' - s') + s ≡ suc l
whole-spare s' s l' l e f h = omega arith

low-total : (tot z rest s a t q : ℕ) → tot ≡ z + rest → z + s ≡ a → q + s ≡ t → a < t → tot + (t - a) ≡ q + rest
low-total tot z rest s a t q e f g h = omega arith

high-total : (tot z rest l a t q : ℕ) → tot ≡ z + rest → z + t ≡ suc l → q + a ≡ suc l → a < t → tot + (t - a) ≡ q + rest
high-total tot z rest l a t q e f g h = omega arith

both-total : (tot z w rest s l a t q : ℕ) → tot ≡ w + (z + rest) → z + s ≡ a → w + t ≡ suc l → q + s ≡ suc l → a < t → tot + (t - a) ≡ q + rest
both-total tot z w rest s l a t q e f g h i = omega arith

alone-total : (tot rest a t : ℕ) → tot ≡ rest → a < t → tot + (t - a) ≡ suc (t - 1) - a + rest
alone-total tot rest a t e h = omega arith

-- ---- the neighbours

module _ {n : ℕ} (small : n ≤ links.none) {s : MemoryAllocator} {x y a t : ℕ} {b : Book} (k : Offers n b s x y a t) where
  abbrev shape : Shape n b s
  shape = k.holds.shape

  abbrev good : (r : Range) → In r b.chain → Good n r
  good = shape.sound.good

  abbrev Under : Type 0
  Under = Below n small b.chain good shape.sound.apart a x y k.gap

  abbrev Over : Type 0
  Over = Above n small b.chain good shape.sound.apart a x y k.gap

  known : (i : ℕ) (r : Range) → i ≡ r.number → In r b.chain → (i < n) × (get_or s.start i 0 ≡ r.start) × (get_or s.end i 0 ≡ r.last)
  known i r e m =
      let q : at s.start s.end i ≡ r = rw e (shape.kept.stand r m) in
      (rw e (good r m).known, ap (λ (p : Range). p.start) q, ap (λ (p : Range). p.last) q)

  -- what the tests tell
  both-parts : (p q : Bool) → (p && q) ≡ true → (p ≡ true) × (q ≡ true)
  both-parts true q e = (refl, e)
  both-parts false q e = true≢false (sym e)

  index : (i : ℕ) → ltb i n ≡ true → (i < n) × (i ≢ links.none)
  index i e = ⊎_elim (λ (h : i < n). (h, λ z. let v : ⊥ = omega arith in v)) (λ (h : n ≤ i). true≢false (sym e ∙ le-ltb i n h)) (below? i n)

  pub record Joins-below : Type 0 where
    pub side : Under
    pub meets : suc side.range.last ≡ a

  pub record Joins-above : Type 0 where
    pub side : Over
    pub meets : side.range.start ≡ t

  pub joins-below : (ltb x n && eqb (suc (get_or s.end x 0)) a) ≡ true → Joins-below
  joins-below e =
      let w = both-parts (ltb x n) (eqb (suc (get_or s.end x 0)) a) e in
      let i = index x w.0 in
      let near = below n small b.chain good shape.sound.apart a x y k.gap i.1 in
      let q = known x near.range near.number near.member in
      record { side = near; meets = ap suc (sym q.2) ∙ eqb→eq (suc (get_or s.end x 0)) a (subst T (sym w.1) tt) }

  pub joins-above : (ltb y n && eqb (get_or s.start y 0) t) ≡ true → Joins-above
  joins-above e =
      let w = both-parts (ltb y n) (eqb (get_or s.start y 0) t) e in
      let i = index y w.0 in
      let near = above n small b.chain good shape.sound.apart a x y k.gap i.1 in
      let q = known y near.range near.number near.member in
      record { side = near; meets = sym q.1 ∙ eqb→eq (get_or s.start y 0) t (subst T (sym w.1) tt) }

  pub free-below : (ltb x n && eqb (suc (get_or s.end x 0)) a) ≡ false → (q : Range) → In q b.chain → suc q.last ≢ a
  free-below e q m h = ⊎_elim
      (λ (d : x ≡ links.none). let near = none_below n small b.chain good shape.sound.apart a x y k.gap d q m in let p = (good q m).proper in let v : ⊥ = omega arith in v)
      (λ (d : x ≢ links.none).
      let near = below n small b.chain good shape.sound.apart a x y k.gap d in
      let w = known x near.range near.number near.member in
      elim (near.others q m) [
        | inl f ↦ let p : (ltb x n && eqb (suc (get_or s.end x 0)) a) ≡ true = rw (lt-ltb x n w.0, eq-eqb (suc (get_or s.end x 0)) a (ap suc w.2 ∙ ap (λ (r : Range). suc r.last) (sym f) ∙ h)) in
            true≢false (sym p ∙ e)
        | inr f ↦ elim f [
          | inl g ↦ let i = near.starts in let p = (good near.range near.member).proper in let v : ⊥ = omega arith in v
          | inr g ↦ let p = (good q m).proper in let v : ⊥ = omega arith in v
        ]
      ])
      (same? x links.none)

  pub free-above : (ltb y n && eqb (get_or s.start y 0) t) ≡ false → (q : Range) → In q b.chain → q.start ≢ t
  free-above e q m h = ⊎_elim
      (λ (d : y ≡ links.none). let near = none_above n small b.chain good shape.sound.apart a x y k.gap d q m in let v : ⊥ = omega (arith, k.some_byte) in v)
      (λ (d : y ≢ links.none).
      let near = above n small b.chain good shape.sound.apart a x y k.gap d in
      let w = known y near.range near.number near.member in
      let p = (good near.range near.member).proper in
      elim (near.others q m) [
        | inl f ↦ let z : (ltb y n && eqb (get_or s.start y 0) t) ≡ true = rw (lt-ltb y n w.0, eq-eqb (get_or s.start y 0) t (w.1 ∙ ap (λ (r : Range). r.start) (sym f) ∙ h)) in
            true≢false (sym z ∙ e)
        | inr f ↦ elim f [
          | inl g ↦ elim (k.clear near.range near.member) [ inl c ↦ let i = near.starts in let v : ⊥ = omega arith in v | inr c ↦ let v : ⊥ = omega arith in v ]
          | inr g ↦ let v : ⊥ = omega (arith, k.some_byte) in v
        ]
      ])
      (same? y links.none)

  -- the neighbours of the rules
  lower-is : (j : Joins-below) → lower a b ≡ some j.side.range
  lower-is j = find-one (λ r. eqb (suc r.last) a) b.chain j.side.range j.side.member
      (subst (λ (z : ℕ). T (eqb (suc j.side.range.last) z)) j.meets (eqb_refl (suc j.side.range.last)))
      (λ q m h. let e = eqb→eq (suc q.last) a h in let f = j.meets in let p = (good q m).proper in let p' = (good j.side.range j.side.member).proper in
      elim (compared Ahead b.chain shape.sound.apart q j.side.range m j.side.member) [
        | inl g ↦ g
        | inr g ↦ elim g [ inl i ↦ absurd (let v : ⊥ = omega arith in v) | inr i ↦ absurd (let v : ⊥ = omega arith in v) ]
      ])

  upper_is : (j : Joins-above) → upper t b ≡ some j.side.range
  upper_is j = find-one (λ r. eqb r.start t) b.chain j.side.range j.side.member
      (subst (λ (z : ℕ). T (eqb j.side.range.start z)) j.meets (eqb_refl j.side.range.start))
      (λ q m h. let e = eqb→eq q.start t h in let f = j.meets in let p = (good q m).proper in let p' = (good j.side.range j.side.member).proper in
      elim (compared Ahead b.chain shape.sound.apart q j.side.range m j.side.member) [
        | inl g ↦ g
        | inr g ↦ elim g [ inl i ↦ absurd (let v : ⊥ = omega arith in v) | inr i ↦ absurd (let v : ⊥ = omega arith in v) ]
      ])

  lower-none : ((q : Range) → In q b.chain → suc q.last ≢ a) → lower a b ≡ none
  lower-none f = find_none (λ r. eqb (suc r.last) a) b.chain (λ q m h. f q m (eqb→eq (suc q.last) a h))

  upper-none : ((q : Range) → In q b.chain → q.start ≢ t) → upper t b ≡ none
  upper-none f = find_none (λ r. eqb r.start t) b.chain (λ q m h. f q m (eqb→eq q.start t h))

  -- ---- the sum fits

  pub sum_fits : s.free_size + (t - a) ≤ top
  sum_fits =
      let g = k.gap.walked in
      let ap' : Pairwise Ahead (g.passed ++ g.rest) = rw g.parts at shape.sound.apart in
      let inl' : (q : Range) → In q g.passed → In q b.chain = λ q m. rw g.parts (in_left q g.passed g.rest m) in
      let inr' : (q : Range) → In q g.rest → In q b.chain = λ q m. rw g.parts (in_right q g.passed g.rest m) in
      let lo : sum g.passed + 0 ≤ a = sum-between 0 a g.passed (pair_left Ahead g.passed g.rest ap') (omega arith)
      (λ q m. let p = (good q (inl' q m)).proper in let h = g.smaller q m in
      (omega arith, p, elim (k.clear q (inl' q m)) [ inl c ↦ c | inr c ↦ absurd (let v : ⊥ = omega (arith, k.some_byte) in v) ])) in
      let hi : sum g.rest + t ≤ top = sum-between t top g.rest (pair-right Ahead g.passed g.rest ap') k.below
      (λ q m. let p = good q (inr' q m) in let h = high-starts n small b.chain good shape.sound.apart a x y k.gap q m in
      (elim (k.clear q (inr' q m)) [ inl c ↦ absurd (let z = p.proper in let v : ⊥ = omega arith in v) | inr c ↦ c ], p.proper, let z = p.below in omega arith)) in
      let e : s.free_size ≡ sum g.passed + sum g.rest = k.holds.counts ∙ ap sum g.parts ∙ sum-append g.passed g.rest in
      omega (arith, k.some_byte)

  abbrev more : ℕ
  more = s.free_size + (t - a)

  -- ---- joined with the range below

  module _ (j : Joins-below) where
    abbrev l : Range
    l = j.side.range

    pub below-known : (x < n) × (get_or s.start x 0 ≡ l.start) × (get_or s.end x 0 ≡ l.last)
    below-known = known x l j.side.number j.side.member

    module _ (f : (q : Range) → In q b.chain → q.start ≢ t) where
      abbrev low-joined : Range
      low-joined = range x (get_or s.start x 0) (t - 1)

      pub low-replaces : Replaces n b l low-joined
      low-replaces =
          let w = below-known in let e = j.meets in let p = good l j.side.member in
          record {
            member = j.side.member;
            number = sym j.side.number;
            good = record { known = w.0; proper = let i = w.1 in omega (arith, k.some_byte, p.proper); below = omega (arith, k.some_byte, k.below) };
            low = λ q m h. let i = w.1 in omega arith;
            high = λ q m h. elim (k.clear q m) [ inl c ↦ absurd (let z = (good q m).proper in let v : ⊥ = omega arith in v) | inr c ↦ let d : q.start ≢ t = f q m in omega (arith, k.some_byte) ];
          }

      pub low-done : {s' : MemoryAllocator} → Shape n (put low-joined (remove l b)) s'
          → Joins n b a t (Ok tt) (recount more s')
      unfolding given joined
      low-done v =
          let w = below-known in let e₁ = lower-is j in let e₂ = upper-none f in let i₁ = w.1 in let i₂ = j.side.number in
          done n (wants n b a t) b (given n a t b) _ (put low-joined (remove l b))
          (λ z. alone (e₁ z) (upper t b) && full n b)
          ((λ z. joined (unused n b) a t (e₁ z) (e₂ z) b) ∙ sym (λ z. put (range (i₂ z) (i₁ z) (t - 1)) (remove l b)))
          (recounted v
          (low-total s.free_size (size l) (total (remove l b)) l.start a t (size low-joined)
          (k.holds.counts ∙ total-remove n l b shape.sound j.side.member)
          (spare (suc l.last) l.start (let p = (good l j.side.member).proper in omega arith) ∙ j.meets)
          (low-spare (get_or s.start x 0) l.start t i₁ (let p = (good l j.side.member).proper in omega (arith, j.meets, k.some_byte)))
          k.some_byte ∙ sym (total-put low-joined (remove l b))))

  -- ---- joined with the range above

  module _ (j : Joins-above) where
    abbrev u : Range
    u = j.side.range

    pub above-known : (y < n) × (get_or s.start y 0 ≡ u.start) × (get_or s.end y 0 ≡ u.last)
    above-known = known y u j.side.number j.side.member

    module _ (f : (q : Range) → In q b.chain → suc q.last ≢ a) where
      abbrev high-joined : Range
      high-joined = range y a (get_or s.end y 0)

      pub high-replaces : Replaces n b u high-joined
      high-replaces =
          let w = above-known in let e = j.meets in let p = good u j.side.member in
          record {
            member = j.side.member;
            number = sym j.side.number;
            good = record { known = w.0; proper = let i = w.2 in omega (arith, k.some_byte, p.proper); below = let i = w.2 in omega (arith, p.below) };
            low = λ q m h. elim (k.clear q m) [ inl c ↦ let d : suc q.last ≢ a = f q m in omega arith | inr c ↦ absurd (let z = (good q m).proper in let v : ⊥ = omega arith in v) ];
            high = λ q m h. let i = w.2 in omega arith;
          }

      pub high-done : {s' : MemoryAllocator} → Shape n (put high-joined (remove u b)) s'
          → Joins n b a t (Ok tt) (recount more s')
      unfolding given joined
      high-done v =
          let w = above-known in let e₁ = lower-none f in let e₂ = upper_is j in let i₁ = w.2 in let i₂ = j.side.number in
          done n (wants n b a t) b (given n a t b) _ (put high-joined (remove u b))
          (λ z. alone (e₁ z) (e₂ z) && full n b)
          ((λ z. joined (unused n b) a t (e₁ z) (e₂ z) b) ∙ sym (λ z. put (range (i₂ z) a (i₁ z)) (remove u b)))
          (recounted v
          (high-total s.free_size (size u) (total (remove u b)) u.last a t (size high-joined)
          (k.holds.counts ∙ total-remove n u b shape.sound j.side.member)
          (ap (λ (z : ℕ). size u + z) (sym j.meets) ∙ spare (suc u.last) u.start (let p = (good u j.side.member).proper in omega arith))
          (high-spare (get_or s.end y 0) u.last a i₁ (let p = (good u j.side.member).proper in omega (arith, j.meets, k.some_byte)))
          k.some_byte ∙ sym (total-put high-joined (remove u b))))

  -- ---- joined with both

  module _ (jb : Joins-below) (ja : Joins-above) where
    abbrev lo : Range
    lo = jb.side.range

    abbrev hi : Range
    hi = ja.side.range

    abbrev whole : Range
    whole = range x (get_or s.start x 0) (get_or s.end y 0)

    pub both-drops : Drops n b s y hi
    both-drops = record { shape = shape; member = ja.side.member; number = ja.side.number }

    differ : Other hi lo
    differ e = let near = same_number n b hi lo shape.sound ja.side.member jb.side.member e in let i = ap (λ (r : Range). r.start) near in
        let m = ja.meets in let m' = jb.meets in let p = (good lo jb.side.member).proper in let v : ⊥ = omega (arith, k.some_byte) in v

    pub both-replaces : Replaces n (remove hi b) lo whole
    both-replaces =
        let w = below-known jb in let w' = above-known ja in let e = jb.meets in let e' = ja.meets in
        let p = good lo jb.side.member in let p' = good hi ja.side.member in
        let i = w.1 in let i' = w'.2 in
        record {
          member = in-remove← hi b lo jb.side.member differ;
          number = sym jb.side.number;
          good = record { known = w.0; proper = omega (arith, k.some_byte, p.proper, p'.proper); below = omega (arith, p'.below) };
          low = λ q m h. omega arith;
          high = λ q m h. let z = in-remove→ hi b q m in
              elim (others_apart n b hi q shape.sound ja.side.member z.0 z.1) [
                | inr c ↦ omega arith
                | inl c ↦ absurd (let g = (good q z.0).proper in elim (k.clear q z.0) [ inl d ↦ let v : ⊥ = omega arith in v | inr d ↦ let v : ⊥ = omega arith in v ])
              ];
        }

    pub both-done : {s' : MemoryAllocator} → Shape n (put whole (remove lo (remove hi b))) s'
        → Joins n b a t (Ok tt) (recount more s')
    unfolding given joined
    both-done v =
        let w = below-known jb in let w' = above-known ja in let e₁ = lower-is jb in let e₂ = upper_is ja in
        let i₁ = w.1 in let i₂ = w'.2 in let i₃ = jb.side.number in let sw = remove-swap lo hi b in
        let p = (good lo jb.side.member).proper in let p' = (good hi ja.side.member).proper in
        done n (wants n b a t) b (given n a t b) _ (put whole (remove lo (remove hi b)))
        (λ z. alone (e₁ z) (upper t b) && full n b)
        ((λ z. joined (unused n b) a t (e₁ z) (e₂ z) b) ∙ sym (λ z. put (range (i₃ z) (i₁ z) (i₂ z)) (sw z)))
        (recounted v
        (both-total s.free_size (size lo) (size hi) (total (remove lo (remove hi b))) lo.start hi.last a t (size whole)
        (k.holds.counts ∙ total-remove n hi b shape.sound ja.side.member
        ∙ ap (λ (z : ℕ). size hi + z) (total-remove n lo (remove hi b) (remove-sound n b hi shape.sound) both-replaces.member))
        (spare (suc lo.last) lo.start (omega arith) ∙ jb.meets)
        (ap (λ (z : ℕ). size hi + z) (sym ja.meets) ∙ spare (suc hi.last) hi.start (omega arith))
        (whole-spare (get_or s.start x 0) lo.start (get_or s.end y 0) hi.last i₁ i₂ (omega (arith, jb.meets, ja.meets, k.some_byte)))
        k.some_byte ∙ sym (total-put whole (remove lo (remove hi b)))))

  -- ---- alone

  module _ (f : (q : Range) → In q b.chain → suc q.last ≢ a) (g : (q : Range) → In q b.chain → q.start ≢ t) where
    wants-full : wants n b a t ≡ full n b
    wants-full = let e₁ = lower-none f in let e₂ = upper-none g in (λ z. alone (e₁ z) (e₂ z) && full n b)

    pub no_record : n ≤ unused n b → Joins n b a t (Err (record {})) s
    no_record h = refused n (wants n b a t) b (given n a t b) _ (wants-full ∙ le-leb n (unused n b) h) k.holds

    module _ (i : ℕ) (ei : i ≡ unused n b) (bi : i < n) where
      abbrev new : Range
      new = range i a (t - 1)

      bu : unused n b < n
      bu = rw ei at bi

      pub alone-inserts : Inserts n b s x y new
      alone-inserts = record {
        shape = shape;
        good = record { known = bi; proper = omega (arith, k.some_byte); below = omega (arith, k.some_byte, k.below) };
        apart = λ q m. (
          λ d. unused-other n b bu q m (sym ei ∙ d),
          elim (k.clear q m) [ inl c ↦ let d : suc q.last ≢ a = f q m in inl (omega arith) | inr c ↦ let d : q.start ≢ t = g q m in inr (omega (arith, k.some_byte)) ],
        );
        gap = k.gap;
      }

      pub alone-done : {s' : MemoryAllocator} → Shape n (put new b) s'
          → Joins n b a t (Ok tt) (recount more s')
      unfolding given joined
      alone-done v =
          let e₁ = lower-none f in let e₂ = upper-none g in
          done n (wants n b a t) b (given n a t b) _ (put new b)
          (wants-full ∙ lt-leb n (unused n b) bu)
          ((λ z. joined (unused n b) a t (e₁ z) (e₂ z) b) ∙ sym (λ z. put (range (ei z) a (t - 1)) b))
          (recounted v (alone-total s.free_size (total b) a t k.holds.counts k.some_byte ∙ sym (total-put new b)))
