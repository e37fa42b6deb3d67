-- Moving: what each case leaves.
use Prim.Native.Nat.{ℕ, suc, ◌+◌, ◌-◌, ◌^◌, ◌<◌, ◌≤◌}
use mathlib.Core.Bool.{false}
use mathlib.Core.Logic.{◌≢◌, inl, inr}
use mathlib.Core.List.{List, [], ◌∷◌, ◌++◌}
use mathlib.Core.Path.{◌≡◌, refl, sym, ap, ◌∙◌, subst}
use lib.ListN.{get_or, set}
use lib.Seq.{append_snoc}
use native.Mathlib.Omega.{arith}
use native.Mathlib.Numerals.{add-one}
use borrow.Author.Tests.{lt-ltb, le-ltb, le-leb, lt-leb}
use Rattle.std.specs.Prelude.{Ok, Err}
use Rattle.linked_lists.specs.Links.{none, last_from, after, Listed}
use Rattle.linked_lists.proofs.Laws.{after-mid, last_snoc}
use Rattle.rules.specs.Rules.{Range, range, start_of, size, Book, total, before, without, put, remove, taken, unused, full}
use Rattle.rules.specs.Sound.{In, Pairwise}
use Rattle.rules.specs.Sound.{Good, Ahead, Apart, Other}
use Rattle.rules_laws.proofs.Kept.{others_apart, unused-other, in-put→, in-remove→}
use Rattle.rules_laws.proofs.Sums.{total-put, total-remove}
use Rattle.pool_state.specs.Shown.{numbers, at, Stops, Gapped, Shelved, Shape}
use Rattle.pool_shelf.specs.Shelf.{Resizes}
use Rattle.pool_entries.specs.Entries.{Replaces, Inserts, Drops}
use Rattle.pool_state.specs.declared.MemoryAllocator.{MemoryAllocator}
use Rattle.pool_take.specs.Take.{Asks, refuses, Takes}
use Rattle.pool_state.proofs.Walks.{numbers-append, in_left, in_either, part, pair-low, pair-high}
use Rattle.pool_entries.proofs.Books.{replace-chain, resized, swap-resizes, swap-shape}
use Rattle.pool_entries.proofs.Moves.{recount, recounted, done, refused}

-- ---- totals, without subtraction

one_left : (tot z d y rest s a l : ℕ) → tot ≡ z + rest → z + s ≡ suc l → d + a ≡ suc l → y + s ≡ a → tot - d ≡ y + rest
one_left tot z d y rest s a l p q h g = omega arith

two-left : (tot z d y x rest s a t l : ℕ) → tot ≡ z + rest → z + s ≡ suc l → d + a ≡ t → y + s ≡ a → x + t ≡ suc l → tot - d ≡ x + (y + rest)
two-left tot z d y x rest s a t l p q h g f = omega arith

spare : (x y : ℕ) → y ≤ x → (x - y) + y ≡ x
spare x y h = omega arith

low-spare : (s' s a : ℕ) → s' ≡ s → s < a → (suc (a - 1) - s') + s ≡ a
low-spare s' s a e h = omega arith

high-spare : (l' l t : ℕ) → l' ≡ l → t ≤ l → (suc l' - t) + t ≡ suc l
high-spare l' l t e h = omega arith

-- ---- the cases of the rule

module _ (n : ℕ) (b : Book) (r : Range) (a t : ℕ) where
  taken-whole : a ≤ r.start → r.last < t → taken n r a t b ≡ remove r b
  unfolding taken
  taken-whole h g = rw (lt-leb t r.last g, le-ltb r.start a h)

  taken-high : a ≤ r.start → t ≤ r.last → taken n r a t b ≡ put (range r.number t r.last) (remove r b)
  unfolding taken
  taken-high h g = rw (le-leb t r.last g, le-ltb r.start a h)

  taken-low : r.start < a → r.last < t → taken n r a t b ≡ put (range r.number r.start (a - 1)) (remove r b)
  unfolding taken
  taken-low h g = rw (lt-leb t r.last g, lt-ltb r.start a h)

  taken-both : r.start < a → t ≤ r.last → taken n r a t b ≡ put (range (unused n b) t r.last) (put (range r.number r.start (a - 1)) (remove r b))
  unfolding taken
  taken-both h g = rw (le-leb t r.last g, lt-ltb r.start a h)

  refuse-low : a ≤ r.start → refuses n b r a t ≡ false
  refuse-low h = rw (le-ltb r.start a h)

  refuse-high : r.start < a → r.last < t → refuses n b r a t ≡ false
  refuse-high h g = rw (lt-ltb r.start a h, lt-leb t r.last g)

  refuse-both : r.start < a → t ≤ r.last → refuses n b r a t ≡ full n b
  refuse-both h g = rw (lt-ltb r.start a h, le-leb t r.last g)

module _ {n : ℕ} (small : n ≤ none) {m : MemoryAllocator} {i a t : ℕ} {b : Book} {r : Range} (k : Asks n b m i a t r) where
  abbrev shape : Shape n b m
  shape = k.holds.shape

  abbrev left : ℕ
  left = m.free_size - (t - a)

  good : Good n r
  good = shape.sound.good r k.member

  pub at-r : at m.start m.end i ≡ r
  at-r = rw k.number (shape.kept.stand r k.member)

  pub from_is : get_or m.start i 0 ≡ r.start
  from_is = ap (λ (q : Range). q.start) at-r

  pub last-is : get_or m.end i 0 ≡ r.last
  last-is = ap (λ (q : Range). q.last) at-r

  pub below : i < n
  below = rw k.number good.known

  pub last-below : get_or m.end i 0 < 2 ^ 63
  last-below = rw last-is good.below

  pub enough : t - a ≤ m.free_size
  enough = let e = total-remove n r b shape.sound k.member in omega (arith, k.holds.counts, k.from, k.to)

  pub drops : Drops n b m i r
  drops = record { shape = shape; member = k.member; number = k.number }

  pub whole-done : get_or m.start i 0 ≡ a → t ≡ get_or m.end i 0 + 1
      → {m' : MemoryAllocator} → Shape n (remove r b) m'
      → Takes n b r a t (Ok tt) (recount left m')
  whole-done ea et v =
      let e = total-remove n r b shape.sound k.member in
      let q = from_is in let q' = last-is in
      done n (refuses n b r a t) b (taken n r a t b) _ (remove r b) (refuse-low n b r a t (omega arith)) (taken-whole n b r a t (omega arith) (omega arith))
      (recounted v (omega (arith, k.holds.counts)))

  -- ---- one piece remains, from s to e

  module _ (s e : ℕ) (ls : r.start ≤ s) (se : s ≤ e) (el : e ≤ r.last) where
    abbrev q : Range
    q = range i s e

    pub piece-good : Good n q
    piece-good = record { known = below; proper = se; below = let g = good.below in omega arith }

    pub piece-replaces : Replaces n b r q
    piece-replaces = record {
      member = k.member;
      number = sym k.number;
      good = piece-good;
      low = λ p y h. omega arith;
      high = λ p y h. omega arith;
    }

    pub piece-resizes : Resizes n m.start m.end m.list_prev m.list_next m.free_list q b.shelf
    piece-resizes = swap-resizes small shape piece-replaces

    pub piece-shape : {start' end' heads' lprev' lnext' : List ℕ}
        → start' ≡ set m.start i s → end' ≡ set m.end i e
        → Shelved n (before size q (without i b.shelf)) start' end' lprev' lnext' heads'
        → Shape n (put q (remove r b)) (resized m heads' start' end' lprev' lnext')
    piece-shape = swap-shape small shape piece-replaces

  pub high-done : get_or m.start i 0 ≡ a → (t ≡ get_or m.end i 0 + 1 → ⊥)
      → {m' : MemoryAllocator} → Shape n (put (range i t (get_or m.end i 0)) (remove r b)) m'
      → Takes n b r a t (Ok tt) (recount left m')
  high-done ea et v =
      let w = from_is in let w' = last-is in
      let d : t ≢ r.last + 1 = λ h. et (h ∙ ap (λ (x : ℕ). x + 1) (sym last-is)) in
      let h₁ : t ≤ r.last = omega (arith, k.to) in
      let e = total-remove n r b shape.sound k.member in
      let e' = total-put (range i t (get_or m.end i 0)) (remove r b) in
      done n (refuses n b r a t) b (taken n r a t b) _ (put (range i t (get_or m.end i 0)) (remove r b)) (refuse-low n b r a t (omega arith))
      (taken-high n b r a t (omega arith) h₁ ∙ sym (λ z. put (range (k.number z) t (last-is z)) (remove r b)))
      (recounted v (omega (arith, k.holds.counts, k.some_byte)))

  module _ (ea : get_or m.start i 0 ≡ a) (et : t ≡ get_or m.end i 0 + 1 → ⊥) where
    high-ends : (r.start ≤ t) × (t ≤ get_or m.end i 0) × (get_or m.end i 0 ≤ r.last)
    high-ends =
        let w = last-is in
        let d : t ≢ get_or m.end i 0 + 1 = et in
        (omega (arith, k.from, k.some_byte), omega (arith, k.to), omega arith)

    pub high-resizes : Resizes n m.start m.end m.list_prev m.list_next m.free_list (range i t (get_or m.end i 0)) b.shelf
    high-resizes = piece-resizes t (get_or m.end i 0) high-ends.0 high-ends.1 high-ends.2

    pub high_taken : {start' end' heads' lprev' lnext' : List ℕ}
        → start' ≡ set m.start i t → end' ≡ set m.end i (get_or m.end i 0)
        → Shelved n (before size (range i t (get_or m.end i 0)) (without i b.shelf)) start' end' lprev' lnext' heads'
        → Takes n b r a t (Ok tt) (recount left (resized m heads' start' end' lprev' lnext'))
    high_taken es ee v = high-done ea et (piece-shape t (get_or m.end i 0) high-ends.0 high-ends.1 high-ends.2 es ee v)

  module _ (ea : get_or m.start i 0 ≡ a → ⊥) where
    low-ends : (r.start ≤ get_or m.start i 0) × (get_or m.start i 0 ≤ a - 1) × (a - 1 ≤ r.last)
    low-ends =
        let w = from_is in
        let d : get_or m.start i 0 ≢ a = ea in
        (omega arith, omega (arith, k.from), omega (arith, k.some_byte, k.to))

    pub low-proper : 1 ≤ a
    low-proper = let w = from_is in let d : get_or m.start i 0 ≢ a = ea in omega (arith, k.from)

    pub low-resizes : Resizes n m.start m.end m.list_prev m.list_next m.free_list (range i (get_or m.start i 0) (a - 1)) b.shelf
    low-resizes = piece-resizes (get_or m.start i 0) (a - 1) low-ends.0 low-ends.1 low-ends.2

    pub low-shape : {start' end' heads' lprev' lnext' : List ℕ}
        → start' ≡ set m.start i (get_or m.start i 0) → end' ≡ set m.end i (a - 1)
        → Shelved n (before size (range i (get_or m.start i 0) (a - 1)) (without i b.shelf)) start' end' lprev' lnext' heads'
        → Shape n (put (range i (get_or m.start i 0) (a - 1)) (remove r b)) (resized m heads' start' end' lprev' lnext')
    low-shape = piece-shape (get_or m.start i 0) (a - 1) low-ends.0 low-ends.1 low-ends.2

  pub low-done : (get_or m.start i 0 ≡ a → ⊥) → t ≡ get_or m.end i 0 + 1
      → {m' : MemoryAllocator} → Shape n (put (range i (get_or m.start i 0) (a - 1)) (remove r b)) m'
      → Takes n b r a t (Ok tt) (recount left m')
  low-done ea et v =
      let w = from_is in let w' = last-is in
      let d : r.start ≢ a = λ h. ea (from_is ∙ h) in
      let h₁ : r.start < a = omega (arith, k.from) in
      let e = total-remove n r b shape.sound k.member in
      let e' = total-put (range i (get_or m.start i 0) (a - 1)) (remove r b) in
      done n (refuses n b r a t) b (taken n r a t b) _ (put (range i (get_or m.start i 0) (a - 1)) (remove r b)) (refuse-high n b r a t h₁ (omega arith))
      (taken-low n b r a t h₁ (omega arith) ∙ sym (λ z. put (range (k.number z) (from_is z) (a - 1)) (remove r b)))
      (recounted v
      (one_left m.free_size (size r) (t - a) (size (range i (get_or m.start i 0) (a - 1))) (total (remove r b)) r.start a r.last
      (k.holds.counts ∙ e)
      (spare (suc r.last) r.start (omega (arith, good.proper)))
      (spare t a (omega (arith, k.some_byte)) ∙ et ∙ ap (λ (x : ℕ). x + 1) last-is ∙ add-one r.last)
      (low-spare (get_or m.start i 0) r.start a from_is h₁) ∙ sym e'))

  -- ---- two pieces

  module _ (ea : get_or m.start i 0 ≡ a → ⊥) (et : t ≡ get_or m.end i 0 + 1 → ⊥) where
    pub both-low : r.start < a
    both-low = let d : r.start ≢ a = λ h. ea (from_is ∙ h) in omega (arith, k.from)

    pub both_high : t ≤ r.last
    both_high = let d : t ≢ r.last + 1 = λ h. et (h ∙ ap (λ (x : ℕ). x + 1) (sym last-is)) in omega (arith, k.to)

    pub no_record : n ≤ unused n b → Takes n b r a t (Err (record {})) m
    no_record f = refused n (refuses n b r a t) b (taken n r a t b) _ (refuse-both n b r a t both-low both_high ∙ le-leb n (unused n b) f) k.holds

    module _ (j : ℕ) (ej : j ≡ unused n b) (bj : j < n) where
      abbrev low : Range
      low = range i (get_or m.start i 0) (a - 1)

      abbrev high : Range
      high = range j t (get_or m.end i 0)

      abbrev b₁ : Book
      b₁ = put low (remove r b)

      low-replaces : Replaces n b r low
      low-replaces = let w = from_is in let h = both-low in piece-replaces (get_or m.start i 0) (a - 1) (omega arith) (omega arith) (omega (arith, k.to, k.some_byte, k.from))

      bu : unused n b < n
      bu = rw ej at bj

      -- the low piece and the others, beside the high one
      high-apart : (p : Range) → In p b₁.chain → Other high p × Apart high p
      high-apart p y =
          let w = from_is in let w' = last-is in
          elim (in-put→ low (remove r b) p y) [
            | inl e ↦ let h = both-low in (
              λ d. unused-other n b bu r k.member (sym ej ∙ d ∙ ap (λ (x : Range). x.number) e ∙ k.number),
              inl (subst (λ (x : Range). Ahead x high) (sym e) (omega (arith, k.some_byte))),
            )
            | inr v ↦ let z = in-remove→ r b p v in (
              λ d. unused-other n b bu p z.0 (sym ej ∙ d),
              elim (others_apart n b r p shape.sound k.member z.0 z.1) [ inl h ↦ inl (omega (arith, k.from, k.some_byte)) | inr h ↦ inr (omega arith) ],
            )
          ]

      high-good : Good n high
      high-good = let w' = last-is in let h = both_high in let g = good.below in record { known = bj; proper = omega arith; below = omega arith }

      -- where it goes in the chain
      high-gap : {heads' start' end' lprev' lnext' : List ℕ} → Shape n b₁ (resized m heads' start' end' lprev' lnext') → Gapped start_of b₁.chain t i (get_or m.next i 0)
      unfolding put remove low-replaces piece-replaces
      high-gap v =
          let w = part r b.chain k.member in
          let ch : b₁.chain ≡ w.0 ++ low ∷ w.1 = replace-chain n b r low shape.sound low-replaces in
          let ap' : Pairwise Ahead (w.0 ++ r ∷ w.1) = rw w.2 at shape.sound.apart in
          let ls : Listed n (numbers w.0 ++ i ∷ numbers w.1) = rw (ch, numbers-append w.0 (low ∷ w.1)) at (v.chained.threads.listed 0) in
          let f = from_is in
          record {
            walked = record {
              passed = w.0 ++ (low ∷ []);
              rest = w.1;
              parts = ch ∙ sym (append_snoc w.0 low w.1);
              smaller = λ p y. elim (in_either p w.0 (low ∷ []) y) [
                | inl z ↦ let h = pair-low Ahead w.0 r w.1 ap' p z in
                    let g = (shape.sound.good p (rw w.2 (in_left p w.0 (r ∷ w.1) z))).proper in omega (arith, k.from, k.some_byte)
                | inr z ↦ elim z [ inl e ↦ let e' : p.start ≡ get_or m.start i 0 = ap (λ (x : Range). x.start) e in omega (arith, k.from, k.some_byte) | inr v ↦ absurd v ]
              ];
              low = sym (ap (last_from none) (numbers-append w.0 (low ∷ [])) ∙ last_snoc none (numbers w.0) i);
              high = v.chained.threads.nexts i below ∙ ap (λ (l : List Range). after (numbers l) i) ch
                  ∙ ap (λ (l : List ℕ). after l i) (numbers-append w.0 (low ∷ w.1)) ∙ after-mid n small i (numbers w.0) (numbers w.1) ls;
            };
            stops = stops w.1 (λ p y. pair-high Ahead w.0 r w.1 ap' p y);
          }
        where
          stops : (u : List Range) → ((p : Range) → In p u → Ahead r p) → Stops start_of t u
          stops [] f = tt
          stops (p ∷ u) f = let h = f p (inl refl) in let g = both_high in omega arith

      pub both-inserts : {y : ℕ} {heads' start' end' lprev' lnext' : List ℕ} → y ≡ get_or m.next i 0
          → Shape n b₁ (resized m heads' start' end' lprev' lnext')
          → Inserts n b₁ (resized m heads' start' end' lprev' lnext') i y high
      both-inserts ey v = record { shape = v; good = high-good; apart = high-apart; gap = rw ey (high-gap v) }

      pub both-done : {m' : MemoryAllocator} → Shape n (put high b₁) m' → Takes n b r a t (Ok tt) (recount left m')
      both-done v =
          let w = from_is in let w' = last-is in
          let h₁ = both-low in let h₂ = both_high in
          let e = total-remove n r b shape.sound k.member in
          let e₁ = total-put low (remove r b) in
          let e₂ = total-put high b₁ in
          done n (refuses n b r a t) b (taken n r a t b) _ (put high b₁) (refuse-both n b r a t h₁ h₂ ∙ lt-leb n (unused n b) bu)
          (taken-both n b r a t h₁ h₂ ∙ sym (λ z. put (range (ej z) t (last-is z)) (put (range (k.number z) (from_is z) (a - 1)) (remove r b))))
          (recounted v
          (two-left m.free_size (size r) (t - a) (size low) (size high) (total (remove r b)) r.start a t r.last
          (k.holds.counts ∙ e)
          (spare (suc r.last) r.start (omega (arith, good.proper)))
          (spare t a (omega (arith, k.some_byte)))
          (low-spare (get_or m.start i 0) r.start a from_is h₁)
          (high-spare (get_or m.end i 0) r.last t last-is h₂)
          ∙ sym (e₂ ∙ ap (λ (x : ℕ). size high + x) e₁)))
