-- Steps of a book, and what the arrays show after each.
use Prim.Native.Nat.{ℕ, ◌<◌, ◌≤◌}
use mathlib.Core.Bool.{Bool, true, false}
use mathlib.Core.Logic.{◌≢◌, inl, inr, ⊎_elim}
use mathlib.Core.List.{List, [], ◌∷◌, ◌++◌}
use mathlib.Core.Path.{◌≡◌, refl, sym, ap, ◌∙◌}
use lib.ListN.{set, length-set}
use lib.Seq.{get_or-set_same, get_or-set_other}
use native.Mathlib.Omega.{arith}
use borrow.Author.Tests.{eq-eqb, ne_eqb}
use Rattle.linked_lists.specs.Links.{none, head, has}
use Rattle.linked_lists.proofs.Laws.{same?}
use Rattle.rules.specs.Rules.{Range, range, start_of, size, Book, before, without, put, remove}
use Rattle.rules.specs.Sound.{In, Pairwise}
use Rattle.rules_laws.proofs.Lists.{in-before→, in-before←, in-without→, in-without←}
use Rattle.rules.specs.Sound.{Sound, Other, Ahead}
use Rattle.rules_laws.proofs.Kept.{put-sound, remove-sound, in-remove→, others_apart}
use Rattle.pool_state.specs.Shown.{numbers, at, Stops, Shelved, Chained, Marked, Shape}
use Rattle.pool_state.specs.State.{arrays}
use Rattle.pool_state.specs.declared.MemoryAllocator.{MemoryAllocator}
use Rattle.pool_shelf.specs.Shelf.{Removes, Places, Resizes}
use Rattle.pool_chain.specs.Chain.{Enters}
use Rattle.pool_entries.specs.Entries.{Replaces, Inserts, Drops}
use Rattle.pool_state.proofs.Walks.{numbers-append, in_left, in_right, in-has, has_in, part, pair-low, pair-high, without-fresh, fresh-numbers, before_at}
use Rattle.pool_shelf.proofs.Shelf.{range_at, range_other, reslot}

pub without-part : (l : List Range) (r : Range) (u : List Range) → Pairwise Other (l ++ r ∷ u) → without r.number (l ++ r ∷ u) ≡ l ++ u
unfolding without
without-part [] r u h = rw (eq-eqb r.number r.number refl) (without-fresh r.number u (fresh-numbers r.number u h.0))
without-part (q ∷ l) r u h =
    rw (ne_eqb r.number q.number (λ e. h.0 r (in_right r l (r ∷ u) (inl refl)) (sym e)))
    (ap (λ (k : List Range). q ∷ k) (without-part l r u h.1))

-- ---- what depends on the numbers alone

marked-same : (n : ℕ) (c d : List Range) (en : List Bool) → numbers c ≡ numbers d → Marked n c en → Marked n d en
marked-same n c d en e m =
    record {
      enabled-length = m.enabled-length;
      on = λ r i. let w = has_in r.number c (rw e (in-has r d i)) in rw w.2 (m.on w.0 w.1);
      off = λ i b f. m.off i b (λ r j q. let w = has_in r.number d (rw e at (in-has r c j)) in f w.0 w.1 (q ∙ w.2));
    }

chained_same : (n : ℕ) (c d : List Range) (first : ℕ) (prev next : List ℕ) → numbers c ≡ numbers d → Chained n c first prev next → Chained n d first prev next
chained_same n c d first prev next e t = record { threads = rw e at t.threads; leads = t.leads ∙ ap head e }

-- ---- r replaced by q, where it stands

-- the state m with other ranges, on other size lists
abbrev pub resized : MemoryAllocator → List ℕ → List ℕ → List ℕ → List ℕ → List ℕ → MemoryAllocator
resized m heads start end lprev lnext = arrays m.free_size m.first_entry.0 heads start end m.enabled m.previous m.next lprev lnext

module _ (n : ℕ) (b : Book) (r q : Range) (s : Sound n b) (k : Replaces n b r q) where
  abbrev w : (l : List Range) × (u : List Range) × (b.chain ≡ l ++ r ∷ u)
  w = part r b.chain k.member

  cut-chain : without r.number b.chain ≡ w.0 ++ w.1
  cut-chain = let o : Pairwise Other (w.0 ++ r ∷ w.1) = rw w.2 at s.once in ap (without r.number) w.2 ∙ without-part w.0 r w.1 o

  member : (p : Range) → In p (w.0 ++ r ∷ w.1) → In p b.chain
  member p i = rw w.2 i

  -- r's place
  pub replace-chain : before start_of q (without r.number b.chain) ≡ w.0 ++ q ∷ w.1
  replace-chain =
      let a : Pairwise Ahead (w.0 ++ r ∷ w.1) = rw w.2 at s.apart in
      ap (before start_of q) cut-chain
      ∙ before_at start_of q w.0 w.1
      (λ p i. let g = (s.good p (member p (in_left p w.0 (r ∷ w.1) i))).proper in
      let h = k.low p (member p (in_left p w.0 (r ∷ w.1) i)) (pair-low Ahead w.0 r w.1 a p i) in omega arith)
      (stops w.1 (λ p i. k.high p (member p (in_right p w.0 (r ∷ w.1) (inr i))) (pair-high Ahead w.0 r w.1 a p i)))
    where
      stops : (u : List Range) → ((p : Range) → In p u → Ahead q p) → Stops start_of (start_of q) u
      stops [] f = tt
      stops (p ∷ u) f = let h = f p (inl refl) in let g = k.good.proper in omega arith

  replace-numbers : numbers b.chain ≡ numbers (before start_of q (without r.number b.chain))
  replace-numbers =
      ap numbers w.2 ∙ numbers-append w.0 (r ∷ w.1)
      ∙ ap (λ (i : ℕ). numbers w.0 ++ i ∷ numbers w.1) k.number
      ∙ sym (ap numbers replace-chain ∙ numbers-append w.0 (q ∷ w.1))

  pub replace-sound : Sound n (put q (remove r b))
  replace-sound = put-sound n (remove r b) q (remove-sound n b r s) k.good
      (λ p m. let v = in-remove→ r b p m in
      (λ e. v.1 (k.number ∙ e), elim (others_apart n b r p s k.member v.0 v.1) [ inl h ↦ inl (k.low p v.0 h) | inr h ↦ inr (k.high p v.0 h) ]))

  pub replaced : {m : MemoryAllocator} {heads' lprev' lnext' : List ℕ} → Shape n b m
      → Shelved n (before size q (without q.number b.shelf)) (set m.start q.number q.start) (set m.end q.number q.last) lprev' lnext' heads'
      → Shape n (put q (remove r b)) (resized m heads' (set m.start q.number q.start) (set m.end q.number q.last) lprev' lnext')
  unfolding put remove
  replaced {m} t v =
      let start = m.start in let end = m.end in
      let i = q.number in
      record {
        sound = replace-sound;
        kept = record {
          marked = marked-same n b.chain _ m.enabled replace-numbers t.kept.marked;
          start-length = length-set start i q.start ∙ t.kept.start-length;
          end-length = length-set end i q.last ∙ t.kept.end-length;
          stand = λ p y. elim (in-before→ start_of q (without r.number b.chain) p y) [
            | inl e ↦ rw e (range_at n start end i q.start q.last t.kept.start-length t.kept.end-length k.good.known)
            | inr j ↦ let z = in-without→ r.number b.chain p j in
                range_other start end i q.start q.last p.number (λ e. z.1 (k.number ∙ sym e)) ∙ t.kept.stand p z.0
          ];
          clear = λ j bj f.
              let d : j ≢ i = f q (in-before← start_of q (without r.number b.chain) q (inl refl)) in
              let g = t.kept.clear j bj (λ p y e.
              let z = has_in p.number (before start_of q (without r.number b.chain)) (rw replace-numbers at (in-has p b.chain y)) in f z.0 z.1 (e ∙ z.2)) in
              (get_or-set_other start i j q.start 0 d ∙ g.0, get_or-set_other end i j q.last 0 d ∙ g.1);
        };
        chained = chained_same n b.chain _ m.first_entry.0 m.previous m.next replace-numbers t.chained;
        shelved = rw k.number v;
      }

-- ---- r taken out

module _ (n : ℕ) (small : n ≤ none) (b : Book) (r : Range) (member : In r b.chain) where
  pub dropped : {m : MemoryAllocator} {first' : ℕ} {prev' next' heads' lprev' lnext' : List ℕ} → Shape n b m
      → Chained n (without r.number b.chain) first' prev' next'
      → Shelved n (without r.number b.shelf) m.start m.end lprev' lnext' heads'
      → Shape n (remove r b) (arrays m.free_size first' heads' (set m.start r.number 0) (set m.end r.number 0) (set m.enabled r.number false)
      prev' next' lprev' lnext')
  unfolding remove
  dropped {m} t c v =
      let start = m.start in let end = m.end in let en = m.enabled in
      let i = r.number in
      let g = t.sound.good r member in
      let still : (j : ℕ) → j ≢ i → ((p : Range) → In p (without i b.chain) → j ≢ p.number) → (p : Range) → In p b.chain → j ≢ p.number
      = λ j d f p z e. ⊎_elim (λ (h : i ≡ p.number). d (e ∙ sym h)) (λ (h : i ≢ p.number). f p (in-without← i b.chain p z h) e) (same? i p.number) in
      record {
        sound = remove-sound n b r t.sound;
        kept = record {
          marked = record {
            enabled-length = length-set en i false ∙ t.kept.marked.enabled-length;
            on = λ p z. let w = in-without→ i b.chain p z in get_or-set_other en i p.number false false (λ e. w.1 (sym e)) ∙ t.kept.marked.on p w.0;
            off = λ j bj f. ⊎_elim
                (λ (e : j ≡ i). rw e (get_or-set_same en i false false (let a = t.kept.marked.enabled-length in let z = g.known in omega arith)))
                (λ (d : j ≢ i). get_or-set_other en i j false false d ∙ t.kept.marked.off j bj (still j d f))
                (same? j i);
          };
          start-length = length-set start i 0 ∙ t.kept.start-length;
          end-length = length-set end i 0 ∙ t.kept.end-length;
          stand = λ p z. let w = in-without→ i b.chain p z in range_other start end i 0 0 p.number (λ e. w.1 (sym e)) ∙ t.kept.stand p w.0;
          clear = λ j bj f. ⊎_elim
              (λ (e : j ≡ i). rw e (
                get_or-set_same start i 0 0 (let a = t.kept.start-length in let z = g.known in omega arith),
                get_or-set_same end i 0 0 (let a = t.kept.end-length in let z = g.known in omega arith),
              ))
              (λ (d : j ≢ i). let w = t.kept.clear j bj (still j d f) in (get_or-set_other start i j 0 0 d ∙ w.0, get_or-set_other end i j 0 0 d ∙ w.1))
              (same? j i);
        };
        chained = c;
        shelved = reslot n small (without i b.shelf) start end _ _ _ i 0 0 v (λ p z. (in-without→ i b.shelf p z).1);
      }

-- ---- q put in

module _ (n : ℕ) (small : n ≤ none) (b : Book) (q : Range) where
  pub inserted : {m : MemoryAllocator} {x y first' : ℕ} {prev' next' heads' lprev' lnext' : List ℕ} (k : Inserts n b m x y q)
      → Chained n (k.gap.walked.passed ++ q ∷ k.gap.walked.rest) first' prev' next'
      → Shelved n (before size q b.shelf) (set m.start q.number q.start) (set m.end q.number q.last) lprev' lnext' heads'
      → Shape n (put q b) (arrays m.free_size first' heads' (set m.start q.number q.start) (set m.end q.number q.last) (set m.enabled q.number true)
      prev' next' lprev' lnext')
  unfolding put
  inserted {m} k c v =
      let start = m.start in let end = m.end in let en = m.enabled in
      let i = q.number in
      let t = k.shape in
      let g = k.gap in
      let e₀ : before start_of q b.chain ≡ g.walked.passed ++ q ∷ g.walked.rest
      = ap (before start_of q) g.walked.parts ∙ before_at start_of q g.walked.passed g.walked.rest g.walked.smaller g.stops in
      let new : (j : ℕ) → ((p : Range) → In p (before start_of q b.chain) → j ≢ p.number) → (j ≢ i) × ((p : Range) → In p b.chain → j ≢ p.number)
      = λ j f. (f q (in-before← start_of q b.chain q (inl refl)), λ p z. f p (in-before← start_of q b.chain p (inr z))) in
      record {
        sound = put-sound n b q t.sound k.good k.apart;
        kept = record {
          marked = record {
            enabled-length = length-set en i true ∙ t.kept.marked.enabled-length;
            on = λ p z. elim (in-before→ start_of q b.chain p z) [
              | inl e ↦ rw e (get_or-set_same en i true false (let a = t.kept.marked.enabled-length in let y = k.good.known in omega arith))
              | inr j ↦ get_or-set_other en i p.number true false (λ e. (k.apart p j).0 (sym e)) ∙ t.kept.marked.on p j
            ];
            off = λ j bj f. let w = new j f in get_or-set_other en i j true false w.0 ∙ t.kept.marked.off j bj w.1;
          };
          start-length = length-set start i q.start ∙ t.kept.start-length;
          end-length = length-set end i q.last ∙ t.kept.end-length;
          stand = λ p z. elim (in-before→ start_of q b.chain p z) [
            | inl e ↦ rw e (range_at n start end i q.start q.last t.kept.start-length t.kept.end-length k.good.known)
            | inr j ↦ range_other start end i q.start q.last p.number (λ e. (k.apart p j).0 (sym e)) ∙ t.kept.stand p j
          ];
          clear = λ j bj f. let w = new j f in let y = t.kept.clear j bj w.1 in
              (get_or-set_other start i j q.start 0 w.0 ∙ y.0, get_or-set_other end i j q.last 0 w.0 ∙ y.1);
        };
        chained = rw e₀ c;
        shelved = v;
      }

-- ---- what the steps ask of the shelf and of the chain

module _ {n : ℕ} (small : n ≤ none) {b : Book} {m : MemoryAllocator} where
  module _ {i : ℕ} {r : Range} (k : Drops n b m i r) where
    pub drop-removes : Removes n m.start m.end m.list_prev m.list_next m.free_list i b.shelf
    drop-removes =
        let t = k.shape in
        record {
          shelved = t.shelved;
          member = rw k.number (rw (t.kept.stand r k.member) ((t.sound.same r).0 k.member));
        }

    pub drop-below : i < n
    drop-below = rw k.number (k.shape.sound.good r k.member).known

    pub drop-has : has i (numbers b.chain) ≡ true
    drop-has = rw k.number (in-has r b.chain k.member)

    pub drop-shape : {first' : ℕ} {prev' next' heads' lprev' lnext' : List ℕ}
        → Chained n (without i b.chain) first' prev' next'
        → Shelved n (without i b.shelf) m.start m.end lprev' lnext' heads'
        → Shape n (remove r b) (arrays m.free_size first' heads' (set m.start i 0) (set m.end i 0) (set m.enabled i false) prev' next' lprev' lnext')
    drop-shape c v = let e = k.number in rw e (dropped n small b r k.member k.shape (rw e at c) (rw e at v))

  module _ {x y : ℕ} {q : Range} (k : Inserts n b m x y q) where
    pub insert-enters : Enters n m.first_entry.0 m.previous m.next x y q k.gap.walked.passed k.gap.walked.rest
    insert-enters =
        let e = k.gap.walked.parts in
        record {
          chained = rw e at k.shape.chained;
          below = k.good.known;
          loose = λ p z. (k.apart p (rw e z)).0;
          low = k.gap.walked.low;
          high = k.gap.walked.high;
        }

    pub insert-at : at (set m.start q.number q.start) (set m.end q.number q.last) q.number ≡ q
    insert-at = range_at n m.start m.end q.number q.start q.last k.shape.kept.start-length k.shape.kept.end-length k.good.known

    pub insert_places : Places n (set m.start q.number q.start) (set m.end q.number q.last) m.list_prev m.list_next m.free_list q.number b.shelf
    insert_places =
        let loose : (p : Range) → In p b.shelf → q.number ≢ p.number = λ p z. (k.apart p ((k.shape.sound.same p).1 z)).0 in
        record {
          shelved = reslot n small b.shelf m.start m.end m.list_prev m.list_next m.free_list q.number q.start q.last k.shape.shelved loose;
          good = rw insert-at k.good;
          loose = loose;
        }

    pub insert-shape : {first' : ℕ} {prev' next' heads' lprev' lnext' : List ℕ} → let start' = set m.start q.number q.start in let end' = set m.end q.number q.last in
        Chained n (k.gap.walked.passed ++ q ∷ k.gap.walked.rest) first' prev' next'
        → Shelved n (before size (at start' end' q.number) b.shelf) start' end' lprev' lnext' heads'
        → Shape n (put q b) (arrays m.free_size first' heads' start' end' (set m.enabled q.number true) prev' next' lprev' lnext')
    insert-shape c v = inserted n small b q k c (rw insert-at at v)

-- ---- a record's range exchanged for another in its place

module _ {n : ℕ} (small : n ≤ none) {b : Book} {m : MemoryAllocator} (t : Shape n b m) {r : Range} {i s e : ℕ} (k : Replaces n b r (range i s e)) where
  pub swap-resizes : Resizes n m.start m.end m.list_prev m.list_next m.free_list (range i s e) b.shelf
  swap-resizes = record {
    removes = drop-removes small (record { shape = t; member = k.member; number = sym k.number });
    good = k.good;
  }

  pub swap-shape : {start' end' heads' lprev' lnext' : List ℕ}
      → start' ≡ set m.start i s → end' ≡ set m.end i e
      → Shelved n (before size (range i s e) (without i b.shelf)) start' end' lprev' lnext' heads'
      → Shape n (put (range i s e) (remove r b)) (resized m heads' start' end' lprev' lnext')
  swap-shape es ee v = rw (es, ee) (replaced n b r (range i s e) t.sound k t (rw (es, ee) at v))
