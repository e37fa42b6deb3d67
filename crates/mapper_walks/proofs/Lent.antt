-- The stores over a lent arena are those over words counted from address 0, while every table and every page that is handed out lies in it. Assumes nothing.
use mathlib.Core.Path.{◌≡◌, refl, sym, ◌∙◌, ap, subst}
use mathlib.Core.Logic.{inl, inr}
use mathlib.Core.Bool.{not, cond}
use mathlib.Core.List.{List}
use Prim.Native.Nat.{ℕ, zero, suc, ◌+◌, ◌-◌, ◌*◌, ◌/◌, ◌%◌, ◌^◌, ◌≤◌, ◌<◌}
use native.Mathlib.Omega.{arith}
use native.Mathlib.Nat.{mod-eq_of_lt, le_refl}
use lib.Dec.{T, leb, eqb, lit≤}
use lib.ListN.{length, length-set}
use Rattle.rules_laws.proofs.Lists.{if, T-or-not, T_true, T_false}
use Rattle.calls.specs.Calls.{address_from}
use Rattle.mapper_rules.specs.Walk.{span, is_table_lem}
use Rattle.mapper_laws.specs.declared.Mapping.{Mapping}
use Rattle.mapper_laws.specs.Tree.{Entry, Ends, Leads, table, page_of, leads_to}
use Rattle.mapper_laws.specs.Mapping.{meets, opens, leaf_word_lem, table_word_lem, wants}
use Rattle.mapper_laws.specs.Arena.{shows, stored, cleared}
use Rattle.mapper_laws.specs.Stores.{Stored, put, hand, steps, store}
use Rattle.mapper_laws.proofs.Apart.{Has, ends-none}
use Rattle.mapper_laws.proofs.Arena.{stored-shows, cleared-shows}
use Rattle.mapper_laws.proofs.Handed.{slot, sum-part}
use Rattle.mapper_laws.proofs.Refines as refined
use Rattle.mapper_arena.proofs.Clearing.{cleared-length}
use Rattle.mapper_pages.specs.Pages.{page_from}
use Rattle.mapper_stores.specs.Stores as lent
use Rattle.mapper_stores.specs.Stores.{Held, next_word_lem, made_table_lem}
use Rattle.mapper_supply.specs.Supply.{image_after, page_at}

stored-length : (b : ℕ) (A : List ℕ) (i v : ℕ) → length (stored b A i v) ≡ length A
stored-length b A i v = if (leb b i) (λ (B : List ℕ). length B ≡ length A) (λ _. length-set {A = ℕ} A (i - b) v) (λ _. refl)

-- ---- each way through, over a lent arena

module _ (q : Mapping) (b h e i : ℕ) (s : Held) where
  lent-table : T (opens q (suc h) e) → T (is_table_lem (shows b s.arena i))
      → lent.store q b (suc h) e i s ≡ lent.steps 512 (λ j. lent.store q b h (e + j * span h) (512 * page_of (shows b s.arena i) + j)) s
  unfolding lent.store
  lent-table o t = rw (T_true (opens q (suc h) e) o, T_true (is_table_lem (shows b s.arena i)) t)

  lent-fresh : T (opens q (suc h) e) → T (not (is_table_lem (shows b s.arena i)))
      → lent.store q b (suc h) e i s ≡ lent.steps 512 (λ j. lent.store q b h (e + j * span h) (512 * page_of (next_word_lem s) + j)) (made_table_lem b i s)
  unfolding lent.store
  lent-fresh o t = rw (T_true (opens q (suc h) e) o, T_false (is_table_lem (shows b s.arena i)) t)

  lent-leaf : T (not (opens q (suc h) e)) → T (meets q (suc h) e) → lent.store q b (suc h) e i s ≡ lent.put b i (leaf_word_lem q (suc h) e % 2 ^ 64) s
  unfolding lent.store
  lent-leaf o m = rw (T_false (opens q (suc h) e) o, T_true (meets q (suc h) e) m)

  lent_none : T (not (opens q (suc h) e)) → T (not (meets q (suc h) e)) → lent.store q b (suc h) e i s ≡ s
  unfolding lent.store
  lent_none o m = rw (T_false (opens q (suc h) e) o, T_false (meets q (suc h) e) m)

-- ---- the arena has L words, of which the first has the number b; the door's pages are those after the image l

module _ (b L : ℕ) (l : List ℕ) where
  abbrev pub Inside : ℕ → Type 0
  Inside i = (b ≤ i) × (i < b + L)

  -- all words of a page
  abbrev pub Whole : ℕ → Type 0
  Whole p = (b ≤ 512 * p) × (512 * p + 512 ≤ b + L)

  word-inside : (p j : ℕ) → Whole p → j < 512 → Inside (512 * p + j)
  word-inside p j (low, high) few = (omega arith, omega arith)

  -- the arena and the image that are lent, beside words and a number of pages
  pub record Shows (s : Held) (t : Stored) : Type 0 where
    pub words : (w : ℕ) → shows b s.arena w ≡ t.word w
    pub many : length s.arena ≡ L
    pub image : s.bytes ≡ image_after t.handed l

  put-shows : (i v : ℕ) (s : Held) (t : Stored) → Inside i → Shows s t → Shows (lent.put b i v s) (put i v t)
  put-shows i v s t (low, high) r = record {
    words = λ w. stored-shows b s.arena i v w low (rw r.many high) ∙ ap (λ (x : ℕ). cond (eqb w i) v x) (r.words w);
    many = stored-length b s.arena i v ∙ r.many;
    image = r.image;
  }

  module _ (q : Mapping) where
    abbrev page : ℕ → ℕ
    page = page_at l

    abbrev free : ℕ → ℕ
    free k = slot q page page_of k

    next-is : (s : Held) (t : Stored) → Shows s t → page t.handed < 2 ^ 48 → next_word_lem s ≡ table_word_lem (page t.handed)
    unfolding next_word_lem
    next-is s t r low =
        ap (λ (k : List ℕ). table_word_lem (address_from (page_from k).number) % 2 ^ 64) r.image
        ∙ mod-eq_of_lt (let z : table_word_lem (page t.handed) < 2 ^ 64 = omega arith in z)

    made-shows : (i : ℕ) (s : Held) (t : Stored) → Inside i → page t.handed < 2 ^ 48 → Shows s t
        → Shows (made_table_lem b i s) (put i (table_word_lem (page t.handed)) (hand (free t.handed) t))
    unfolding made_table_lem image_after
    made-shows i s t inside low r = rw (next-is s t r low) (put-shows i (table_word_lem (page t.handed)) (lent.held (cleared 512 b s.arena (512 * free t.handed)) (page_from s.bytes).bytes)
        (hand (free t.handed) t) inside (record {
          words = λ w. cleared-shows b s.arena (free t.handed) w ∙ ap (λ (x : ℕ). cond (eqb (w / 512) (free t.handed)) 0 x) (r.words w);
          many = cleared-length 512 b (512 * free t.handed) s.arena ∙ r.many;
          image = ap (λ (k : List ℕ). (page_from k).bytes) r.image;
        }))

    -- ---- what is asked: as the stores over words ask it, and that pages and words are not too large, and lie inside

    module _ (N : ℕ) (named : (k : ℕ) → k < N → T (is_table_lem (table_word_lem (page k)))) (once : (k m : ℕ) → k < N → m < N → free k ≡ free m → k ≡ m)
        (leaf-ends : (h e : ℕ) → T (not (opens q (suc h) e)) → T (meets q (suc h) e) → T (not (is_table_lem (leaf_word_lem q (suc h) e))))
        (leaf-small : (h e : ℕ) → T (meets q h e) → leaf_word_lem q h e < 2 ^ 64) (low : (k : ℕ) → k < N → page k < 2 ^ 48) (whole : (k : ℕ) → k < N → Whole (free k)) where
      abbrev tree : ℕ → ℕ → Stored → Entry
      tree = refined.tree q page page_of

      abbrev Ready : ℕ → ℕ → Stored → Entry → Type 0
      Ready = refined.Ready q page page_of N named once leaf-ends

      abbrev Table : ℕ → ℕ → ℕ → ℕ → (ℕ → Type 0) → Stored → (ℕ → Entry) → Type 0
      Table = refined.Table q page page_of N named once leaf-ends

      leaf-shows : (h e i : ℕ) (s : Held) (t : Stored) → T (meets q h e) → Inside i → Shows s t → Shows (lent.put b i (leaf_word_lem q h e % 2 ^ 64) s) (put i (leaf_word_lem q h e) t)
      leaf-shows h e i s t m inside r = rw (mod-eq_of_lt (leaf-small h e m)) (put-shows i (leaf_word_lem q h e) s t inside r)

      abbrev Lock : ℕ → Type 0
      Lock h = (e i : ℕ) (s : Held) (t : Stored) (E : Entry) → Shows s t → tree h i t ≡ E → Ready h i t E → t.handed + wants q h e E ≤ N → Inside i
          → ((p : ℕ) → Has page_of h E p → Whole p) → Shows (lent.store q b h e i s) (store q page page_of h e i t)

      -- ---- entries one after another

      module _ (h e first m : ℕ) (Own : ℕ → Type 0) (s : Held) (t : Stored) (f : ℕ → Entry) where
        abbrev wanted : ℕ → ℕ
        wanted j = wants q h (e + j * span h) (f j)

        in-turn : Lock h → Table h e first m Own t f → ((j : ℕ) → j < m → Inside (first + j)) → ((j : ℕ) → j < m → (p : ℕ) → Has page_of h (f j) p → Whole p) → Shows s t
            → (k : ℕ) → k ≤ m → Shows (lent.steps k (λ j. lent.store q b h (e + j * span h) (first + j)) s) (steps k (λ j. store q page page_of h (e + j * span h) (first + j)) t)
        unfolding lent.steps steps
        in-turn lock b inside tables r zero few = r
        in-turn lock b inside tables r (suc k) few =
            let less : k < m = omega arith in
            let u = refined.loop q page page_of N named once leaf-ends h e first m Own t f k (omega arith) (refined.refines q page page_of N named once leaf-ends h) b in
            let here = b.own k less in
            let part = sum-part m wanted k less in
            let c = u.count in
            let room = b.room in
            lock (e + k * span h) (first + k) _ _ (f k) (in-turn lock b inside tables r k (omega arith)) (u.todo k (omega arith) less) (record {
              apart = b.apart k less;
              off = b.off k less ((first + k) / 512) here;
              fresh-here = λ x y z g. b.fresh-here x (omega arith) z (subst Own (sym g) here);
              fresh-tables = λ x y z g. b.fresh-tables x (omega arith) z k less g;
            }) (omega arith) (inside k less) (tables k less)

      -- ---- a table that is there

      module _ (h e i : ℕ) (s : Held) (t : Stored) (o : T (opens q (suc h) e)) (lock : Lock h) (r : Shows s t) where
        abbrev d : ℕ
        d = t.word i

        abbrev old : ℕ → Entry
        old = table (λ j. leads_to page_of t.word h (t.word (512 * page_of d + j)))

        table-locked : T (is_table_lem d) → Ready (suc h) i t (Leads d old) → t.handed + wants q (suc h) e (Leads d old) ≤ N → ((p : ℕ) → Has page_of (suc h) (Leads d old) p → Whole p)
            → Shows (lent.store q b (suc h) e i s) (store q page page_of (suc h) e i t)
        unfolding Has
        table-locked is rd room tables =
            let at = r.words i in
            let way = lent-table q b h e i s o (subst (λ (x : ℕ). T (is_table_lem x)) (sym at) is)
            ∙ ap (λ (x : ℕ). lent.steps 512 (λ j. lent.store q b h (e + j * span h) (512 * page_of x + j)) s) at in
            rw (way, refined.store-table q page page_of h e i t o is)
            (in-turn h e (512 * page_of d) 512 (λ x. x ≡ page_of d) s t old lock
            (refined.table-ready q page page_of N named once leaf-ends h e i t (refined.refines q page page_of N named once leaf-ends h) o rd room)
            (λ j few. word-inside (page_of d) j (tables (page_of d) (inl refl)) few) (λ j few p g. tables p (inr (j, few, g))) r 512 (lit≤ tt))

        -- ---- a fresh one

        abbrev n : ℕ
        n = t.handed

        fresh-locked : T (not (is_table_lem d)) → Inside i → Ready (suc h) i t (Ends d) → n + wants q (suc h) e (Ends d) ≤ N → n < N → Shows (lent.store q b (suc h) e i s) (store q page page_of (suc h) e i t)
        fresh-locked is inside rd room few =
            let at = r.words i in
            let begun = put i (table_word_lem (page n)) (hand (free n) t) in
            let way = lent-fresh q b h e i s o (subst (λ (x : ℕ). T (not (is_table_lem x))) (sym at) is)
            ∙ ap (λ (x : ℕ). lent.steps 512 (λ j. lent.store q b h (e + j * span h) (512 * page_of x + j)) (made_table_lem b i s)) (next-is s t r (low n few)) in
            rw (way, refined.store-fresh q page page_of h e i t o is)
            (in-turn h e (512 * free n) 512 (λ x. x ≡ free n) (made_table_lem b i s) begun (λ j. Ends 0) lock
            (refined.fresh-ready q page page_of N named once leaf-ends h e i t (refined.refines q page page_of N named once leaf-ends h) o d rd room)
            (λ j more. word-inside (free n) j (whole n few) more) (λ j more p g. absurd (ends-none page_of h 0 p g)) (made-shows i s t inside (low n few) r) 512 (lit≤ tt))

      some-wanted : (h e d : ℕ) → T (opens q (suc h) e) → 0 < wants q (suc h) e (Ends d)
      unfolding wants
      some-wanted h e d o = rw (T_true (opens q (suc h) e) o) (omega arith)

      -- ---- every entry

      locked : (h : ℕ) → Lock h
      unfolding lent.store store
      locked zero e i s t E r is rd room inside tables = elim (T-or-not (meets q 0 e)) [
        | inl m ↦ rw (T_true (meets q 0 e) m) (leaf-shows 0 e i s t m inside r)
        | inr m ↦ rw (T_false (meets q 0 e) m) r
      ]
      locked (suc h) e i s t E r is rd room inside tables = elim (T-or-not (opens q (suc h) e)) [
        | inl o ↦ elim (T-or-not (is_table_lem (t.word i))) [
          | inl y ↦
              let x = sym is ∙ refined.leads-table q page page_of t.word h (t.word i) y in
              table-locked h e i s t o (locked h) r y (subst (Ready (suc h) i t) x rd) (subst (λ (X : Entry). t.handed + wants q (suc h) e X ≤ N) x room)
              (subst (λ (X : Entry). (p : ℕ) → Has page_of (suc h) X p → Whole p) x tables)
          | inr y ↦
              let x = sym is ∙ refined.leads-ends q page page_of t.word h (t.word i) y in
              let left = subst (λ (X : Entry). t.handed + wants q (suc h) e X ≤ N) x room in
              let some = some-wanted h e (t.word i) o in
              fresh-locked h e i s t o (locked h) r y inside (subst (Ready (suc h) i t) x rd) left (omega arith)
        ]
        | inr o ↦ elim (T-or-not (meets q (suc h) e)) [
          | inl m ↦ rw (lent-leaf q b h e i s o m, refined.store-leaf q page page_of h e i t o m) (leaf-shows (suc h) e i s t m inside r)
          | inr m ↦ rw (lent_none q b h e i s o m, refined.store-none q page page_of h e i t o m) r
        ]
      ]

      pub stores-show : (h e first m : ℕ) (Own : ℕ → Type 0) (s : Held) (t : Stored) (f : ℕ → Entry) → Table h e first m Own t f → ((j : ℕ) → j < m → Inside (first + j))
          → ((j : ℕ) → j < m → (p : ℕ) → Has page_of h (f j) p → Whole p) → Shows s t
          → Shows (lent.store_in_lem q b h e first m s) (steps m (λ j. store q page page_of h (e + j * span h) (first + j)) t)
      stores-show h e first m Own s t f b inside tables r = in-turn h e first m Own s t f (locked h) b inside tables r m (le_refl m)
