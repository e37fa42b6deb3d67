-- The stores make of the words what the mapping makes of the entries, and change nothing else. Assumes nothing.
use mathlib.Core.Path.{◌≡◌, refl, sym, ◌∙◌, ap, subst, fun_ext}
use mathlib.Core.Logic.{inl, inr, ◌≢◌}
use mathlib.Core.Bool.{not}
use Prim.Native.Nat.{ℕ, zero, suc, ◌+◌, ◌*◌, ◌/◌, ◌%◌, ◌≤◌, ◌<◌}
use native.Mathlib.Omega.{arith}
use native.Mathlib.Nat.{mod-lt, mod-eq_of_lt}
use lib.Dec.{T, eqb, eqb→eq, eqb_refl, lit<, lit≤}
use Rattle.mapper_rules.specs.Walk.{span, is_table_lem}
use Rattle.rules_laws.proofs.Lists.{if, T-or-not, T_true, T_false, neq}
use Rattle.mapper_laws.specs.declared.Mapping.{Mapping}
use Rattle.mapper_laws.specs.Tree.{Entry, Ends, Leads, table, sum, leads_to}
use Rattle.mapper_laws.specs.Mapping.{meets, opens, leaf_word_lem, table_word_lem, wants, mapped}
use Rattle.mapper_laws.specs.Stores.{Stored, put, hand, steps, store}
use Rattle.mapper_laws.proofs.Apart.{Has, ends-none, Apart, apart-ends, in-page, same-tree}
use Rattle.mapper_laws.proofs.Handed.{slot, has-mapped, sum-part}

sum-none : (f : ℕ → ℕ) → sum 0 f ≡ 0
unfolding sum
sum-none f = refl

sum_one : (k : ℕ) (f : ℕ → ℕ) → sum (suc k) f ≡ sum k f + f k
unfolding sum
sum_one k f = refl

put-here : (i v : ℕ) (s : Stored) → (put i v s).word i ≡ v
put-here i v s = rw (T_true (eqb i i) (eqb_refl i))

put-there : (i v w : ℕ) (s : Stored) → w ≢ i → (put i v s).word w ≡ s.word w
put-there i v w s d = elim (T-or-not (eqb w i)) [ inl e ↦ absurd (d (eqb→eq w i e)) | inr e ↦ rw (T_false (eqb w i) e) ]

module _ (q : Mapping) (page page_of : ℕ → ℕ) where
  abbrev pub tree : ℕ → ℕ → Stored → Entry
  tree h i s = leads_to page_of s.word h (s.word i)

  abbrev pub free : ℕ → ℕ
  free k = slot q page page_of k

  -- ---- each way through

  module _ (h e i : ℕ) (s : Stored) where
    pub store-table : T (opens q (suc h) e) → T (is_table_lem (s.word i)) → store q page page_of (suc h) e i s ≡ steps 512 (λ j. store q page page_of h (e + j * span h) (512 * page_of (s.word i) + j)) s
    unfolding store
    store-table o t = rw (T_true (opens q (suc h) e) o, T_true (is_table_lem (s.word i)) t)

    pub store-fresh : T (opens q (suc h) e) → T (not (is_table_lem (s.word i)))
        → store q page page_of (suc h) e i s ≡ steps 512 (λ j. store q page page_of h (e + j * span h) (512 * free s.handed + j)) (put i (table_word_lem (page s.handed)) (hand (free s.handed) s))
    unfolding store
    store-fresh o t = rw (T_true (opens q (suc h) e) o, T_false (is_table_lem (s.word i)) t)

    pub store-leaf : T (not (opens q (suc h) e)) → T (meets q (suc h) e) → store q page page_of (suc h) e i s ≡ put i (leaf_word_lem q (suc h) e) s
    unfolding store
    store-leaf o m = rw (T_false (opens q (suc h) e) o, T_true (meets q (suc h) e) m)

    pub store-none : T (not (opens q (suc h) e)) → T (not (meets q (suc h) e)) → store q page page_of (suc h) e i s ≡ s
    unfolding store
    store-none o m = rw (T_false (opens q (suc h) e) o, T_false (meets q (suc h) e) m)

  module _ (h e n : ℕ) where
    mapped-table : (d : ℕ) (f : ℕ → Entry) → T (opens q (suc h) e)
        → mapped q page (suc h) e n (Leads d f) ≡ Leads d (table (λ j. mapped q page h (e + j * span h) (n + sum j (λ i. wants q h (e + i * span h) (f i))) (f j)))
    unfolding mapped
    mapped-table d f o = rw (T_true (opens q (suc h) e) o)

    mapped-fresh : (d : ℕ) → T (opens q (suc h) e)
        → mapped q page (suc h) e n (Ends d) ≡ Leads (table_word_lem (page n)) (table (λ j. mapped q page h (e + j * span h) (suc n + sum j (λ i. wants q h (e + i * span h) (Ends 0))) (Ends 0)))
    unfolding mapped
    mapped-fresh d o = rw (T_true (opens q (suc h) e) o)

    mapped-leaf : (E : Entry) → T (not (opens q (suc h) e)) → T (meets q (suc h) e) → mapped q page (suc h) e n E ≡ Ends (leaf_word_lem q (suc h) e)
    unfolding mapped
    mapped-leaf (Ends d) o m = rw (T_false (opens q (suc h) e) o, T_true (meets q (suc h) e) m)
    mapped-leaf (Leads d f) o m = rw (T_false (opens q (suc h) e) o, T_true (meets q (suc h) e) m)

    mapped-none : (E : Entry) → T (not (opens q (suc h) e)) → T (not (meets q (suc h) e)) → mapped q page (suc h) e n E ≡ E
    unfolding mapped
    mapped-none (Ends d) o m = rw (T_false (opens q (suc h) e) o, T_false (meets q (suc h) e) m)
    mapped-none (Leads d f) o m = rw (T_false (opens q (suc h) e) o, T_false (meets q (suc h) e) m)

  module _ (h e : ℕ) where
    wants-table : (d : ℕ) (f : ℕ → Entry) → T (opens q (suc h) e) → wants q (suc h) e (Leads d f) ≡ sum 512 (λ j. wants q h (e + j * span h) (f j))
    unfolding wants
    wants-table d f o = rw (T_true (opens q (suc h) e) o)

    wants-fresh : (d : ℕ) → T (opens q (suc h) e) → wants q (suc h) e (Ends d) ≡ suc (sum 512 (λ j. wants q h (e + j * span h) (Ends 0)))
    unfolding wants
    wants-fresh d o = rw (T_true (opens q (suc h) e) o)

    wants-none : (E : Entry) → T (not (opens q (suc h) e)) → wants q (suc h) e E ≡ 0
    unfolding wants
    wants-none (Ends d) o = rw (T_false (opens q (suc h) e) o)
    wants-none (Leads d f) o = rw (T_false (opens q (suc h) e) o)

  module _ (word : ℕ → ℕ) (h d : ℕ) where
    pub leads-table : T (is_table_lem d) → leads_to page_of word (suc h) d ≡ Leads d (table (λ j. leads_to page_of word h (word (512 * page_of d + j))))
    unfolding leads_to
    leads-table t = rw (T_true (is_table_lem d) t)

    pub leads-ends : T (not (is_table_lem d)) → leads_to page_of word (suc h) d ≡ Ends d
    unfolding leads_to
    leads-ends t = rw (T_false (is_table_lem d) t)

  -- ---- what is asked, and what is shown

  module _ (N : ℕ) (named : (k : ℕ) → k < N → T (is_table_lem (table_word_lem (page k)))) (once : (k l : ℕ) → k < N → l < N → free k ≡ free l → k ≡ l)
      (leaf-ends : (h e : ℕ) → T (not (opens q (suc h) e)) → T (meets q (suc h) e) → T (not (is_table_lem (leaf_word_lem q (suc h) e)))) where
    pub record Ready (h i : ℕ) (s : Stored) (E : Entry) : Type 0 where
      pub apart : Apart page_of h E
      pub off : Has page_of h E (i / 512) → ⊥
      pub fresh-here : (k : ℕ) → s.handed ≤ k → k < N → free k ≢ i / 512
      pub fresh-tables : (k : ℕ) → s.handed ≤ k → k < N → Has page_of h E (free k) → ⊥

    pub record Refined (h e i : ℕ) (s s' : Stored) (E : Entry) : Type 0 where
      pub became : tree h i s' ≡ mapped q page h e s.handed E
      pub count : s'.handed ≡ s.handed + wants q h e E
      pub frame : (w : ℕ) → w ≢ i → (Has page_of h (mapped q page h e s.handed E) (w / 512) → ⊥) → s'.word w ≡ s.word w

    -- ---- a leaf, or nothing

    leaf-refined : (h e i : ℕ) (s : Stored) → T (not (opens q (suc h) e)) → T (meets q (suc h) e) → Refined (suc h) e i s (put i (leaf_word_lem q (suc h) e) s) (tree (suc h) i s)
    leaf-refined h e i s o m = record {
      became = ap (leads_to page_of (put i (leaf_word_lem q (suc h) e) s).word (suc h)) (put-here i (leaf_word_lem q (suc h) e) s)
          ∙ leads-ends (put i (leaf_word_lem q (suc h) e) s).word h (leaf_word_lem q (suc h) e) (leaf-ends h e o m)
          ∙ sym (mapped-leaf h e s.handed (tree (suc h) i s) o m);
      count = let z = wants-none h e (tree (suc h) i s) o in omega arith;
      frame = λ w d a. put-there i (leaf_word_lem q (suc h) e) w s d;
    }

    none-refined : (h e i : ℕ) (s : Stored) → T (not (opens q (suc h) e)) → T (not (meets q (suc h) e)) → Refined (suc h) e i s s (tree (suc h) i s)
    none-refined h e i s o m = record {
      became = sym (mapped-none h e s.handed (tree (suc h) i s) o m);
      count = let z = wants-none h e (tree (suc h) i s) o in omega arith;
      frame = λ w d a. refl;
    }

    page-refined : (e i : ℕ) (s : Stored) → Refined 0 e i s (store q page page_of 0 e i s) (tree 0 i s)
    unfolding store mapped leads_to wants
    page-refined e i s = if (meets q 0 e) (λ x. Refined 0 e i s x (tree 0 i s))
        (λ m. record { became = ap Ends (put-here i (leaf_word_lem q 0 e) s) ∙ rw (T_true (meets q 0 e) m); count = omega arith; frame = λ w d a. put-there i (leaf_word_lem q 0 e) w s d })
        (λ m. record { became = rw (T_false (meets q 0 e) m); count = omega arith; frame = λ w d a. refl })

    -- ---- m entries, one after another, from the word `first` on, in the pages that Own says

    abbrev pub Refines : ℕ → Type 0
    Refines h = (e i : ℕ) (s : Stored) (E : Entry) → tree h i s ≡ E → Ready h i s E → s.handed + wants q h e E ≤ N → Refined h e i s (store q page page_of h e i s) E

    module _ (h e first m : ℕ) (Own : ℕ → Type 0) (s : Stored) (f : ℕ → Entry) where
      abbrev pub wanted : ℕ → ℕ
      wanted j = wants q h (e + j * span h) (f j)

      abbrev pub after : ℕ → Stored
      after k = steps k (λ j. store q page page_of h (e + j * span h) (first + j)) s

      -- what the j-th entry becomes
      abbrev pub made : ℕ → Entry
      made j = mapped q page h (e + j * span h) (s.handed + sum j wanted) (f j)

      pub record Table : Type 0 where
        pub entries : (j : ℕ) → j < m → tree h (first + j) s ≡ f j
        pub own : (j : ℕ) → j < m → Own ((first + j) / 512)
        pub apart : (j : ℕ) → j < m → Apart page_of h (f j)
        pub off : (j : ℕ) → j < m → (x : ℕ) → Own x → Has page_of h (f j) x → ⊥
        pub two : (i j : ℕ) → i < m → j < m → i ≢ j → (x : ℕ) → Has page_of h (f i) x → Has page_of h (f j) x → ⊥
        pub fresh-here : (k : ℕ) → s.handed ≤ k → k < N → Own (free k) → ⊥
        pub fresh-tables : (k : ℕ) → s.handed ≤ k → k < N → (j : ℕ) → j < m → Has page_of h (f j) (free k) → ⊥
        pub room : s.handed + sum m wanted ≤ N

      pub record Upto (k : ℕ) (t : Stored) : Type 0 where
        pub count : t.handed ≡ s.handed + sum k wanted
        pub done : (j : ℕ) → j < k → tree h (first + j) t ≡ mapped q page h (e + j * span h) (s.handed + sum j wanted) (f j)
        pub todo : (j : ℕ) → k ≤ j → j < m → tree h (first + j) t ≡ f j
        pub frame : (w : ℕ) → (Own (w / 512) → ⊥) → ((j : ℕ) → j < k → Has page_of h (made j) (w / 512) → ⊥) → t.word w ≡ s.word w
        pub exact : (w : ℕ) → ((j : ℕ) → j < k → w ≢ first + j) → ((j : ℕ) → j < k → Has page_of h (made j) (w / 512) → ⊥) → t.word w ≡ s.word w

      start : Table → Upto 0 s
      start b = record { count = let z = sum-none wanted in omega arith; done = λ j l. absurd (omega arith); todo = λ j l r. b.entries j r; frame = λ w a d. refl; exact = λ w a d. refl }

      -- an entry other than the k-th, which leads to X, when the k-th is stored
      kept : (k : ℕ) (t t' : Stored) → k < m → Table → Refined h (e + k * span h) (first + k) t t' (f k) → ((x : ℕ) → Own x → Has page_of h (mapped q page h (e + k * span h) t.handed (f k)) x → ⊥)
          → (j : ℕ) (X : Entry) → j < m → j ≢ k → tree h (first + j) t ≡ X → ((x : ℕ) → Own x → Has page_of h X x → ⊥)
          → ((x : ℕ) → Has page_of h X x → Has page_of h (mapped q page h (e + k * span h) t.handed (f k)) x → ⊥)
          → tree h (first + j) t' ≡ X
      kept k t t' few b r new j X lt other is own apart =
          let at_j = b.own j lt in
          let word : t'.word (first + j) ≡ t.word (first + j) = r.frame (first + j) (λ g. other (let z : j ≡ k = omega arith in z)) (new ((first + j) / 512) at_j) in
          ap (leads_to page_of t'.word h) word
          ∙ sym (same-tree page_of t.word t'.word h (t.word (first + j)) (λ w g.
          let g' = subst (λ (Y : Entry). Has page_of h Y (w / 512)) is g in
          sym (r.frame w (λ z. own (w / 512) (subst (λ (y : ℕ). Own (y / 512)) (sym z) (b.own k few)) g') (apart (w / 512) g'))))
          ∙ is

      next : (k : ℕ) (t : Stored) → k < m → Refines h → Table → Upto k t → Upto (suc k) (store q page page_of h (e + k * span h) (first + k) t)
      next k t few refines b u =
          let t' = store q page page_of h (e + k * span h) (first + k) t in
          let here = b.own k few in
          let part = sum-part m wanted k few in
          let c = u.count in
          let room = b.room in
          let r : Refined h (e + k * span h) (first + k) t t' (f k) = refines (e + k * span h) (first + k) t (f k) (u.todo k (omega arith) few) (record {
            apart = b.apart k few;
            off = b.off k few ((first + k) / 512) here;
            fresh-here = λ x l y g. b.fresh-here x (omega arith) y (subst Own (sym g) here);
            fresh-tables = λ x l y g. b.fresh-tables x (omega arith) y k few g;
          }) (omega arith) in
          let rc = r.count in
          let so = sum_one k wanted in
          let came = has-mapped q page page_of h (e + k * span h) t.handed (f k) in
          let new : (x : ℕ) → Own x → Has page_of h (mapped q page h (e + k * span h) t.handed (f k)) x → ⊥ = λ x o y. elim (came x y) [
            | inl v ↦ b.off k few x o v
            | inr z ↦ b.fresh-here z.0 (let l = z.1 in omega arith) (let r = z.2 in omega arith) (subst Own z.3 o)
          ] in
          let there : (w : ℕ) → Has page_of h (mapped q page h (e + k * span h) t.handed (f k)) (w / 512) → Has page_of h (made k) (w / 512) =
          λ w. subst (λ (n : ℕ). Has page_of h (mapped q page h (e + k * span h) n (f k)) (w / 512)) c in
          record {
            count = omega arith;
            done = λ j lt. elim (T-or-not (eqb j k)) [
              | inl g ↦ subst (λ (y : ℕ). tree h (first + y) t' ≡ made y) (sym (eqb→eq j k g)) (r.became ∙ ap (λ (n : ℕ). mapped q page h (e + k * span h) n (f k)) c)
              | inr g ↦ let d = neq j k g in
                  let few-j : j < m = omega arith in
                  let part-j = sum-part k wanted j (omega arith) in
                  let was = has-mapped q page page_of h (e + j * span h) (s.handed + sum j wanted) (f j) in
                  kept k t t' few b r new j (made j) few-j d (u.done j (omega arith))
                  (λ x own y. elim (was x y) [ inl o ↦ b.off j few-j x own o | inr z ↦ b.fresh-here z.0 (let l = z.1 in omega arith) (let y = z.2 in omega arith) (subst Own z.3 own) ])
                  (λ x y o. elim (was x y) [
                    | inl v ↦ elim (came x o) [
                      | inl o' ↦ b.two j k few-j few d x v o'
                      | inr z ↦ b.fresh-tables z.0 (let l = z.1 in omega arith) (let y = z.2 in omega arith) j few-j (subst (Has page_of h (f j)) z.3 v)
                    ]
                    | inr z ↦ elim (came x o) [
                      | inl o' ↦ b.fresh-tables z.0 (let l = z.1 in omega arith) (let y = z.2 in omega arith) k few (subst (Has page_of h (f k)) z.3 o')
                      | inr z' ↦ let same = once z.0 z'.0 (let y = z.2 in omega arith) (let y = z'.2 in omega arith) (sym z.3 ∙ z'.3) in let y = z.2 in let l = z'.1 in omega arith
                    ]
                  ])
            ];
            todo = λ j le lt. kept k t t' few b r new j (f j) lt (λ g. let z : ⊥ = omega arith in z) (u.todo j (omega arith) lt)
                (b.off j lt)
                (λ x v o. elim (came x o) [
                  | inl o' ↦ b.two j k lt few (λ g. let z : ⊥ = omega arith in z) x v o'
                  | inr z ↦ b.fresh-tables z.0 (let l = z.1 in omega arith) (let y = z.2 in omega arith) j lt (subst (Has page_of h (f j)) z.3 v)
                ]);
            frame = λ w a d. r.frame w (λ g. a (subst (λ (y : ℕ). Own (y / 512)) (sym g) here)) (λ y. d k (omega arith) (there w y)) ∙ u.frame w a (λ j lt. d j (omega arith));
            exact = λ w a d. r.frame w (a k (omega arith)) (λ y. d k (omega arith) (there w y)) ∙ u.exact w (λ j lt. a j (omega arith)) (λ j lt. d j (omega arith));
          }

      pub loop : (k : ℕ) → k ≤ m → Refines h → Table → Upto k (after k)
      unfolding steps
      loop zero few refines b = start b
      loop (suc k) few refines b = next k (after k) (omega arith) refines b (loop k (omega arith) refines b)

    -- ---- a table that is there

    module _ (h e i : ℕ) (s : Stored) (refines : Refines h) (o : T (opens q (suc h) e)) where
      abbrev d : ℕ
      d = s.word i

      abbrev old : ℕ → Entry
      old = table (λ j. leads_to page_of s.word h (s.word (512 * page_of d + j)))

      pub table-ready : Ready (suc h) i s (Leads d old) → s.handed + wants q (suc h) e (Leads d old) ≤ N → Table h e (512 * page_of d) 512 (λ x. x ≡ page_of d) s old
      unfolding Apart Has
      table-ready rd room = record {
        entries = λ j lt. ap (λ (k : ℕ). leads_to page_of s.word h (s.word (512 * page_of d + k))) (sym (mod-eq_of_lt lt));
        apart = λ j lt. (rd.apart.0 j lt).0;
        own = λ j lt. in-page (page_of d) j lt;
        off = λ j lt x g y. (rd.apart.0 j lt).1 (subst (Has page_of h (old j)) g y);
        two = rd.apart.1;
        fresh-here = λ k l m g. rd.fresh-tables k l m (inl g);
        fresh-tables = λ k l m j lt g. rd.fresh-tables k l m (inr (j, lt, g));
        room = let w = wants-table h e d old o in omega arith;
      }

      abbrev grown : ℕ → Entry
      grown = made h e (512 * page_of d) 512 (λ x. x ≡ page_of d) s old

      table-refined : T (is_table_lem d) → Ready (suc h) i s (Leads d old) → s.handed + wants q (suc h) e (Leads d old) ≤ N
          → Refined (suc h) e i s (after h e (512 * page_of d) 512 (λ x. x ≡ page_of d) s old 512) (Leads d old)
      unfolding Has
      table-refined t rd room =
          let s' = after h e (512 * page_of d) 512 (λ x. x ≡ page_of d) s old 512 in
          let u = loop h e (512 * page_of d) 512 (λ x. x ≡ page_of d) s old 512 (lit≤ tt) refines (table-ready rd room) in
          let c = u.count in
          let w = wants-table h e d old o in
          let here : s'.word i ≡ d = u.frame i (λ g. rd.off (inl g)) (λ j lt y.
          let part = sum-part 512 (λ k. wants q h (e + k * span h) (old k)) j lt in
          elim (has-mapped q page page_of h (e + j * span h) _ (old j) (i / 512) y) [
            | inl g ↦ rd.off (inr (j, lt, g))
            | inr z ↦ rd.fresh-here z.0 (let l = z.1 in omega arith) (let m = z.2 in omega arith) (sym z.3)
          ]) in
          let to = mapped-table h e s.handed d old o in
          record {
            became = ap (leads_to page_of s'.word (suc h)) here ∙ leads-table s'.word h d t
                ∙ ap (Leads d) (fun_ext (λ j. u.done (j % 512) (mod-lt j (lit< tt))))
                ∙ sym to;
            count = omega arith;
            frame = λ x a b. u.frame x (λ g. b (subst (λ (X : Entry). Has page_of (suc h) X (x / 512)) (sym to) (inl g)))
                (λ j lt y. b (subst (λ (X : Entry). Has page_of (suc h) X (x / 512)) (sym to) (inr (j, lt, subst (λ (k : ℕ). Has page_of h (grown k) (x / 512)) (sym (mod-eq_of_lt lt)) y))));
          }

    -- ---- a fresh table

    cleared : (h : ℕ) (word : ℕ → ℕ) (w : ℕ) → word w ≡ 0 → leads_to page_of word h (word w) ≡ Ends 0
    unfolding leads_to
    cleared zero word w z = ap Ends z
    cleared (suc h) word w z = ap (leads_to page_of word (suc h)) z ∙ refl

    hand-there : (p w : ℕ) (s : Stored) → w / 512 ≢ p → (hand p s).word w ≡ s.word w
    hand-there p w s d = elim (T-or-not (eqb (w / 512) p)) [ inl e ↦ absurd (d (eqb→eq (w / 512) p e)) | inr e ↦ rw (T_false (eqb (w / 512) p) e) ]

    hand-here : (p w : ℕ) (s : Stored) → w / 512 ≡ p → (hand p s).word w ≡ 0
    hand-here p w s g = rw (g, T_true (eqb p p) (eqb_refl p))

    module _ (h e i : ℕ) (s : Stored) (refines : Refines h) (o : T (opens q (suc h) e)) where
      abbrev n : ℕ
      n = s.handed

      abbrev begun : Stored
      begun = put i (table_word_lem (page n)) (hand (free n) s)

      abbrev blank : ℕ → Entry
      blank j = Ends 0

      pub fresh-ready : (x : ℕ) → Ready (suc h) i s (Ends x) → n + wants q (suc h) e (Ends x) ≤ N → Table h e (512 * free n) 512 (λ x. x ≡ free n) begun blank
      fresh-ready x rd room =
          let w = wants-fresh h e x o in
          record {
            entries = λ j lt. let p = in-page (free n) j lt in
                cleared h begun.word (512 * free n + j)
                (put-there i (table_word_lem (page n)) (512 * free n + j) (hand (free n) s) (λ g. rd.fresh-here n (omega arith) (omega arith) (sym p ∙ ap (λ (y : ℕ). y / 512) g))
                ∙ hand-here (free n) (512 * free n + j) s p);
            apart = λ j lt. apart-ends page_of h 0;
            own = λ j lt. in-page (free n) j lt;
            off = λ j lt x g. ends-none page_of h 0 x;
            two = λ k j lk lj d x g. absurd (ends-none page_of h 0 x g);
            fresh-here = λ k l m g. let z = once k n m (omega arith) g in let y : ⊥ = omega arith in y;
            fresh-tables = λ k l m j lt. ends-none page_of h 0 (free k);
            room = omega arith;
          }

      abbrev planted : ℕ → Entry
      planted = made h e (512 * free n) 512 (λ x. x ≡ free n) begun blank

      fresh-refined : (x : ℕ) → Ready (suc h) i s (Ends x) → n + wants q (suc h) e (Ends x) ≤ N → Refined (suc h) e i s (after h e (512 * free n) 512 (λ x. x ≡ free n) begun blank 512) (Ends x)
      unfolding Has
      fresh-refined x rd room =
          let s' = after h e (512 * free n) 512 (λ x. x ≡ free n) begun blank 512 in
          let u = loop h e (512 * free n) 512 (λ x. x ≡ free n) begun blank 512 (lit≤ tt) refines (fresh-ready x rd room) in
          let c = u.count in
          let w = wants-fresh h e x o in
          let here : s'.word i ≡ table_word_lem (page n) =
          u.frame i (λ g. rd.fresh-here n (omega arith) (omega arith) (sym g)) (λ j lt y.
          let part = sum-part 512 (λ k. wants q h (e + k * span h) (blank k)) j lt in
          elim (has-mapped q page page_of h (e + j * span h) _ (blank j) (i / 512) y) [
            | inl g ↦ ends-none page_of h 0 (i / 512) g
            | inr z ↦ rd.fresh-here z.0 (let l = z.1 in omega arith) (let m = z.2 in omega arith) (sym z.3)
          ])
          ∙ put-here i (table_word_lem (page n)) (hand (free n) s) in
          let to = mapped-fresh h e n x o in
          record {
            became = ap (leads_to page_of s'.word (suc h)) here ∙ leads-table s'.word h (table_word_lem (page n)) (named n (omega arith))
                ∙ ap (Leads (table_word_lem (page n))) (fun_ext (λ j. u.done (j % 512) (mod-lt j (lit< tt))))
                ∙ sym to;
            count = omega arith;
            frame = λ y a b. let off : y / 512 ≢ free n = λ g. b (subst (λ (X : Entry). Has page_of (suc h) X (y / 512)) (sym to) (inl g)) in
                u.frame y off (λ j lt v. b (subst (λ (X : Entry). Has page_of (suc h) X (y / 512)) (sym to)
                (inr (j, lt, subst (λ (k : ℕ). Has page_of h (planted k) (y / 512)) (sym (mod-eq_of_lt lt)) v))))
                ∙ put-there i (table_word_lem (page n)) y (hand (free n) s) a ∙ hand-there (free n) y s off;
          }

    -- ---- every entry

    pub refines : (h : ℕ) → Refines h
    refines zero e i s E is rd room = subst (Refined 0 e i s (store q page page_of 0 e i s)) is (page-refined e i s)
    refines (suc h) e i s E is rd room = elim (T-or-not (opens q (suc h) e)) [
      | inl o ↦ elim (T-or-not (is_table_lem (s.word i))) [
        | inl t ↦ by-tree (leads-table s.word h (s.word i) t) (λ r m.
            subst (λ (x : Stored). Refined (suc h) e i s x (Leads (s.word i) (old h e i s (refines h) o))) (sym (store-table h e i s o t)) (table-refined h e i s (refines h) o t r m))
        | inr t ↦ by-tree (leads-ends s.word h (s.word i) t) (λ r m.
            subst (λ (x : Stored). Refined (suc h) e i s x (Ends (s.word i))) (sym (store-fresh h e i s o t)) (fresh-refined h e i s (refines h) o (s.word i) r m))
      ]
      | inr o ↦ elim (T-or-not (meets q (suc h) e)) [
        | inl m ↦ subst (Refined (suc h) e i s (store q page page_of (suc h) e i s)) is
            (subst (λ (x : Stored). Refined (suc h) e i s x (tree (suc h) i s)) (sym (store-leaf h e i s o m)) (leaf-refined h e i s o m))
        | inr m ↦ subst (Refined (suc h) e i s (store q page page_of (suc h) e i s)) is
            (subst (λ (x : Stored). Refined (suc h) e i s x (tree (suc h) i s)) (sym (store-none h e i s o m)) (none-refined h e i s o m))
      ]
    ]
      where
        by-tree : {X : Entry} → tree (suc h) i s ≡ X
            → (Ready (suc h) i s X → s.handed + wants q (suc h) e X ≤ N → Refined (suc h) e i s (store q page page_of (suc h) e i s) X) → Refined (suc h) e i s (store q page page_of (suc h) e i s) E
        by-tree {X} to f =
            let x : E ≡ X = sym is ∙ to in
            subst (Refined (suc h) e i s (store q page page_of (suc h) e i s)) (sym x) (f (subst (Ready (suc h) i s) x rd) (subst (λ (Y : Entry). s.handed + wants q (suc h) e Y ≤ N) x room))
