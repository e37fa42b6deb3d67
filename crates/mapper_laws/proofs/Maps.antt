-- The promise: where nothing is asked amiss, mapped addresses translate as asked, all others as before, and nothing else changes. Assumes nothing.
use mathlib.Core.Path.{◌≡◌, refl, sym, ◌∙◌, ap, subst, fun_ext}
use mathlib.Core.Logic.{inl, inr, ◌≢◌}
use mathlib.Core.Bool.{Bool, false, not, cond, ◌&&◌}
use mathlib.Core.List.{List, [], ◌∷◌, ◌++◌}
use Prim.Native.Nat.{ℕ, zero, suc, ◌+◌, ◌-◌, ◌*◌, ◌/◌, ◌%◌, ◌^◌, ◌≤◌, ◌<◌}
use native.Mathlib.Omega.{arith}
use native.Mathlib.Nat.{mod-eq_of_lt, div-add-mod', add-mul-div_left, zero-add, le_refl}
use lib.Arith.{digits_div}
use lib.Dec.{T, leb, ltb, eqb, leb→le, ltb→lt, nltb→le, le→leb, lt→ltb, eqb→eq, lit<}
use Rattle.rules_laws.proofs.Lists.{and_i, and_l, and_r, T-or-not, T-no, T_true, T_false, neq}
use Rattle.mapper_rules.specs.Walk.{span, is_table_lem, walk_from, walk, input_top, top_height, top_table}
use Rattle.mapper_rules.specs.Numbers.{top_entries, top_bytes_lem}
use Rattle.mapper_laws.specs.declared.Mapping.{Mapping}
use Rattle.mapper_laws.specs.Tree.{Entry, memory, page_of, joined, sum, some, tables, In, Once}
use Rattle.mapper_laws.specs.Mapping.{in_range, asked, table_word_lem, wants, blocked, mapped}
use Rattle.mapper_laws.specs.Stores.{Stored, steps, store}
use Rattle.mapper_laws.specs.Promise.{entry_at_lem, top_pages, tables_below, Outside, before, wanted, in_the_way, after, Fit, Maps}
use Rattle.mapper_laws.proofs.Tests.{not-or-l, not-or-r}
use Rattle.mapper_laws.proofs.Apart.{Has, Apart}
use Rattle.mapper_laws.proofs.Once.{in-l, in-r, Parts, parts, in-joined, once-of, two-of, of-joined, joined_same, in-or-not, has_in, in-has, once-apart}
use Rattle.mapper_laws.proofs.Again.{once-append, once-joined, apart-once, Before, apart-made, none_made, two_made, keeps}
use Rattle.mapper_laws.proofs.Determined.{raw_of, raw-leads, determined}
use Rattle.mapper_laws.proofs.Handed.{slot}
use Rattle.mapper_laws.proofs.Refines.{tree, Table, Upto, loop, refines}
use Rattle.mapper_laws.proofs.Translated.{Pages, named, leaf-ends, translated}
use Rattle.mapper_laws.proofs.Registers.{Top, top-of}

-- a page that is handed out is the page that its word leads to
pub page-of : (a : ℕ) → a % 4096 ≡ 0 → a < 2 ^ 48 → page_of (table_word_lem a) ≡ a / 4096
page-of a e h =
    let d = div-add-mod' a 4096 in
    let n = a / 4096 in
    let w : table_word_lem a ≡ n * 4096 + 0x403 = omega arith in
    let s : n < 2 ^ 36 = omega arith in
    ap (λ (y : ℕ). y / 4096 % 2 ^ 36) w ∙ ap (λ (y : ℕ). y % 2 ^ 36) (digits_div n (lit< tt)) ∙ mod-eq_of_lt s

-- none of n tests
no_one : (n : ℕ) (f : ℕ → Bool) → T (not (some n f)) → (j : ℕ) → j < n → T (not (f j))
unfolding some
no_one zero f t j h = absurd (let z : ⊥ = omega arith in z)
no_one (suc n) f t j h = elim (T-or-not (eqb j n)) [
  | inl e ↦ subst (λ (i : ℕ). T (not (f i))) (sym (eqb→eq j n e)) (not-or-r (some n f) (f n) t)
  | inr e ↦ let d = neq j n e in no_one n f (not-or-l (some n f) (f n) t) j (omega arith)
]

module _ (q : Mapping) (word : ℕ → ℕ) (vttbr vtcr : ℕ) (page : ℕ → ℕ) (fit : Fit q word vttbr vtcr page) where
  abbrev H : ℕ
  H = top_height vtcr

  abbrev m : ℕ
  m = top_entries vtcr

  abbrev first : ℕ
  first = top_table vttbr / 8

  abbrev N : ℕ
  N = wanted q word vttbr vtcr

  abbrev f : ℕ → Entry
  f j = entry_at_lem word vttbr vtcr j

  abbrev start : Stored
  start = record { word = word; handed = 0 }

  -- ---- the three lists in which no page stands twice

  abbrev tops : List ℕ
  tops = top_pages vttbr vtcr

  abbrev below : List ℕ
  below = joined m (λ j. tables page_of H (f j))

  abbrev fresh : List ℕ
  fresh = joined N (λ k. (page k / 4096) ∷ [])

  outer : Parts (tops ++ below) fresh
  unfolding tables_below
  outer = parts (tops ++ below) fresh fit.once

  inner : Parts tops below
  inner = parts tops below outer.first

  slot_is : (k : ℕ) → k < N → slot q page page_of k ≡ page k / 4096
  slot_is k l = page-of (page k) (fit.whole k l) (fit.below k l)

  in-fresh : (k : ℕ) → k < N → In (slot q page page_of k) fresh
  in-fresh k l = in-joined N (λ k. (page k / 4096) ∷ []) k (slot q page page_of k) l (inl (slot_is k l))

  in-below : (j x : ℕ) → j < m → Has page_of H (f j) x → In x below
  in-below j x l g = in-joined m (λ j. tables page_of H (f j)) j x l (has_in page_of H (f j) x g)

  pub pages : Pages q page N
  pages = record {
    whole = fit.whole;
    once = λ k l hk hl e. elim (T-or-not (eqb k l)) [
      | inl t ↦ eqb→eq k l t
      | inr t ↦ absurd (two-of N (λ k. (page k / 4096) ∷ []) k l (slot q page page_of k) hk hl (neq k l t) outer.second (inl (slot_is k hk)) (inl (e ∙ slot_is l hl)))
    ];
  }

  -- ---- the top table

  top : Top vttbr vtcr
  top = top-of vttbr vtcr fit.registers

  abbrev Own : ℕ → Type 0
  Own x = In x tops

  pub own-page : (j : ℕ) → j < m → Own ((first + j) / 512)
  own-page j l =
      let b = top.begins in
      let p = top.pages in
      let h = top.holds in
      let few : j / 512 < top_bytes_lem vtcr / 4096 = omega arith in
      let is : (first + j) / 512 ≡ top_table vttbr / 4096 + j / 512 = omega arith in
      in-joined (top_bytes_lem vtcr / 4096) (λ k. (top_table vttbr / 4096 + k) ∷ []) (j / 512) ((first + j) / 512) few (inl is)

  -- sums over the entries, which begin at 0 + j * span H
  counted : (n : ℕ) → sum n (λ j. wants q H (0 + j * span H) (f j)) ≡ before q word vttbr vtcr n
  counted n = ap (sum n) (fun_ext (λ j. ap (λ (e : ℕ). wants q H e (f j)) (zero-add (j * span H))))

  wanted-is : sum m (λ j. wants q H (0 + j * span H) (f j)) ≡ N
  unfolding wanted
  wanted-is = counted m

  pub after_is : steps m (λ j. store q page page_of H (0 + j * span H) (first + j)) start ≡ after q word vttbr vtcr page
  unfolding after
  after_is = ap (λ (g : ℕ → Stored → Stored). steps m g start) (fun_ext (λ j. ap (λ (e : ℕ). store q page page_of H e (first + j)) (zero-add (j * span H))))

  abbrev pub words : (k : ℕ) → k < N → T (is_table_lem (table_word_lem (page k)))
  words = named q page N pages fit.sane H first m Own start f

  pub the-table : Table q page page_of N words pages.once (leaf-ends q) H 0 first m Own start f
  the-table = record {
    entries = λ j l. refl;
    own = own-page;
    apart = λ j l. once-apart page_of H (f j) (once-of m (λ j. tables page_of H (f j)) j l inner.second);
    off = λ j l x o g. inner.none x o (in-below j x l g);
    two = λ i j li lj d x g g'. two-of m (λ j. tables page_of H (f j)) i j x li lj d inner.second (has_in page_of H (f i) x g) (has_in page_of H (f j) x g');
    fresh-here = λ k low l o. outer.none (slot q page page_of k) (in-l (slot q page page_of k) tops below o) (in-fresh k l);
    fresh-tables = λ k low l j lj g. outer.none (slot q page page_of k) (in-r (slot q page page_of k) tops below (in-below j (slot q page page_of k) lj g)) (in-fresh k l);
    room = let e = wanted-is in omega arith;
  }

  -- ---- after all stores

  abbrev stored : Stored
  stored = steps m (λ j. store q page page_of H (0 + j * span H) (first + j)) start

  all : Upto q page page_of N words pages.once (leaf-ends q) H 0 first m Own start f m stored
  all = loop q page page_of N words pages.once (leaf-ends q) H 0 first m Own start f m (le_refl m) (refines q page page_of N words pages.once (leaf-ends q) H) the-table

  unblocked : (j : ℕ) → j < m → T (not (blocked q H (j * span H) (f j)))
  unfolding in_the_way
  unblocked = no_one m (λ j. blocked q H (j * span H) (f j)) fit.unblocked

  not-asked : (x : ℕ) → input_top vtcr ≤ x → in_range q x ≡ false
  not-asked x low = elim (T-or-not (in_range q x)) [
    | inl t ↦ absurd (let l = ltb→lt x q.past (and_r (leb q.from x) (ltb x q.past) t) in let b = fit.inside in let z : ⊥ = omega arith in z)
    | inr t ↦ T_false (in_range q x) t
  ]

  walked : (x : ℕ) → walk (memory stored.word) vttbr vtcr x ≡ cond (in_range q x) (asked q x) (walk (memory word) vttbr vtcr x)
  unfolding walk
  walked x = elim (T-or-not (ltb x (input_top vtcr))) [
    | inl l ↦
        let low : x < m * span H = rw top.inputs (ltb→lt x (input_top vtcr) l) in
        let at : (top_table vttbr + 8 * (x / span H)) / 8 ≡ first + x / span H = add-mul-div_left (top_table vttbr) (x / span H) (lit< tt) in
        rw (T_true (ltb x (input_top vtcr)) l)
        (ap (λ (w : ℕ). walk_from (memory stored.word) H (stored.word w) x) at
        ∙ translated q page N pages fit.sane H first m Own start f the-table unblocked x low
        ∙ ap (λ (w : ℕ). cond (in_range q x) (asked q x) (walk_from (memory word) H (word w) x)) (sym at))
    | inr l ↦ rw (T_false (ltb x (input_top vtcr)) l, not-asked x (nltb→le x (input_top vtcr) l))
  ]

  abbrev leads : ℕ → Entry
  leads j = entry_at_lem stored.word vttbr vtcr j

  kept : (w : ℕ) → Outside stored.word vttbr vtcr w → stored.word w ≡ word w
  unfolding tables_below
  kept w out = all.exact w out.no-entry (λ j l g. out.no_table (in-joined m (λ j. tables page_of H (leads j)) j (w / 512) l
      (has_in page_of H (leads j) (w / 512) (subst (λ (E : Entry). Has page_of H E (w / 512)) (sym (all.done j l)) g))))

  made : (j : ℕ) → j < m → leads j ≡ mapped q page H (j * span H) (before q word vttbr vtcr j) (f j)
  made j l =
      all.done j l
      ∙ ap (λ (e : ℕ). mapped q page H e (0 + sum j (λ i. wants q H (0 + i * span H) (f i))) (f j)) (zero-add (j * span H))
      ∙ ap (λ (n : ℕ). mapped q page H (j * span H) n (f j)) (zero-add (sum j (λ i. wants q H (0 + i * span H) (f i))) ∙ counted j)

  -- ---- no table twice

  before-all : Before q page page_of N pages.once H 0 0 m f
  before-all = record { apart = the-table.apart; two = the-table.two; fresh = the-table.fresh-tables; room = the-table.room }

  abbrev Made : ℕ → Entry
  Made j = mapped q page H (0 + j * span H) (0 + sum j (λ i. wants q H (0 + i * span H) (f i))) (f j)

  has-made : (j : ℕ) → j < m → (p : ℕ) → In p (tables page_of H (leads j)) → Has page_of H (Made j) p
  has-made j l p i = subst (λ (E : Entry). Has page_of H E p) (all.done j l) (in-has page_of H (leads j) p i)

  again : Once (tops ++ tables_below stored.word vttbr vtcr)
  unfolding tables_below
  again = once-append tops (joined m (λ j. tables page_of H (leads j))) inner.first
      (once-joined m (λ j. tables page_of H (leads j))
      (λ j l. apart-once page_of H (leads j) (subst (Apart page_of H) (sym (all.done j l))
      (apart-made q page page_of N pages.once H 0 0 m f before-all (keeps q page page_of N pages.once H) j l)))
      (λ i j li lj d p x y. two_made q page page_of N pages.once H 0 0 m f before-all i j li lj d p (has-made i li p x) (has-made j lj p y)))
      (λ p o i. let at = of-joined m (λ j. tables page_of H (leads j)) p i in
      none_made q page page_of N pages.once H 0 0 m f before-all p (λ k low high g. the-table.fresh-here k low high (subst Own g o))
      at.0 at.1 (the-table.off at.0 at.1 p o) (has-made at.0 at.1 p at.2))

  -- ---- no other words

  module _ (v : ℕ → ℕ) (same : (j : ℕ) → j < m → entry_at_lem v vttbr vtcr j ≡ leads j) (frame : (w : ℕ) → Outside v vttbr vtcr w → v w ≡ word w) where
    same-below : tables_below v vttbr vtcr ≡ tables_below stored.word vttbr vtcr
    unfolding tables_below
    same-below = joined_same m (λ j. tables page_of H (entry_at_lem v vttbr vtcr j)) (λ j. tables page_of H (leads j)) (λ j l. ap (tables page_of H) (same j l))

    entry-word : (j : ℕ) → j < m → v (first + j) ≡ stored.word (first + j)
    entry-word j l =
        sym (raw-leads page_of v H (v (first + j))) ∙ ap raw_of (same j l) ∙ raw-leads page_of stored.word H (stored.word (first + j))

    table-word : (w : ℕ) → In (w / 512) (tables_below v vttbr vtcr) → v w ≡ stored.word w
    unfolding tables_below
    table-word w i =
        let at = of-joined m (λ j. tables page_of H (entry_at_lem v vttbr vtcr j)) (w / 512) i in
        let j = at.0 in
        determined page_of v stored.word H (v (first + j)) (stored.word (first + j)) (same j at.1) w (in-has page_of H (entry_at_lem v vttbr vtcr j) (w / 512) at.2)

    no_other : (w : ℕ) → v w ≡ stored.word w
    no_other w = elim (T-or-not (leb first w && ltb w (first + m))) [
      | inl t ↦
          let l = leb→le first w (and_l (leb first w) (ltb w (first + m)) t) in
          let r = ltb→lt w (first + m) (and_r (leb first w) (ltb w (first + m)) t) in
          let at : first + (w - first) ≡ w = omega arith in
          subst (λ (y : ℕ). v y ≡ stored.word y) at (entry-word (w - first) (omega arith))
      | inr t ↦ elim (in-or-not (w / 512) (tables_below v vttbr vtcr)) [
        | inl i ↦ table-word w i
        | inr n ↦
            let none : (j : ℕ) → j < m → w ≢ first + j = λ j l e. T-no (leb first w && ltb w (first + m)) t
            (and_i (leb first w) (ltb w (first + m)) (le→leb first w (omega arith)) (lt→ltb w (first + m) (omega arith))) in
            frame w (record { no-entry = none; no_table = n })
            ∙ sym (kept w (record { no-entry = none; no_table = λ i. n (subst (In (w / 512)) (sym same-below) i) }))
      ]
    ]

  pub maps : Maps q word vttbr vtcr page
  maps = record {
    translated = λ x. subst (λ (t : Stored). walk (memory t.word) vttbr vtcr x ≡ cond (in_range q x) (asked q x) (walk (memory word) vttbr vtcr x)) after_is (walked x);
    tree = λ j l. subst (λ (t : Stored). entry_at_lem t.word vttbr vtcr j ≡ mapped q page H (j * span H) (before q word vttbr vtcr j) (f j)) after_is (made j l);
    frame = subst (λ (t : Stored). (w : ℕ) → Outside t.word vttbr vtcr w → t.word w ≡ word w) after_is kept;
    handed = subst (λ (t : Stored). t.handed ≡ N) after_is (all.count ∙ zero-add (sum m (λ j. wants q H (0 + j * span H) (f j))) ∙ wanted-is);
    once = subst (λ (t : Stored). Once (tops ++ tables_below t.word vttbr vtcr)) after_is again;
    determined = subst (λ (t : Stored). (v : ℕ → ℕ) → ((j : ℕ) → j < m → entry_at_lem v vttbr vtcr j ≡ entry_at_lem t.word vttbr vtcr j)
        → ((w : ℕ) → Outside v vttbr vtcr w → v w ≡ word w) → (w : ℕ) → v w ≡ t.word w) after_is no_other;
  }
