-- The test of each record, and the count of those in use.
use Prim.Native.Nat.{ℕ, zero, suc, ◌<◌, ◌≤◌}
use mathlib.Core.Bool.{Bool, true, false, cond, ◌&&◌}
use mathlib.Core.Logic.{◌≢◌, ⊎_elim}
use mathlib.Core.List.{List}
use mathlib.Core.Path.{◌≡◌, refl, sym, ◌∙◌}
use native.Mathlib.Omega.{arith}
use native.Mathlib.Nat.{not-suc-le-zero}
use borrow.Author.Tests.{leb-true, ltb-true, le-leb, lt-ltb, eqb-true, eq-eqb, ne_eqb}
use lib.Bits.{bit_or}
use lib.Dec.{eqb, leb, ltb}
use lib.ListN.{get_or}
use Rattle.linked_lists.specs.Links.{pick, none, count}
use Rattle.linked_lists.proofs.Laws.{same?, true≢false}
use Rattle.rules.specs.Rules.{top}
use Rattle.check_records.specs.Records.{proper, unlinked, record_ok, all, record_at, used, records, Proper}
use Rattle.std.specs.Prelude.{Option, Some, None}
use Rattle.check_records.proofs.Tests.{and-true, true-and}
use Rattle.check_records.proofs.Bits.{zero-is-or}

module _ (p : ℕ → Bool) where
  pub all_none : all p 0 ≡ true
  unfolding all
  all_none = refl

  pub all_more : (m : ℕ) → all p m ≡ true → p m ≡ true → all p (suc m) ≡ true
  unfolding all
  all_more m h e = true-and (p m) (all p m) e h

  pub all-at : (m : ℕ) → all p m ≡ true → (i : ℕ) → i < m → p i ≡ true
  unfolding all
  all-at zero h i b = absurd (not-suc-le-zero b)
  all-at (suc m) h i b =
      let w = and-true (p m) (all p m) h in
      ⊎_elim (λ (e : i ≡ m). rw e w.0) (λ d. all-at m w.1 i (omega arith)) (same? i m)

  pub all-fails : (m i : ℕ) → i < m → p i ≡ false → all p m ≡ false
  all-fails m i b e = go (all p m) refl
    where
      go : (t : Bool) → all p m ≡ t → t ≡ false
      go true h = true≢false (sym (all-at m h i b) ∙ e)
      go false h = refl

  pub all-holds : (m : ℕ) → ((i : ℕ) → i < m → p i ≡ true) → all p m ≡ true
  unfolding all
  all-holds zero h = refl
  all-holds (suc m) h = true-and (p m) (all p m) (h m (omega arith)) (all-holds m (λ i b. h i (omega arith)))

module _ (on : ℕ → Bool) where
  pub count_none : count on 0 ≡ 0
  unfolding count
  count_none = refl

  pub count-used : (m : ℕ) → on m ≡ true → count on (suc m) ≡ suc (count on m)
  unfolding count
  count-used m u = rw u

  pub count-unused : (m : ℕ) → on m ≡ false → count on (suc m) ≡ count on m
  unfolding count
  count-unused m u = rw u

  more-at-most : (t : Bool) (c m : ℕ) → c ≤ m → pick t (suc c) c ≤ suc m
  more-at-most true c m h = omega arith
  more-at-most false c m h = omega arith

  pub count-at-most : (m : ℕ) → count on m ≤ m
  unfolding count
  count-at-most zero = omega arith
  count-at-most (suc m) = more-at-most (on m) (count on m) m (count-at-most m)

-- ---- one record

module _ (start end previous next lprev lnext : ℕ) where
  pub in_use : (on : Bool) → on ≡ true → record_ok on start end previous next lprev lnext ≡ proper start end
  unfolding record_ok
  in_use on u = rw u

  -- by the answer of a test
  pub used-tested : (on answer t : Bool) → on ≡ true → answer ≡ proper start end → answer ≡ t → record_ok on start end previous next lprev lnext ≡ t
  used-tested on answer t u s e = in_use on u ∙ sym s ∙ e

  pub unused-tested : (on answer t : Bool) → on ≡ false → answer ≡ record_ok false start end previous next lprev lnext → answer ≡ t
      → record_ok on start end previous next lprev lnext ≡ t
  unused-tested on answer t u s e = rw u (sym s ∙ e)

  -- a number of its own
  pub stale : bit_or start end ≢ 0 → record_ok false start end previous next lprev lnext ≡ false
  unfolding record_ok
  stale d =
      ⊎_elim (λ (e : start ≡ 0). rw (eq-eqb start 0 e, ne_eqb end 0 (λ f. d (zero-is-or start end e f))))
      (λ (e : start ≢ 0). rw (ne_eqb start 0 e))
      (same? start 0)

  pub by-links : start ≡ 0 → end ≡ 0 → record_ok false start end previous next lprev lnext ≡ unlinked previous next lprev lnext
  unfolding record_ok
  by-links e d = rw (eq-eqb start 0 e, eq-eqb end 0 d)

  pub used-ok : start ≤ end → end < top → record_ok true start end previous next lprev lnext ≡ true
  unfolding record_ok proper
  used-ok a b = rw (le-leb start end a, lt-ltb end top b)

  pub fresh_ok : start ≡ 0 → end ≡ 0 → previous ≡ none → next ≡ none → lprev ≡ none → lnext ≡ none → record_ok false start end previous next lprev lnext ≡ true
  unfolding record_ok unlinked
  fresh_ok a b p n q m = rw (a, b, p, n, q, m)

  pub ok-fresh : record_ok false start end previous next lprev lnext ≡ true
      → (start ≡ 0) × (end ≡ 0) × (previous ≡ none) × (next ≡ none) × (lprev ≡ none) × (lnext ≡ none)
  unfolding record_ok unlinked
  ok-fresh h =
      let a = and-true (eqb start 0) (eqb end 0 && (eqb previous none && (eqb next none && (eqb lprev none && eqb lnext none)))) h in
      let b = and-true (eqb end 0) (eqb previous none && (eqb next none && (eqb lprev none && eqb lnext none))) a.1 in
      let p = and-true (eqb previous none) (eqb next none && (eqb lprev none && eqb lnext none)) b.1 in
      let x = and-true (eqb next none) (eqb lprev none && eqb lnext none) p.1 in
      let q = and-true (eqb lprev none) (eqb lnext none) x.1 in
      (eqb-true start 0 a.0, eqb-true end 0 b.0, eqb-true previous none p.0, eqb-true next none x.0, eqb-true lprev none q.0, eqb-true lnext none q.1)

-- ---- all records

module _ (n : ℕ) (start end : List ℕ) (enabled : List Bool) (previous next lprev lnext : List ℕ) where
  abbrev ok : ℕ → Bool
  ok = record_at start end enabled previous next lprev lnext

  abbrev result : Option ℕ
  result = records n start end enabled previous next lprev lnext

  pub records-broken : (i : ℕ) → i < n → ok i ≡ false → result ≡ None
  unfolding records
  records-broken i b e = rw (all-fails ok n i b e)

  pub records-counted : (m : ℕ) → m ≡ n → all ok m ≡ true → result ≡ Some (count (used enabled) m)
  unfolding records
  records-counted m e h = rw (rw e at h, e)

  pub records-all : (c : ℕ) → result ≡ Some c → all ok n ≡ true
  unfolding records
  records-all c h = go (all ok n) h
    where
      go : (t : Bool) → cond t (Some (count (used enabled) n)) None ≡ Some c → t ≡ true
      go true h = refl
      go false h = let z : ◌≡◌ {A = ℕ} 0 1 = cc in absurd (let k : ⊥ = omega arith in k)

  pub all-proper : all ok n ≡ true → Proper n start end enabled
  unfolding record_ok proper
  all-proper h i b e =
      let w = and-true (leb (get_or start i 0) (get_or end i 0)) (ltb (get_or end i 0) top) (rw e at (all-at ok n h i b)) in
      (leb-true _ _ w.0, ltb-true _ _ w.1)

  pub records-proper : (c : ℕ) → result ≡ Some c → Proper n start end enabled
  records-proper c h = all-proper (records-all c h)
