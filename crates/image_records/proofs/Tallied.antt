-- The records that were read, as the check of a state has them: each passes its test, and those in use are counted. Assumes nothing.
use mathlib.Core.Path.{◌≡◌, refl, sym, ◌∙◌, ap}
use mathlib.Core.Bool.{Bool, true, false}
use mathlib.Core.List.{List}
use mathlib.Core.Logic.{◌≢◌, ⊎_elim}
use Prim.Native.Nat.{ℕ, zero, suc, ◌+◌, ◌≤◌, ◌<◌}
use native.Mathlib.Nat.{not-suc-le-zero}
use native.Mathlib.Omega.{arith}
use lib.ListN.{set, get_or}
use lib.Seq.{get_or-set_same, get_or-set_other}
use Rattle.linked_lists.specs.Links.{pick, count}
use Rattle.linked_lists.proofs.Laws.{same?}
use Rattle.check_records.specs.Records.{proper, record_at, used, records}
use Rattle.std.specs.Prelude.{Option, Some, None}
use Rattle.check_records.proofs.Records.{all-holds, count-at-most, records-counted, fresh_ok, in_use}
use Rattle.image_parts.specs.Layout.{Layout}
use Rattle.image_parts.specs.declared.records.MemoryEntry.{MemoryEntry}
use Rattle.image_records.specs.Records.{RecordsIn}

abbrev tag : Option ℕ → ℕ
tag (Some c) = 1
tag None = 0

-- a count is some
pub none-some : (c : ℕ) → None ≡ Some c → ⊥
none-some c e = let z = ap tag e in omega arith

-- ---- how many are on: none of them; as many; and one more

count-zero : (p : ℕ → Bool) (m : ℕ) → ((j : ℕ) → j < m → p j ≡ false) → count p m ≡ 0
unfolding count
count-zero p zero h = refl
count-zero p (suc m) h = rw (h m (omega arith)) (count-zero p m (λ j b. h j (omega arith)))

count_same : (p q : ℕ → Bool) (m : ℕ) → ((j : ℕ) → j < m → q j ≡ p j) → count q m ≡ count p m
unfolding count
count_same p q zero h = refl
count_same p q (suc m) h = rw (h m (omega arith), count_same p q m (λ j b. h j (omega arith)))

one_more : (t : Bool) (c : ℕ) → pick t (suc (suc c)) (suc c) ≡ suc (pick t (suc c) c)
one_more true c = refl
one_more false c = refl

count_set : (p q : ℕ → Bool) (m i : ℕ) → i < m → ((j : ℕ) → j ≢ i → q j ≡ p j) → p i ≡ false → q i ≡ true → count q m ≡ suc (count p m)
unfolding count
count_set p q zero i b h off on = absurd (not-suc-le-zero b)
count_set p q (suc m) i b h off on =
    ⊎_elim
    (λ (e : m ≡ i). rw (ap q e ∙ on, ap p e ∙ off, count_same p q m (λ j k. h j (λ x. omega arith))))
    (λ (d : m ≢ i). rw (h m d, count_set p q m i (omega arith) h off on) (one_more (p m) (count p m)))
    (same? m i)

-- ---- of m places each passes the test of a record, and c are in use

pub record Tallied (m c : ℕ) (start end : List ℕ) (enabled : List Bool) (previous next lprev lnext : List ℕ) : Type 0 where
  pub right : (j : ℕ) → j < m → record_at start end enabled previous next lprev lnext j ≡ true
  pub counts : c ≡ count (used enabled) m

module _ (f : Layout) (l : List ℕ) (m : ℕ) (start end : List ℕ) (enabled : List Bool) (previous next lprev lnext : List ℕ) where
  pub tallied-start : RecordsIn m 0 f l start end enabled previous next lprev lnext → Tallied m 0 start end enabled previous next lprev lnext
  tallied-start g = record {
    right = λ j b.
        let any : 0 ≤ j = omega arith in
        rw (g.flags.rest j any b)
        (fresh_ok _ _ _ _ _ _ (g.starts.rest j any b) (g.ends.rest j any b) (g.previouses.rest j any b) (g.nexts.rest j any b) (g.lprevs.rest j any b) (g.lnexts.rest j any b));
    counts = sym (count-zero (used enabled) m (λ j b. g.flags.rest j (omega arith) b));
  }

  pub tallied-put : (c : ℕ) → Tallied m c start end enabled previous next lprev lnext → (i : ℕ) → i < m
      → RecordsIn m i f l start end enabled previous next lprev lnext → (e : MemoryEntry) → proper e.start.0 e.end.0 ≡ true
      → Tallied m (c + 1) (set start i e.start.0) (set end i e.end.0) (set enabled i true) (set previous i e.previous.0) (set next i e.next.0)
      (set lprev i e.list_prev.0) (set lnext i e.list_next.0)
  tallied-put c t i b g e h =
      let len₁ = g.starts.sized in
      let len₂ = g.ends.sized in
      let len₃ = g.flags.sized in
      let on : get_or (set enabled i true) i false ≡ true = get_or-set_same enabled i true false (omega arith) in
      let s : get_or (set start i e.start.0) i 0 ≡ e.start.0 = get_or-set_same start i e.start.0 0 (omega arith) in
      let z : get_or (set end i e.end.0) i 0 ≡ e.end.0 = get_or-set_same end i e.end.0 0 (omega arith) in
      let k : count (used (set enabled i true)) m ≡ suc (count (used enabled) m) =
      count_set (used enabled) (used (set enabled i true)) m i b (λ j d. get_or-set_other enabled i j true false d) (g.flags.rest i (omega arith) b) on in
      let n = t.counts in
      record {
        right = λ j bj. ⊎_elim
            (λ (x : j ≡ i). rw (x, on, s, z) (in_use _ _ _ _ _ _ true refl ∙ h))
            (λ (d : j ≢ i). rw (get_or-set_other enabled i j true false d, get_or-set_other start i j e.start.0 0 d, get_or-set_other end i j e.end.0 0 d)
            (rw (get_or-set_other previous i j e.previous.0 0 d, get_or-set_other next i j e.next.0 0 d)
            (rw (get_or-set_other lprev i j e.list_prev.0 0 d, get_or-set_other lnext i j e.list_next.0 0 d) (t.right j bj))))
            (same? j i);
        counts = omega arith;
      }

module _ (m c : ℕ) (start end : List ℕ) (enabled : List Bool) (previous next lprev lnext : List ℕ) (t : Tallied m c start end enabled previous next lprev lnext) where
  pub tallied-most : c ≤ m
  tallied-most = omega (arith, t.counts, count-at-most (used enabled) m)

  pub tallied-end : records m start end enabled previous next lprev lnext ≡ Some c
  tallied-end = records-counted m start end enabled previous next lprev lnext m refl (all-holds (record_at start end enabled previous next lprev lnext) m t.right) ∙ ap Some (sym t.counts)
