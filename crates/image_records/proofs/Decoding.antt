-- The loop over the records: what holds when i of them are read. Assumes nothing.
use mathlib.Core.Path.{◌≡◌, refl, sym, ◌∙◌, ap, subst}
use mathlib.Core.Bool.{Bool, true, false}
use mathlib.Core.List.{List}
use mathlib.Core.Logic.{⊎_elim}
use Prim.Native.Nat.{ℕ, suc, ◌+◌, ◌-◌, ◌*◌, ◌≤◌, ◌<◌}
use native.Mathlib.Numerals.{add-one}
use native.Mathlib.Omega.{arith}
use lib.Dec.{eqb}
use lib.ListN.{length, set, get_or, replicate, length-set}
use lib.Seq.{get_or-set_same, get_or-set_other}
use borrow.Author.Tests.{eq-eqb, ne_eqb, eqb-true}
use Rattle.linked_lists.specs.Links.{none, tab}
use Rattle.linked_lists.proofs.Laws.{same?, length-tab, replicate-tab}
use Rattle.pool_state.proofs.States.{at-tab}
use Rattle.image_parts.specs.Layout.{Layout, word, no_link, records_at_lem, end_at, enabled_at, links_at, record_size_lem, record_at}
use Rattle.image_parts.specs.Read.{number_in, link_of}
use Rattle.image_parts.proofs.Loops.{both}
use Rattle.image_parts.specs.declared.records.MemoryEntry.{MemoryEntry}
use Rattle.check_records.specs.Records.{proper}
use Rattle.image_records.specs.Records.{link_number_in_lem, link_in, entry_in_lem, fresh_at, flag_at, used_at, plain_at, plain, Filled, number_of, flag_of, link_field_of, RecordsIn}

-- ---- one array

module _ {A : Type 0} (e d : A) (g : ℕ → A) (m : ℕ) where
  part-start : (xs : List A) → xs ≡ replicate m d → Filled e d g m 0 xs
  part-start xs h =
      let t : xs ≡ tab m 0 (λ j. d) = h ∙ replicate-tab m 0 d in
      record {
        sized = ap length t ∙ length-tab m 0 _;
        done = λ j b. absurd (omega arith);
        rest = λ j a b. ap (λ (l : List A). get_or l j e) t ∙ at-tab e m (λ k. d) j b;
      }

  module _ (i : ℕ) (xs : List A) (b : i < m) (p : Filled e d g m i xs) where
    -- a value that is d stands already
    part-pass : g i ≡ d → Filled e d g m (i + 1) xs
    part-pass h =
        record {
          sized = p.sized;
          done = λ j k. ⊎_elim (λ (q : j ≡ i). rw q (p.rest i (omega arith) b ∙ sym h)) (λ q. p.done j (omega arith)) (same? j i);
          rest = λ j a k. p.rest j (omega arith) k;
        }

    part-put : (v : A) → v ≡ g i → Filled e d g m (i + 1) (set xs i v)
    part-put v h =
        let len = p.sized in
        record {
          sized = length-set xs i v ∙ len;
          done = λ j k. ⊎_elim (λ (q : j ≡ i). rw q (get_or-set_same xs i v e (omega arith) ∙ h)) (λ q. get_or-set_other xs i j v e q ∙ p.done j (omega arith)) (same? j i);
          rest = λ j a k. get_or-set_other xs i j v e (λ q. omega arith) ∙ p.rest j (omega arith) k;
        }

-- ---- the seven arrays of m records

module _ (f : Layout) (l : List ℕ) where
  -- the fields of record i, counted from its first byte
  module _ (i : ℕ) where
    abbrev here : ℕ
    here = record_at f i

    pub number-here : (o : ℕ) → number_in l (here + o) word ≡ number_of f l o i
    number-here o = let e : here + o ≡ records_at_lem f + o + record_size_lem f * i = omega arith in ap (λ (m : ℕ). number_in l m word) e

    pub start-here : number_in l here word ≡ number_of f l 0 i
    start-here = let e : here ≡ records_at_lem f + 0 + record_size_lem f * i = omega arith in ap (λ (m : ℕ). number_in l m word) e

    pub flag-here : flag_at l here ≡ get_or l (records_at_lem f + enabled_at + record_size_lem f * i) 0
    flag-here = let e : here + enabled_at ≡ records_at_lem f + enabled_at + record_size_lem f * i = omega arith in ap (λ (m : ℕ). get_or l m 0) e

    pub link_here : (k : ℕ) → link_in f l (here + links_at) k ≡ link_field_of f l k i
    link_here k = let e : here + links_at + f.link * k ≡ records_at_lem f + (links_at + f.link * k) + record_size_lem f * i = omega arith in ap (λ (m : ℕ). link_of f (number_in l m f.link)) e

  module _ (m : ℕ) (start end : List ℕ) (enabled : List Bool) (previous next lprev lnext : List ℕ) where
    pub decode-start : start ≡ replicate m 0 → end ≡ replicate m 0 → enabled ≡ replicate m false → previous ≡ replicate m none
        → next ≡ replicate m none → lprev ≡ replicate m none → lnext ≡ replicate m none → RecordsIn m 0 f l start end enabled previous next lprev lnext
    decode-start e₁ e₂ e₃ e₄ e₅ e₆ e₇ = record {
      starts = part-start _ _ _ _ start e₁;
      ends = part-start _ _ _ _ end e₂;
      flags = part-start _ _ _ _ enabled e₃;
      previouses = part-start _ _ _ _ previous e₄;
      nexts = part-start _ _ _ _ next e₅;
      lprevs = part-start _ _ _ _ lprev e₆;
      lnexts = part-start _ _ _ _ lnext e₇;
    }

    pub decode-end : (i n : ℕ) → i ≡ n → RecordsIn m i f l start end enabled previous next lprev lnext → RecordsIn m n f l start end enabled previous next lprev lnext
    decode-end i n e g = subst (λ (k : ℕ). RecordsIn m k f l start end enabled previous next lprev lnext) e g

    module _ (i : ℕ) (b : i < m) (g : RecordsIn m i f l start end enabled previous next lprev lnext) where
      no-link : (k : ℕ) → link_number_in_lem f l (record_at f i + links_at) k ≡ no_link f → link_field_of f l k i ≡ none
      no-link k e = sym (link_here i k) ∙ rw (e, eq-eqb (no_link f) (no_link f) refl)

      pub decode-put : (e : MemoryEntry) → flag_at l (record_at f i) ≡ 1 → e ≡ entry_in_lem f l (record_at f i)
          → RecordsIn m (i + 1) f l (set start i e.start.0) (set end i e.end.0) (set enabled i true) (set previous i e.previous.0) (set next i e.next.0)
          (set lprev i e.list_prev.0) (set lnext i e.list_next.0)
      decode-put e on is =
          let marked : true ≡ flag_of f l i = sym (eq-eqb _ 1 (sym (flag-here i) ∙ on)) in
          record {
            starts = part-put _ _ _ _ i start b g.starts _ (ap (λ (x : MemoryEntry). x.start.0) is ∙ start-here i);
            ends = part-put _ _ _ _ i end b g.ends _ (ap (λ (x : MemoryEntry). x.end.0) is ∙ number-here i end_at);
            flags = part-put _ _ _ _ i enabled b g.flags _ marked;
            previouses = part-put _ _ _ _ i previous b g.previouses _ (ap (λ (x : MemoryEntry). x.previous.0) is ∙ link_here i 0);
            nexts = part-put _ _ _ _ i next b g.nexts _ (ap (λ (x : MemoryEntry). x.next.0) is ∙ link_here i 1);
            lprevs = part-put _ _ _ _ i lprev b g.lprevs _ (ap (λ (x : MemoryEntry). x.list_prev.0) is ∙ link_here i 2);
            lnexts = part-put _ _ _ _ i lnext b g.lnexts _ (ap (λ (x : MemoryEntry). x.list_next.0) is ∙ link_here i 3);
          }

      pub decode-pass : flag_at l (record_at f i) ≡ 0 → fresh_at f l (record_at f i) ≡ true → RecordsIn m (i + 1) f l start end enabled previous next lprev lnext
      decode-pass off fresh =
          let p = both (eqb (number_in l (record_at f i) word) 0) _ fresh in
          let q = both (eqb (number_in l (record_at f i + end_at) word) 0) _ p.1 in
          let r = both (eqb (link_number_in_lem f l (record_at f i + links_at) 0) (no_link f)) _ q.1 in
          let s = both (eqb (link_number_in_lem f l (record_at f i + links_at) 1) (no_link f)) _ r.1 in
          let t = both (eqb (link_number_in_lem f l (record_at f i + links_at) 2) (no_link f)) _ s.1 in
          let zero : get_or l (records_at_lem f + enabled_at + record_size_lem f * i) 0 ≡ 0 = sym (flag-here i) ∙ off in
          let unmarked : flag_of f l i ≡ false = ap (λ (x : ℕ). eqb x 1) zero in
          record {
            starts = part-pass _ _ _ _ i start b g.starts (sym (start-here i) ∙ eqb-true _ _ p.0);
            ends = part-pass _ _ _ _ i end b g.ends (sym (number-here i end_at) ∙ eqb-true _ _ q.0);
            flags = part-pass _ _ _ _ i enabled b g.flags unmarked;
            previouses = part-pass _ _ _ _ i previous b g.previouses (no-link 0 (eqb-true _ _ r.0));
            nexts = part-pass _ _ _ _ i next b g.nexts (no-link 1 (eqb-true _ _ s.0));
            lprevs = part-pass _ _ _ _ i lprev b g.lprevs (no-link 2 (eqb-true _ _ t.0));
            lnexts = part-pass _ _ _ _ i lnext b g.lnexts (no-link 3 (eqb-true _ _ t.1));
          }

  -- ---- whether each of them is in use or fresh

  module _ (a : ℕ) where
    pub plain-unused : (r : Bool) → flag_at l a ≡ 0 → r ≡ fresh_at f l a → r ≡ plain_at f l a
    plain-unused r off e = rw (eq-eqb (flag_at l a) 0 off) e

    pub plain-used : (r : Bool) → (flag_at l a ≡ 0 → ⊥) → r ≡ used_at l a → r ≡ plain_at f l a
    plain-used r some e = rw (ne_eqb (flag_at l a) 0 some) e

    pub plain-neither : (flag_at l a ≡ 0 → ⊥) → (flag_at l a ≡ 1 → ⊥) → false ≡ plain_at f l a
    plain-neither h k = rw (ne_eqb (flag_at l a) 0 h, ne_eqb (flag_at l a) 1 k)

  -- what the tests of a record that was decoded tell of its place
  pub used-told : (a b : ℕ) (e : MemoryEntry) (r : Bool) → flag_at l a ≡ 1 → r ≡ proper e.start.0 e.end.0 → e ≡ entry_in_lem f l a → a ≡ b → r ≡ used_at l b
  used-told a b e r on h is here = (h ∙ ap (λ (x : MemoryEntry). proper x.start.0 x.end.0) is ∙ sym (rw (eq-eqb (flag_at l a) 1 on))) ∙ ap (λ (k : ℕ). used_at l k) here

  module _ (n i : ℕ) (b : i < n) where
    pub plain-next : true ≡ plain_at f l (record_at f i) → plain f l (n - (i + 1)) (i + 1) ≡ plain f l (n - i) i
    unfolding plain
    plain-next h = let m : n - i ≡ suc (n - (i + 1)) = omega arith in rw (m, add-one, ← h)

    pub plain-stop : false ≡ plain_at f l (record_at f i) → plain f l (n - i) i ≡ false
    unfolding plain
    plain-stop h = let m : n - i ≡ suc (n - (i + 1)) = omega arith in rw (m, ← h)

  pub plain_end : (n i : ℕ) → n ≤ i → plain f l (n - i) i ≡ true
  unfolding plain
  plain_end n i h = let m : n - i ≡ 0 = omega arith in rw m
