-- What the head, the records and the check tell of the whole image, over any layout. Assumes nothing.
use mathlib.Core.Path.{◌≡◌, refl, sym, ◌∙◌, ap}
use mathlib.Core.Bool.{Bool, true, false, ◌&&◌}
use mathlib.Core.List.{List}
use mathlib.Core.Logic.{⊎_elim}
use Prim.Native.Nat.{ℕ, zero, suc, ◌+◌, ◌*◌, ◌≤◌, ◌<◌}
use native.Mathlib.Nat.{mul-add, mul-one, mul-le-mul_left}
use native.Mathlib.Omega.{arith}
use lib.Dec.{eqb}
use lib.ListN.{length, get_or, replicate}
use borrow.Author.Tests.{eq-eqb, ne_eqb, eqb-true, le-leb, lt-ltb}
use Rattle.linked_lists.specs.Links.{none}
use Rattle.linked_lists.proofs.Laws.{same?, true≢false, length-tab}
use Rattle.rules.specs.Rules.{size_lists, empty, top}
use Rattle.pool_state.specs.declared.MemoryAllocator.{MemoryAllocator}
use Rattle.pool_state.specs.State.{arrays, state_of}
use Rattle.pool_state.proofs.States.{at-tab, fresh-state}
use Rattle.check_state.specs.IsSound.{is_sound_lem}
use Rattle.check_meaning.specs.Paragraph.{Sized, Fresh, Paragraph}
use Rattle.check_meaning.proofs.Exact.{paragraph, passes-sound}
use Rattle.bytes_be.specs.Numbers.{Bytes}
use Rattle.image_parts.specs.Layout.{Layout, Lawful, word, no_link, length_at, length_size, total_at, first_at, heads_at, records_at_lem, end_at, enabled_at, links_at, record_size_lem, record_at, image_size_lem, rest_size}
use Rattle.image_parts.specs.Read.{number_in, link_of, numbers_in, links_in, flags_in, bits}
use Rattle.image_parts.proofs.Lawful.{small-pool}
use Rattle.image_reading.proofs.Grown.{Grows, filled-by, grown-state, same-verdict}
use Rattle.image_parts.proofs.Loops.{both, bit_at}
use Rattle.image_parts.proofs.Parts.{record-room}
use Rattle.image_parts.proofs.Places.{part-below}
use Rattle.image_reading.specs.Reading.{state_in_lem, framed, holds_ranges, headed, grown_ranges}
use Rattle.check_records.specs.Records.{proper}
use Rattle.image_records.specs.Records.{link_number_in_lem, link_in, fresh_at, flag_at, used_at, plain_at, plain, RecordsIn}
use Rattle.image_records.proofs.Decoding.{number-here, start-here, flag-here, link_here, plain-unused, plain-used}

pub state-sized : (f : Layout) (l : List ℕ) → Sized f.records (state_in_lem f l)
unfolding state_in_lem numbers_in links_in flags_in
state-sized f l = record {
  heads = length-tab size_lists 0 _;
  start = length-tab f.records 0 _;
  end = length-tab f.records 0 _;
  enabled = length-tab f.records 0 _;
  previous = length-tab f.records 0 _;
  next = length-tab f.records 0 _;
  list_prev = length-tab f.records 0 _;
  list_next = length-tab f.records 0 _;
}

-- the arrays of the empty state
pub record Empty (n : ℕ) (s : MemoryAllocator) : Type 0 where
  pub heads : s.free_list ≡ replicate size_lists none
  pub start : s.start ≡ replicate n 0
  pub end : s.end ≡ replicate n 0
  pub enabled : s.enabled ≡ replicate n false
  pub previous : s.previous ≡ replicate n none
  pub next : s.next ≡ replicate n none
  pub lprev : s.list_prev ≡ replicate n none
  pub lnext : s.list_next ≡ replicate n none

pub emptied : (n : ℕ) (s : MemoryAllocator) → s ≡ state_of n empty → Empty n s
emptied n s e =
    let g = e ∙ sym (fresh-state n) in
    record {
      heads = ap (λ (x : MemoryAllocator). x.free_list) g;
      start = ap (λ (x : MemoryAllocator). x.start) g;
      end = ap (λ (x : MemoryAllocator). x.end) g;
      enabled = ap (λ (x : MemoryAllocator). x.enabled) g;
      previous = ap (λ (x : MemoryAllocator). x.previous) g;
      next = ap (λ (x : MemoryAllocator). x.next) g;
      lprev = ap (λ (x : MemoryAllocator). x.list_prev) g;
      lnext = ap (λ (x : MemoryAllocator). x.list_next) g;
    }

-- the fields of the state, read one by one, and filled up to m records
pub state-grows : (m : ℕ) (f : Layout) (l : List ℕ) (total first : ℕ) (heads start end : List ℕ) (enabled : List Bool) (previous next lprev lnext : List ℕ)
    → total ≡ number_in l total_at word → first ≡ link_of f (number_in l first_at f.link) → heads ≡ links_in f l (heads_at f) f.link size_lists
    → RecordsIn m f.records f l start end enabled previous next lprev lnext → Grows f.records m (state_in_lem f l) (arrays total first heads start end enabled previous next lprev lnext)
unfolding state_in_lem numbers_in links_in flags_in
state-grows m f l total first heads start end enabled previous next lprev lnext e₁ e₂ e₃ r =
    let n = f.records in
    record {
      total = e₁;
      first = e₂;
      heads = e₃;
      starts = filled-by _ _ m n _ _ start (λ j b. sym (at-tab 0 n _ j b)) r.starts;
      ends = filled-by _ _ m n _ _ end (λ j b. sym (at-tab 0 n _ j b)) r.ends;
      flags = filled-by _ _ m n _ _ enabled (λ j b. sym (at-tab false n _ j b)) r.flags;
      previouses = filled-by _ _ m n _ _ previous (λ j b. sym (at-tab 0 n _ j b)) r.previouses;
      nexts = filled-by _ _ m n _ _ next (λ j b. sym (at-tab 0 n _ j b)) r.nexts;
      lprevs = filled-by _ _ m n _ _ lprev (λ j b. sym (at-tab 0 n _ j b)) r.lprevs;
      lnexts = filled-by _ _ m n _ _ lnext (λ j b. sym (at-tab 0 n _ j b)) r.lnexts;
    }

proper-true : (s e : ℕ) → s ≤ e → e < top → proper s e ≡ true
unfolding proper
proper-true s e a b = rw (le-leb s e a, lt-ltb e top b)

regroup : (a b c d : Bool) → (a && (b && (c && d))) ≡ ((a && (b && c)) && d)
regroup true true c d = refl
regroup true false c d = refl
regroup false b c d = refl

module _ (f : Layout) (l : List ℕ) where
  abbrev n : ℕ
  n = f.records

  framed-headed : framed f l ≡ (headed f l && bits l (records_at_lem f + enabled_at) (record_size_lem f) n 0)
  unfolding framed headed
  framed-headed = regroup (eqb (length l) (image_size_lem f)) (eqb (number_in l 0 length_at) f.version) (eqb (number_in l length_at length_size) (rest_size f)) _

  pub headed-sized : headed f l ≡ true → length l ≡ image_size_lem f
  unfolding headed
  headed-sized h = eqb-true _ _ (both (eqb (length l) (image_size_lem f)) _ h).0

  pub framed-sized : framed f l ≡ true → length l ≡ image_size_lem f
  framed-sized e = headed-sized (both (headed f l) _ (sym framed-headed ∙ e)).0

  pub not-headed : headed f l ≡ false → false ≡ holds_ranges f l
  not-headed h = rw (framed-headed, h)

  -- ---- records that are in use or fresh

  flag_small : (a : ℕ) → plain_at f l a ≡ true → flag_at l a ≤ 1
  flag_small a h =
      ⊎_elim (λ (e : flag_at l a ≡ 0). omega arith)
      (λ e. let k : flag_at l a ≡ 1 = eqb-true _ _ (both (eqb (flag_at l a) 1) _ (rw (ne_eqb (flag_at l a) 0 e) at h)).0 in omega arith) (same? (flag_at l a) 0)

  plain-bits : (m i : ℕ) → plain f l m i ≡ true → bits l (records_at_lem f + enabled_at) (record_size_lem f) m i ≡ true
  unfolding plain bits
  plain-bits zero i h = refl
  plain-bits (suc m) i h =
      let p = both (plain_at f l (record_at f i)) _ h in
      let small : get_or l (records_at_lem f + enabled_at + record_size_lem f * i) 0 ≤ 1 = rw (← flag-here f l i) (flag_small (record_at f i) p.0) in
      rw (le-leb _ 1 small) (plain-bits m (suc i) p.1)

  module _ (m : ℕ) (le : n ≤ m) (most : m ≤ none) (s : MemoryAllocator) (g : Grows n m (state_in_lem f l) s) where
    pub check-decides : headed f l ≡ true → plain f l n 0 ≡ true → (t : Bool) → t ≡ is_sound_lem m s → t ≡ holds_ranges f l
    check-decides h p t et = rw (framed-headed, h, plain-bits n 0 p) (et ∙ same-verdict n m le most (state_in_lem f l) s (state-sized f l) g)

    pub checked-state : holds_ranges f l ≡ true → s ≡ grown_ranges n m (state_in_lem f l)
    checked-state e = grown-state n m le most (state_in_lem f l) s (state-sized f l) g (passes-sound n (let h = le in omega arith) (state_in_lem f l) (state-sized f l) (both (framed f l) _ e).1)

  -- a layout with all the records: the state is that of the bytes
  pub whole-state : n ≤ none → holds_ranges f l ≡ true → grown_ranges n n (state_in_lem f l) ≡ state_in_lem f l
  whole-state small e = (passes-sound n small (state_in_lem f l) (state-sized f l) (both (framed f l) _ e).1).state

  -- ---- of a sound state, every record is in use or fresh

  module _ (lawful : Lawful f) (bytes : Bytes l) where
    module _ (frame : framed f l ≡ true) (sound : Paragraph n (state_in_lem f l)) (i : ℕ) (b : i < n) where
      abbrev here : ℕ
      here = record_at f i

      framing : (headed f l ≡ true) × (bits l (records_at_lem f + enabled_at) (record_size_lem f) n 0 ≡ true)
      framing = both (headed f l) _ (sym framed-headed ∙ frame)

      flag-bit : flag_at l here ≤ 1
      flag-bit = rw (flag-here f l i) (bit_at l (records_at_lem f + enabled_at) (record_size_lem f) n 0 i framing.1 (omega arith) (omega arith))

      unused-fresh : flag_at l here ≡ 0 → Fresh (state_in_lem f l) i
      unfolding state_in_lem flags_in
      unused-fresh off = sound.unused i b (at-tab false n _ i b ∙ ap (λ (x : ℕ). eqb x 1) (sym (flag-here f l i) ∙ off))

      -- a link that is none has the number of none
      none_number : (k : ℕ) → k < 4 → link_in f l (here + links_at) k ≡ none → link_number_in_lem f l (here + links_at) k ≡ no_link f
      none_number k bk e =
          let w = f.link in
          let p : w * (k + 1) ≤ w * 4 = mul-le-mul_left w (omega arith) in
          let q = mul-add w k 1 in
          let r = mul-one w in
          let room = record-room f (links_at + w * k) w i (omega arith) b in
          let s = headed-sized framing.0 in
          let small = part-below l (here + links_at + w * k) w bytes (omega arith) in
          let m = lawful.links in
          ⊎_elim (λ (x : link_number_in_lem f l (here + links_at) k ≡ no_link f). x)
          (λ x. let y : link_number_in_lem f l (here + links_at) k ≡ none = rw (ne_eqb (link_number_in_lem f l (here + links_at) k) (no_link f) x) at e in omega arith)
          (same? (link_number_in_lem f l (here + links_at) k) (no_link f))

      fresh-bytes : flag_at l here ≡ 0 → fresh_at f l here ≡ true
      unfolding state_in_lem numbers_in links_in
      fresh-bytes off =
          let s = unused-fresh off in
          let e₁ : number_in l here word ≡ 0 = start-here f l i ∙ sym (at-tab 0 n _ i b) ∙ s.start in
          let e₂ : number_in l (here + end_at) word ≡ 0 = number-here f l i end_at ∙ sym (at-tab 0 n _ i b) ∙ s.end in
          let e₃ = none_number 0 (omega arith) (link_here f l i 0 ∙ sym (at-tab 0 n _ i b) ∙ s.previous) in
          let e₄ = none_number 1 (omega arith) (link_here f l i 1 ∙ sym (at-tab 0 n _ i b) ∙ s.next) in
          let e₅ = none_number 2 (omega arith) (link_here f l i 2 ∙ sym (at-tab 0 n _ i b) ∙ s.list_prev) in
          let e₆ = none_number 3 (omega arith) (link_here f l i 3 ∙ sym (at-tab 0 n _ i b) ∙ s.list_next) in
          rw (eq-eqb _ 0 e₁, eq-eqb _ 0 e₂, eq-eqb _ (no_link f) e₃, eq-eqb _ (no_link f) e₄, eq-eqb _ (no_link f) e₅, eq-eqb _ (no_link f) e₆)

      used-bytes : flag_at l here ≡ 1 → used_at l here ≡ true
      unfolding state_in_lem numbers_in flags_in
      used-bytes on =
          let p = sound.proper i b (at-tab false n _ i b ∙ ap (λ (x : ℕ). eqb x 1) (sym (flag-here f l i) ∙ on)) in
          let first : number_in l here word ≡ get_or (state_in_lem f l).start i 0 = start-here f l i ∙ sym (at-tab 0 n _ i b) in
          let last : number_in l (here + end_at) word ≡ get_or (state_in_lem f l).end i 0 = number-here f l i end_at ∙ sym (at-tab 0 n _ i b) in
          let low = p.0 in
          let high = p.1 in
          rw (eq-eqb (flag_at l here) 1 on) (proper-true _ _ (omega arith) (omega arith))

      each-plain : true ≡ plain_at f l here
      each-plain =
          ⊎_elim (λ (e : flag_at l here ≡ 0). plain-unused f l here true e (sym (fresh-bytes e)))
          (λ e. plain-used f l here true e (sym (used-bytes (let s = flag-bit in omega arith)))) (same? (flag_at l here) 0)

    ranges-plain : holds_ranges f l ≡ true → plain f l n 0 ≡ true
    unfolding plain
    ranges-plain e = all n 0 (omega arith)
      where
        p : (framed f l ≡ true) × (is_sound_lem n (state_in_lem f l) ≡ true)
        p = both (framed f l) _ e

        sound : Paragraph n (state_in_lem f l)
        sound = (paragraph n (small-pool f lawful) (state_in_lem f l)).0 (passes-sound n (small-pool f lawful) (state_in_lem f l) (state-sized f l) p.1)

        all : (m i : ℕ) → i + m ≤ n → plain f l m i ≡ true
        all zero i h = refl
        all (suc m) i h = rw (← each-plain p.0 sound i (omega arith)) (all m (suc i) (omega arith))

    pub not_plain : plain f l n 0 ≡ false → false ≡ holds_ranges f l
    not_plain h = go (holds_ranges f l) refl
      where
        go : (t : Bool) → holds_ranges f l ≡ t → false ≡ t
        go true e = true≢false (sym (ranges-plain e) ∙ h)
        go false e = refl
