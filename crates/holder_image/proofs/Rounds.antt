-- What was written is read, and what was read is what was written: the register's bytes, and the allocator's behind them. Assumes nothing.
use Prim.Native.Nat.{ℕ, ◌+◌, ◌-◌, ◌*◌, ◌^◌, ◌≤◌, ◌<◌}
use mathlib.Core.Bool.{Bool, true, false, ◌&&◌}
use mathlib.Core.List.{List, [], ◌++◌, append_assoc, append-nil}
use mathlib.Core.Logic.{inl, inr}
use mathlib.Core.Path.{◌≡◌, refl, sym, ap, ◌∙◌, subst}
use native.Mathlib.Nat.{zero-add}
use native.Mathlib.Omega.{arith}
use lib.Dec.{T, eqb, lit≤, leb, leb→le}
use lib.ListN.{length, get_or, take, drop, length-append, take-append-drop}
use lib.Seq.{drop_at, ext_get_or}
use borrow.Author.Tests.{eq-eqb, eqb-true}
use Rattle.bytes_be.specs.Numbers.{be, number, Bytes}
use Rattle.bytes_be.proofs.Laws.{length-be, number-be}
use Rattle.linked_lists.specs.Links.{tab}
use Rattle.linked_lists.proofs.Laws.{length-tab, get_or-tab}
use Rattle.image_parts.specs.Layout.{Layout, word, length_at, length_size, image_size_lem}
use Rattle.image_parts.specs.Read.{number_in}
use Rattle.image_parts.specs.Written.{joined}
use Rattle.image_parts.proofs.Loops.{both}
use Rattle.image_parts.proofs.Places.{number-in, number_at, again, beside, joined-take}
use Rattle.holder_rules.specs.Register.{entries, entry, blank}
use Rattle.holder_rules.specs.Holders as holding
use Rattle.holder_rules.specs.Holders.{Holding}
use Rattle.holder_rules.specs.declared.Entry.{Entry}
use Rattle.holder_image.specs.Layout.{version, entries_at, start_at, last_at, entry_size, memory_at, whole_size, rest_of}
use Rattle.holder_image.specs.Bytes.{entry_bytes, entries_bytes, front_bytes_lem, bytes_of_lem, entry_at_lem, register_in_lem, memory_in, holding_in, headed}
use Rattle.holder_image.proofs.Parts.{length-entry, length-entries}

-- its numbers have room in their bytes
pub record Fits (e : Entry) : Type 0 where
  pub holder : e.holder.0 < 256 ^ start_at
  pub start : e.start.0 < 256 ^ word
  pub last : e.last.0 < 256 ^ word

-- ---- an entry

module _ (e : Entry) (h : Fits e) where
  holder-back : number_in (entry_bytes e) 0 start_at ≡ e.holder.0
  unfolding entry_bytes
  holder-back = number-in [] (be start_at e.holder.0) (be word e.start.0 ++ be word e.last.0) 0 start_at refl (length-be start_at e.holder.0) ∙ number-be start_at e.holder.0 h.holder

  start_back : number_in (entry_bytes e) start_at word ≡ e.start.0
  unfolding entry_bytes
  start_back = number-in (be start_at e.holder.0) (be word e.start.0) (be word e.last.0) start_at word (length-be start_at e.holder.0) (length-be word e.start.0) ∙ number-be word e.start.0 h.start

  last-back : number_in (entry_bytes e) last_at word ≡ e.last.0
  unfolding entry_bytes
  last-back =
      ap (λ (l : List ℕ). number_in l last_at word)
      (sym (append_assoc (be start_at e.holder.0) (be word e.start.0) (be word e.last.0)) ∙ ap (λ (l : List ℕ). (be start_at e.holder.0 ++ be word e.start.0) ++ l) (sym (append-nil (be word e.last.0))))
      ∙ number-in (be start_at e.holder.0 ++ be word e.start.0) (be word e.last.0) [] last_at word (simp (length-append, length-be)) (length-be word e.last.0) ∙ number-be word e.last.0 h.last

-- ---- the register

-- what stands before the entries
abbrev head_bytes : Layout → List ℕ
head_bytes f = be length_at version ++ be length_size (rest_of f)

module _ (f : Layout) (r : List Entry) (m : List ℕ) where
  abbrev image : List ℕ
  image = bytes_of_lem f (holding.both m r)

  parts : image ≡ head_bytes f ++ (entries_bytes r ++ m)
  unfolding bytes_of_lem front_bytes_lem
  parts = simp append_assoc

  length-head : length (head_bytes f) ≡ entries_at
  length-head = simp (length-append, length-be)

  length_front : length (front_bytes_lem f r) ≡ memory_at
  unfolding front_bytes_lem
  length_front = let e = length-entries r in simp (length-append, length-be) (omega arith)

  pub length-bytes : length image ≡ memory_at + length m
  unfolding bytes_of_lem
  length-bytes = length-append (front_bytes_lem f r) m ∙ ap (λ (n : ℕ). n + length m) length_front

  pub memory-back : memory_in image ≡ m
  unfolding bytes_of_lem
  memory-back = drop_at (front_bytes_lem f r) m memory_at length_front

  module _ (len : length r ≡ entries) (fits : (i : ℕ) → i < entries → Fits (get_or r i blank)) where
    piece : ℕ → List ℕ
    piece i = entry_bytes (get_or r i blank)

    at_entry : (i : ℕ) → i < entries → (o k : ℕ) → o + k ≤ entry_size → number_in image (entries_at + o + entry_size * i) k ≡ number_in (entry_bytes (get_or r i blank)) o k
    unfolding entries_bytes
    at_entry i b o k h =
        ap (λ (l : List ℕ). number_in l (entries_at + o + entry_size * i) k) parts
        ∙ number_at (λ j. entry_bytes (get_or r j blank)) (head_bytes f) m entries_at entry_size entries i length-head (λ j. length-entry (get_or r j blank)) b o k h

    entry-back : (i : ℕ) → i < entries → entry_at_lem image i ≡ get_or r i blank
    entry-back i b =
        let e = get_or r i blank in
        let x = at_entry i b 0 start_at (omega arith) ∙ holder-back e (fits i b) in
        let y = at_entry i b start_at word (omega arith) ∙ start_back e (fits i b) in
        let z = at_entry i b last_at word (omega arith) ∙ last-back e (fits i b) in
        (λ j. entry (x j) (y j) (z j))

    pub register-back : register_in_lem image ≡ r
    unfolding register_in_lem
    register-back =
        let n = length-tab entries 0 (entry_at_lem image) in
        ext_get_or blank (tab entries 0 (entry_at_lem image)) r (n ∙ sym len)
        (λ i h. let b : i < entries = omega arith in get_or-tab entries 0 i (entry_at_lem image) blank b ∙ ap (entry_at_lem image) (zero-add i) ∙ entry-back i b)

    pub holding-back : holding_in image ≡ holding.both m r
    holding-back = let p = memory-back in let q = register-back in (λ i. holding.both (p i) (q i))

  pub headed-back : length m ≡ image_size_lem f → rest_of f < 256 ^ length_size → headed f image ≡ true
  unfolding headed
  headed-back h g =
      let n : length image ≡ whole_size f = length-bytes ∙ ap (λ (j : ℕ). memory_at + j) h in
      let v : number_in image 0 length_at ≡ version =
      ap (λ (l : List ℕ). number_in l 0 length_at) (parts ∙ append_assoc (be length_at version) (be length_size (rest_of f)) (entries_bytes r ++ m))
      ∙ number-in [] (be length_at version) (be length_size (rest_of f) ++ (entries_bytes r ++ m)) 0 length_at refl (length-be length_at version) ∙ number-be length_at version (lit≤ tt) in
      let t : number_in image length_at length_size ≡ rest_of f =
      ap (λ (l : List ℕ). number_in l length_at length_size) (parts ∙ append_assoc (be length_at version) (be length_size (rest_of f)) (entries_bytes r ++ m))
      ∙ number-in (be length_at version) (be length_size (rest_of f)) (entries_bytes r ++ m) length_at length_size (length-be length_at version) (length-be length_size (rest_of f)) ∙ number-be length_size (rest_of f) g in
      rw (eq-eqb (length image) (whole_size f) n, eq-eqb (number_in image 0 length_at) version v, eq-eqb (number_in image length_at length_size) (rest_of f) t)

-- ---- read, and written again

module _ (f : Layout) (l : List ℕ) (bytes : Bytes l) (h : headed f l ≡ true) where
  pub head-told : (length l ≡ whole_size f) × (number_in l 0 length_at ≡ version) × (number_in l length_at length_size ≡ rest_of f)
  unfolding headed
  head-told =
      let p = both (eqb (length l) (whole_size f)) (eqb (number_in l 0 length_at) version && eqb (number_in l length_at length_size) (rest_of f)) h in
      let q = both (eqb (number_in l 0 length_at) version) (eqb (number_in l length_at length_size) (rest_of f)) p.1 in
      (eqb-true (length l) (whole_size f) p.0, eqb-true (number_in l 0 length_at) version q.0, eqb-true (number_in l length_at length_size) (rest_of f) q.1)

  pub headed-length : length l ≡ whole_size f
  headed-length = head-told.0

  pub entry-again : (i : ℕ) → i < entries → entry_bytes (entry_at_lem l i) ≡ take entry_size (drop (entries_at + entry_size * i) l)
  unfolding entry_bytes
  entry-again i b =
      let n = headed-length in
      let a = entries_at + entry_size * i in
      let x = again l (entries_at + entry_size * i) start_at bytes (omega arith) in
      let y = again l (entries_at + start_at + entry_size * i) word bytes (omega arith) in
      let z = again l (entries_at + last_at + entry_size * i) word bytes (omega arith) in
      beside l (entries_at + entry_size * i) start_at (word + word) (entries_at + start_at + entry_size * i) entry_size _ _ x
      (beside l (entries_at + start_at + entry_size * i) word word (entries_at + last_at + entry_size * i) (word + word) _ _ y z (omega arith) (omega arith)) (omega arith) (omega arith)

  entries-again : entries_bytes (register_in_lem l) ≡ take (entry_size * entries) (drop entries_at l)
  unfolding entries_bytes register_in_lem
  entries-again =
      joined-take (λ i. entry_bytes (get_or (tab entries 0 (entry_at_lem l)) i blank)) l entries_at entry_size entries 0
      (λ i b. let g : i < entries = omega arith in ap entry_bytes (get_or-tab entries 0 i (entry_at_lem l) blank g ∙ ap (entry_at_lem l) (zero-add i)) ∙ entry-again i g)

  front-again : front_bytes_lem f (register_in_lem l) ≡ take memory_at (drop 0 l)
  unfolding front_bytes_lem
  front-again =
      let n = headed-length in
      let v = ap (be length_at) (sym head-told.1) ∙ again l 0 length_at bytes (omega arith) in
      let t = ap (be length_size) (sym head-told.2) ∙ again l length_at length_size bytes (omega arith) in
      beside l 0 length_at (length_size + entry_size * entries) length_at memory_at _ _ v
      (beside l length_at length_size (entry_size * entries) entries_at (length_size + entry_size * entries) _ _ t entries-again (omega arith) (omega arith)) (omega arith) (omega arith)

  pub bytes-again : bytes_of_lem f (holding_in l) ≡ l
  unfolding bytes_of_lem
  bytes-again = ap (λ (x : List ℕ). x ++ memory_in l) front-again ∙ take-append-drop memory_at l
