-- What is read from the image of an account whose numbers and links fit is what the layout tells of it. Assumes nothing.
use mathlib.Core.Path.{◌≡◌, refl, sym, ◌∙◌, ap, subst}
use mathlib.Core.Bool.{Bool, true, false}
use mathlib.Core.Logic.{inl, inr, ◌≢◌, ⊎_elim}
use mathlib.Core.List.{List, [], ◌∷◌, ◌++◌, append_assoc, append-nil}
use Prim.Native.Nat.{ℕ, zero, suc, ◌+◌, ◌*◌, ◌^◌, ◌≤◌, ◌<◌}
use native.Mathlib.Nat.{add-zero, one-le-pow, mul-add, mul-one, mul-le-mul_left}
use native.Mathlib.Omega.{arith}
use lib.Dec.{ltb, eqb, ltb→lt}
use lib.ListN.{length, take, get_or, length-append}
use lib.Seq.{take_all}
use borrow.Author.Tests.{lt-ltb, le-ltb, eq-eqb, ne_eqb, le-leb}
use Rattle.linked_lists.proofs.Laws.{same?}
use Rattle.rules_laws.proofs.Lists.{if}
use Rattle.rules.specs.Rules.{size_lists}
use Rattle.pool_state.specs.State.{arrays}
use Rattle.pool_state.specs.declared.MemoryAllocator.{MemoryAllocator}
use Rattle.pool_state.proofs.States.{by-tab}
use Rattle.account_state.specs.Account.{account}
use Rattle.account_state.specs.declared.Account.{Account}
use Rattle.check_meaning.specs.Paragraph.{Link}
use Rattle.bytes_be.specs.Numbers.{be, number}
use Rattle.bytes_be.proofs.Laws.{length-be, number-be}
use Rattle.image_parts.specs.Layout.{Layout, Lawful, word, no_link, length_at, length_size, total_at, first_at, heads_at, low_at, records_at_lem, end_at, enabled_at, links_at, record_size_lem, image_size_lem, rest_size}
use Rattle.image_parts.specs.Written.{joined, link_number_lem, flag_number_lem, link_bytes, record_bytes, head_bytes}
use Rattle.image_writing.specs.Writing.{entry_at_lem, head_of, image_of}
use Rattle.image_parts.specs.Read.{number_in, link_of, numbers_in, links_in, flags_in, bits}
use Rattle.image_reading.specs.Reading.{state_in_lem, low_in_lem, account_in}
use Rattle.image.specs.Reading.{told_by_lem}
use Rattle.image_parts.specs.declared.records.MemoryEntry.{MemoryEntry}
use Rattle.image_parts.proofs.Parts.{length-joined, length-links, length-record, length-head, record-room}
use Rattle.image_parts.proofs.Places.{number-in, number_at, one_byte}
use Rattle.image.proofs.Ways.{Frame}
use Rattle.image.proofs.Fitting.{Fits}

module _ (f : Layout) (lawful : Lawful f) where
  -- ---- a link and a flag

  link-round : (r : ℕ) → Link f.records r → link_of f (link_number_lem f r) ≡ r
  link-round r (inr h) =
      let k = lawful.records in
      let b : r < no_link f = omega arith in
      let d : r ≡ no_link f → ⊥ = λ e. omega arith in
      rw (lt-ltb r (no_link f) b, ne_eqb r (no_link f) d)
  link-round r (inl e) =
      let k = lawful.links in
      rw (le-ltb r (no_link f) (omega arith), eq-eqb (no_link f) (no_link f) refl) (sym e)

  link-below : (r : ℕ) → link_number_lem f r < 256 ^ f.link
  link-below r =
      let p = one-le-pow f.link 256 (omega arith) in
      if (ltb r (no_link f)) (λ x. x < 256 ^ f.link) (λ t. let b = ltb→lt r (no_link f) t in omega arith) (λ t. omega arith)

  flag-round : (b : Bool) → eqb (flag_number_lem b) 1 ≡ b
  flag-round true = refl
  flag-round false = refl

  -- ---- a list of links

  -- the k-th link of a list that stands after p
  links-round : (p q links : List ℕ) (a k : ℕ) → length p ≡ a → k < length links → Link f.records (get_or links k 0) → link_of f (number_in (p ++ (link_bytes f links ++ q)) (a + f.link * k) f.link) ≡ get_or links k 0
  unfolding link_bytes
  links-round p q links a k lp b h =
      let w = f.link in
      let wide : (j : ℕ) → length (be w (link_number_lem f (get_or links j 0))) ≡ w = λ j. length-be w _ in
      let e : number_in (p ++ (link_bytes f links ++ q)) (a + 0 + w * k) w ≡ number_in (be w (link_number_lem f (get_or links k 0))) 0 w
      = number_at (λ j. be w (link_number_lem f (get_or links j 0))) p q a w (length links) k lp wide b 0 w (omega arith) in
      let e' : number_in (p ++ (link_bytes f links ++ q)) (a + w * k) w ≡ number (take w (be w (link_number_lem f (get_or links k 0)))) = rw add-zero at e in
      let all : take w (be w (link_number_lem f (get_or links k 0))) ≡ be w (link_number_lem f (get_or links k 0)) = take_all w _ (let l = wide k in omega arith) in
      ap (link_of f) (e' ∙ ap number all ∙ number-be w (link_number_lem f (get_or links k 0)) (link-below (get_or links k 0))) ∙ link-round (get_or links k 0) h

  -- ---- a record

  module _ (e : MemoryEntry) where
    record-start : e.start.0 < 256 ^ word → number_in (record_bytes f e) 0 word ≡ e.start.0
    unfolding record_bytes
    record-start h = number-in [] (be word e.start.0) _ 0 word refl (length-be word _) ∙ number-be word e.start.0 h

    record-end : e.end.0 < 256 ^ word → number_in (record_bytes f e) end_at word ≡ e.end.0
    unfolding record_bytes
    record-end h = number-in (be word e.start.0) (be word e.end.0) _ end_at word (length-be word _) (length-be word _) ∙ number-be word e.end.0 h

    record-flag : number_in (record_bytes f e) enabled_at 1 ≡ flag_number_lem e.enabled
    unfolding record_bytes
    record-flag =
        let p = be word e.start.0 ++ be word e.end.0 in
        let links = link_bytes f (e.previous.0 ∷ e.next.0 ∷ e.list_prev.0 ∷ e.list_next.0 ∷ []) in
        let l : length p ≡ enabled_at = simp (length-append, length-be) in
        let c : record_bytes f e ≡ p ++ (be 1 (flag_number_lem e.enabled) ++ links) = simp append_assoc in
        rw c (number-in p (be 1 (flag_number_lem e.enabled)) links enabled_at 1 l (length-be 1 _) ∙ number-be 1 (flag_number_lem e.enabled) (if e.enabled (λ y. y < 256) (λ t. omega arith) (λ t. omega arith)))

    record-link : (k : ℕ) → k < 4 → let links = e.previous.0 ∷ e.next.0 ∷ e.list_prev.0 ∷ e.list_next.0 ∷ [] in Link f.records (get_or links k 0) → link_of f (number_in (record_bytes f e) (links_at + f.link * k) f.link) ≡ get_or links k 0
    unfolding record_bytes
    record-link k b h =
        let links = e.previous.0 ∷ e.next.0 ∷ e.list_prev.0 ∷ e.list_next.0 ∷ [] in
        let p = (be word e.start.0 ++ be word e.end.0) ++ be 1 (flag_number_lem e.enabled) in
        let l : length p ≡ links_at = simp (length-append, length-be) in
        let c : record_bytes f e ≡ p ++ (link_bytes f links ++ []) = simp (append_assoc, append-nil) in
        rw c (links-round p [] links links_at k l b h)

  -- ---- an account

  module _ (a : Account) (fit : Fits f.records a.ranges) (low-fit : a.lowest < 256 ^ word) where
    abbrev s : MemoryAllocator
    s = a.ranges

    abbrev piece : ℕ → List ℕ
    piece i = record_bytes f (entry_at_lem s i)

    abbrev top : List ℕ
    top = be length_at f.version ++ be length_size (rest_size f)

    abbrev rest : List ℕ
    rest = joined f.records 0 piece

    abbrev total : List ℕ
    total = be word s.free_size

    abbrev first : List ℕ
    first = be f.link (link_number_lem f s.first_entry.0)

    abbrev heads : List ℕ
    heads = link_bytes f s.free_list

    abbrev low : List ℕ
    low = be f.low a.lowest

    top-length : length top ≡ total_at
    top-length = simp (length-append, length-be)

    head-length : length (head_of f a) ≡ records_at_lem f
    head-length = length-head f _ _ s.free_list a.lowest size_lists fit.sized.heads

    image-length : length (image_of f a) ≡ image_size_lem f
    unfolding image_of
    image-length = length-append (head_of f a) rest ∙ (let h = head-length in let r = length-joined (record_size_lem f) piece (λ i. length-record f _) f.records 0 in omega arith)

    total-back : number_in (image_of f a) total_at word ≡ s.free_size
    unfolding image_of head_bytes
    total-back =
        let c : image_of f a ≡ top ++ (total ++ ((first ++ (heads ++ low)) ++ rest)) = simp append_assoc in
        rw c (number-in top total _ total_at word top-length (length-be word _) ∙ number-be word _ fit.total)

    first_back : link_of f (number_in (image_of f a) first_at f.link) ≡ s.first_entry.0
    unfolding image_of head_bytes
    first_back =
        let c : image_of f a ≡ (top ++ total) ++ (first ++ (heads ++ (low ++ rest))) = simp append_assoc in
        let l : length (top ++ total) ≡ first_at = simp (length-append, length-be) in
        rw c (ap (link_of f) (number-in (top ++ total) first _ first_at f.link l (length-be f.link _) ∙ number-be f.link _ (link-below _)) ∙ link-round _ fit.first)

    heads-back : (k : ℕ) → k < size_lists → link_of f (number_in (image_of f a) (heads_at f + f.link * k) f.link) ≡ get_or s.free_list k 0
    unfolding image_of head_bytes
    heads-back k b =
        let c : image_of f a ≡ ((top ++ total) ++ first) ++ (heads ++ (low ++ rest)) = simp append_assoc in
        let l : length ((top ++ total) ++ first) ≡ heads_at f = simp (length-append, length-be) in
        rw c (links-round ((top ++ total) ++ first) (low ++ rest) s.free_list (heads_at f) k l (let z = fit.sized.heads in omega arith) (fit.heads k b))

    field_back : (o k i : ℕ) → o + k ≤ record_size_lem f → i < f.records → number_in (image_of f a) (records_at_lem f + o + record_size_lem f * i) k ≡ number_in (piece i) o k
    unfolding image_of
    field_back o k i h b =
        let head = head_of f a in
        let c : image_of f a ≡ head ++ (rest ++ []) = simp append-nil in
        rw c (number_at piece head [] (records_at_lem f) (record_size_lem f) f.records i head-length (λ j. length-record f _) b o k h)

    flag-back : (i : ℕ) → i < f.records → get_or (image_of f a) (records_at_lem f + enabled_at + record_size_lem f * i) 0 ≡ flag_number_lem (get_or s.enabled i false)
    flag-back i b =
        let room = record-room f enabled_at 1 i (omega arith) b in
        let l = image-length in
        one_byte (image_of f a) _ (omega arith) ∙ field_back enabled_at 1 i (omega arith) b ∙ record-flag (entry_at_lem s i)

    -- the k-th of the four links
    links-back : (k : ℕ) → k < 4 → (xs : List ℕ) → length xs ≡ f.records → ((i : ℕ) → i < f.records → Link f.records (get_or xs i 0)) → ((i : ℕ) → get_or xs i 0 ≡ get_or ((entry_at_lem s i).previous.0 ∷ (entry_at_lem s i).next.0 ∷ (entry_at_lem s i).list_prev.0 ∷ (entry_at_lem s i).list_next.0 ∷ []) k 0)
        → links_in f (image_of f a) (records_at_lem f + (links_at + f.link * k)) (record_size_lem f) f.records ≡ xs
    unfolding links_in
    links-back k b xs len h e =
        sym (by-tab 0 f.records xs _ len (λ i bi.
        let w : links_at + f.link * k + f.link ≤ record_size_lem f = let p : f.link * (k + 1) ≤ f.link * 4 = mul-le-mul_left f.link (omega arith) in let q = mul-add f.link k 1 in let r = mul-one f.link in omega arith in
        sym (ap (link_of f) (field_back (links_at + f.link * k) f.link i w bi) ∙ record-link (entry_at_lem s i) k b (subst (λ (r : ℕ). Link f.records r) (e i) (h i bi)) ∙ sym (e i))))

    state-back : state_in_lem f (image_of f a) ≡ s
    unfolding state_in_lem numbers_in links_in flags_in
    state-back =
        let n = f.records in
        let e₃ = sym (by-tab 0 size_lists s.free_list _ fit.sized.heads (λ k b. sym (heads-back k b))) in
        let e₄ = sym (by-tab 0 n s.start _ fit.sized.start (λ i b. sym (field_back 0 word i (omega arith) b ∙ record-start (entry_at_lem s i) (fit.start i b)))) in
        let e₅ = sym (by-tab 0 n s.end _ fit.sized.end (λ i b. sym (field_back end_at word i (omega arith) b ∙ record-end (entry_at_lem s i) (fit.end i b)))) in
        let e₆ = sym (by-tab false n s.enabled _ fit.sized.enabled (λ i b. sym (ap (λ (x : ℕ). eqb x 1) (flag-back i b) ∙ flag-round (get_or s.enabled i false)))) in
        let e₇ = links-back 0 (omega arith) s.previous fit.sized.previous (λ i bi. (fit.links i bi).previous) (λ i. refl) in
        let e₈ = links-back 1 (omega arith) s.next fit.sized.next (λ i bi. (fit.links i bi).next) (λ i. refl) in
        let e₉ = links-back 2 (omega arith) s.list_prev fit.sized.list_prev (λ i bi. (fit.links i bi).list_prev) (λ i. refl) in
        let e₀ = links-back 3 (omega arith) s.list_next fit.sized.list_next (λ i bi. (fit.links i bi).list_next) (λ i. refl) in
        (λ z. arrays (total-back z) (first_back z) (e₃ z) (e₄ z) (e₅ z) (e₆ z) (e₇ z) (e₈ z) (e₉ z) (e₀ z))

    -- a figure that has bytes of its own
    low_told : f.low ≢ 0 → number_in (image_of f a) (low_at f) word ≡ a.lowest
    unfolding image_of head_bytes
    low_told d =
        let p = ((top ++ total) ++ first) ++ heads in
        let whole = lawful.whole-low d in
        let c : image_of f a ≡ p ++ (low ++ rest) = simp append_assoc in
        let l : length p ≡ low_at f = simp (length-append, length-be, length-links, fit.sized.heads) (omega arith) in
        rw c (number-in p low rest (low_at f) word l (length-be f.low _ ∙ whole) ∙ number-be f.low a.lowest (subst (λ (k : ℕ). a.lowest < 256 ^ k) (sym whole) low-fit))

    low-back : low_in_lem f (image_of f a) ≡ (told_by_lem f a).lowest
    low-back =
        ⊎_elim (λ (e : f.low ≡ 0). rw (eq-eqb f.low 0 e) total-back) (λ d. rw (ne_eqb f.low 0 d) (low_told d)) (same? f.low 0)

    pub account-back : account_in f (image_of f a) ≡ told_by_lem f a
    account-back = (λ z. account (state-back z) (low-back z))

    -- ---- the frame

    bits_back : (m i : ℕ) → i + m ≤ f.records → bits (image_of f a) (records_at_lem f + enabled_at) (record_size_lem f) m i ≡ true
    unfolding bits
    bits_back zero i h = refl
    bits_back (suc m) i h =
        let small : get_or (image_of f a) (records_at_lem f + enabled_at + record_size_lem f * i) 0 ≤ 1 = rw (flag-back i (omega arith)) (if (get_or s.enabled i false) (λ x. x ≤ 1) (λ t. omega arith) (λ t. omega arith)) in
        rw (le-leb _ 1 small) (bits_back m (suc i) (omega arith))

    version-back : number_in (image_of f a) 0 length_at ≡ f.version
    unfolding image_of head_bytes
    version-back =
        let c : image_of f a ≡ [] ++ (be length_at f.version ++ (be length_size (rest_size f) ++ ((total ++ (first ++ (heads ++ low))) ++ rest))) = simp append_assoc in
        rw c (number-in [] (be length_at f.version) _ 0 length_at refl (length-be length_at _) ∙ number-be length_at f.version lawful.versions)

    rest_back : number_in (image_of f a) length_at length_size ≡ rest_size f
    unfolding image_of head_bytes
    rest_back =
        let c : image_of f a ≡ be length_at f.version ++ (be length_size (rest_size f) ++ ((total ++ (first ++ (heads ++ low))) ++ rest)) = simp append_assoc in
        rw c (number-in (be length_at f.version) (be length_size (rest_size f)) _ length_at length_size (length-be length_at _) (length-be length_size _) ∙ number-be length_size (rest_size f) lawful.rests)

    pub frame_back : Frame f (image_of f a)
    frame_back = record { sized = image-length; versions = version-back; rests = rest_back; flags = bits_back f.records 0 (omega arith) }
