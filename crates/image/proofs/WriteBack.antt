-- What is written of the account in a framed list of bytes is that list. Assumes nothing.
use mathlib.Core.Path.{◌≡◌, refl, sym, ◌∙◌, ap}
use mathlib.Core.Bool.{Bool, false}
use mathlib.Core.Logic.{⊎_elim}
use mathlib.Core.List.{List, [], ◌∷◌}
use Prim.Native.Nat.{ℕ, zero, suc, ◌+◌, ◌*◌, ◌^◌, ◌≤◌, ◌<◌}
use native.Mathlib.Nat.{mul-zero, mul-add, mul-one, mul-le-mul_left}
use native.Mathlib.Omega.{arith}
use lib.Dec.{eqb}
use lib.ListN.{length, take, drop, get_or}
use lib.Seq.{take_all}
use borrow.Author.Tests.{lt-ltb, le-ltb, eq-eqb, ne_eqb}
use Rattle.linked_lists.specs.Links.{none}
use Rattle.linked_lists.proofs.Laws.{same?, length-tab}
use Rattle.rules.specs.Rules.{size_lists}
use Rattle.pool_state.proofs.States.{at-tab}
use Rattle.bytes_be.specs.Numbers.{be, Bytes}
use Rattle.image_parts.specs.Layout.{Layout, Lawful, word, no_link, length_at, length_size, total_at, first_at, heads_at, low_at, records_at_lem, end_at, enabled_at, links_at, record_size_lem, image_size_lem}
use Rattle.image_parts.specs.Written.{joined, link_number_lem, flag_number_lem, link_bytes, record_bytes, head_bytes}
use Rattle.image_writing.specs.Writing.{entry_at_lem, image_of}
use Rattle.image_parts.specs.Read.{number_in, link_of, numbers_in, links_in, flags_in}
use Rattle.image_reading.specs.Reading.{state_in_lem, low_in_lem, account_in}
use Rattle.image_parts.proofs.Loops.{bit_at}
use Rattle.image_parts.proofs.Places.{one_byte, beside, part-below, again, joined-take}
use Rattle.image_parts.proofs.Parts.{record-room}
use Rattle.image.proofs.Ways.{Frame}

flag-again : (x : ℕ) → x ≤ 1 → flag_number_lem (eqb x 1) ≡ x
flag-again x h = ⊎_elim (λ (e : x ≡ 1). rw (eq-eqb x 1 e) (sym e)) (λ e. rw (ne_eqb x 1 e) (omega arith)) (same? x 1)

module _ (f : Layout) (lawful : Lawful f) where
  link-again : (x : ℕ) → x < 256 ^ f.link → link_number_lem f (link_of f x) ≡ x
  link-again x h =
      let k = lawful.links in
      ⊎_elim (λ (e : x ≡ no_link f). rw (eq-eqb x (no_link f) e, le-ltb none (no_link f) (omega arith)) (sym e)) (λ e. rw (ne_eqb x (no_link f) e, lt-ltb x (no_link f) (omega arith))) (same? x (no_link f))

  module _ (l : List ℕ) (bytes : Bytes l) (frame : Frame f l) where
    -- a link, read and written again
    link-part : (a : ℕ) → a + f.link ≤ length l → be f.link (link_number_lem f (link_of f (number_in l a f.link))) ≡ take f.link (drop a l)
    link-part a room = ap (be f.link) (link-again (number_in l a f.link) (part-below l a f.link bytes room)) ∙ again l a f.link bytes room

    -- links side by side, from a on
    links-part : (links : List ℕ) (a n : ℕ) → length links ≡ n → a + f.link * n ≤ length l → ((k : ℕ) → k < n → get_or links k 0 ≡ link_of f (number_in l (a + f.link * k) f.link))
        → link_bytes f links ≡ take (f.link * n) (drop a l)
    unfolding link_bytes
    links-part links a n len room e =
        let w = f.link in
        let start : a + w * 0 ≡ a = let z = mul-zero w in omega arith in
        rw len (joined-take (λ k. be w (link_number_lem f (get_or links k 0))) l a w n 0
        (λ k b. let p : w * (k + 1) ≤ w * n = mul-le-mul_left w (omega arith) in
        let q = mul-add w k 1 in
        let r = mul-one w in
        ap (λ (x : ℕ). be w (link_number_lem f x)) (e k (omega arith)) ∙ link-part (a + w * k) (omega arith)))
        ∙ ap (λ (m : ℕ). take (w * n) (drop m l)) start

    -- ---- a record

    module _ (i : ℕ) (b : i < f.records) where
      abbrev place : ℕ → ℕ
      place o = records_at_lem f + o + record_size_lem f * i

      room : (o k : ℕ) → o + k ≤ record_size_lem f → place o + k ≤ length l
      room o k h = let r = record-room f o k i h b in let s = frame.sized in omega arith

      number-part : (o : ℕ) → o + word ≤ record_size_lem f → be word (get_or (numbers_in l (records_at_lem f + o) (record_size_lem f) f.records) i 0) ≡ take word (drop (place o) l)
      unfolding numbers_in
      number-part o h = ap (be word) (at-tab 0 f.records _ i b) ∙ again l (place o) word bytes (room o word h)

      flag-part : be 1 (flag_number_lem (get_or (flags_in l (records_at_lem f + enabled_at) (record_size_lem f) f.records) i false)) ≡ take 1 (drop (place enabled_at) l)
      unfolding flags_in
      flag-part =
          let r = room enabled_at 1 (omega arith) in
          let x = get_or l (place enabled_at) 0 in
          let small : x ≤ 1 = bit_at l (records_at_lem f + enabled_at) (record_size_lem f) f.records 0 i frame.flags (omega arith) (omega arith) in
          ap (λ (y : Bool). be 1 (flag_number_lem y)) (at-tab false f.records _ i b) ∙ ap (be 1) (flag-again x small ∙ one_byte l (place enabled_at) (omega arith)) ∙ again l (place enabled_at) 1 bytes r

      record-links : (k : ℕ) → k < 4 → get_or ((entry_at_lem (state_in_lem f l) i).previous.0 ∷ (entry_at_lem (state_in_lem f l) i).next.0 ∷ (entry_at_lem (state_in_lem f l) i).list_prev.0 ∷ (entry_at_lem (state_in_lem f l) i).list_next.0 ∷ []) k 0
          ≡ link_of f (number_in l (place (links_at + f.link * k)) f.link)
      unfolding state_in_lem links_in
      record-links zero h = at-tab 0 f.records _ i b
      record-links (suc zero) h = at-tab 0 f.records _ i b
      record-links (suc (suc zero)) h = at-tab 0 f.records _ i b
      record-links (suc (suc (suc zero))) h = at-tab 0 f.records _ i b
      record-links (suc (suc (suc (suc k)))) h = absurd (omega arith)

      links-again : link_bytes f ((entry_at_lem (state_in_lem f l) i).previous.0 ∷ (entry_at_lem (state_in_lem f l) i).next.0 ∷ (entry_at_lem (state_in_lem f l) i).list_prev.0 ∷ (entry_at_lem (state_in_lem f l) i).list_next.0 ∷ []) ≡ take (f.link * 4) (drop (place links_at) l)
      links-again =
          links-part _ (place links_at) 4 refl (room links_at (f.link * 4) (omega arith))
          (λ k bk. let at : place (links_at + f.link * k) ≡ place links_at + f.link * k = omega arith in record-links k bk ∙ ap (λ (m : ℕ). link_of f (number_in l m f.link)) at)

      pub record-again : record_bytes f (entry_at_lem (state_in_lem f l) i) ≡ take (record_size_lem f) (drop (records_at_lem f + record_size_lem f * i) l)
      unfolding record_bytes state_in_lem
      record-again =
          let at : place 0 ≡ records_at_lem f + record_size_lem f * i = omega arith in
          let p₃ = beside l (place enabled_at) 1 (f.link * 4) (place links_at) (1 + f.link * 4) _ _ flag-part links-again (omega arith) refl in
          let p₂ = beside l (place end_at) word (1 + f.link * 4) (place enabled_at) (word + (1 + f.link * 4)) _ _ (number-part end_at (omega arith)) p₃ (omega arith) refl in
          let p₁ = beside l (place 0) word (word + (1 + f.link * 4)) (place end_at) (record_size_lem f) _ _ (number-part 0 (omega arith)) p₂ (omega arith) (omega arith) in
          p₁ ∙ ap (λ (m : ℕ). take (record_size_lem f) (drop m l)) at

    -- ---- the image

    -- a part of the head
    head-part : (a k x : ℕ) → a + k ≤ records_at_lem f → number_in l a k ≡ x → be k x ≡ take k (drop a l)
    head-part a k x h e = let s = frame.sized in ap (be k) (sym e) ∙ again l a k bytes (omega arith)

    heads-again : link_bytes f (state_in_lem f l).free_list ≡ take (f.link * size_lists) (drop (heads_at f) l)
    unfolding state_in_lem links_in
    heads-again =
        let s = frame.sized in
        links-part _ (heads_at f) size_lists (length-tab size_lists 0 _) (omega arith) (λ k b. at-tab 0 size_lists _ k b)

    first-again : be f.link (link_number_lem f (state_in_lem f l).first_entry.0) ≡ take f.link (drop first_at l)
    unfolding state_in_lem
    first-again = let s = frame.sized in link-part first_at (omega arith)

    total-again : be word (state_in_lem f l).free_size ≡ take word (drop total_at l)
    unfolding state_in_lem
    total-again = head-part total_at word _ (omega arith) refl

    -- no bytes, or those that were read
    low_again : be f.low (low_in_lem f l) ≡ take f.low (drop (low_at f) l)
    unfolding be
    low_again =
        let s = frame.sized in
        ⊎_elim (λ (e : f.low ≡ 0). rw e)
        (λ d. let whole = lawful.whole-low d in rw (ne_eqb f.low 0 d, whole) (again l (low_at f) word bytes (omega arith)))
        (same? f.low 0)

    pub image-again : image_of f (account_in f l) ≡ l
    unfolding image_of head_bytes
    image-again =
        let w = f.link in
        let n = w * size_lists in
        let s = frame.sized in
        let rest : joined f.records 0 (λ i. record_bytes f (entry_at_lem (state_in_lem f l) i)) ≡ take (record_size_lem f * f.records) (drop (records_at_lem f + record_size_lem f * 0) l)
        = joined-take _ l (records_at_lem f) (record_size_lem f) f.records 0 (λ i b. record-again i (omega arith)) in
        let z = mul-zero (record_size_lem f) in
        let b = f.low in
        let p₆ = beside l (heads_at f) n b (low_at f) (n + b) _ _ heads-again low_again refl refl in
        let p₅ = beside l first_at w (n + b) (heads_at f) (w + (n + b)) _ _ first-again p₆ refl refl in
        let p₄ = beside l total_at word (w + (n + b)) first_at (word + (w + (n + b))) _ _ total-again p₅ refl refl in
        let p₃ = beside l length_at length_size (word + (w + (n + b))) total_at (length_size + (word + (w + (n + b)))) _ _ (head-part length_at length_size _ (omega arith) frame.rests) p₄ refl refl in
        let p₂ = beside l 0 length_at (length_size + (word + (w + (n + b)))) length_at (records_at_lem f) _ _ (head-part 0 length_at _ (omega arith) frame.versions) p₃ refl (omega arith) in
        let p₁ = beside l 0 (records_at_lem f) (record_size_lem f * f.records) (records_at_lem f + record_size_lem f * 0) (image_size_lem f) _ _ p₂ rest (omega arith) refl in
        p₁ ∙ take_all (image_size_lem f) l (omega arith)
