-- An entry written over another in an image: all else stands. Assumes nothing.
use Prim.Native.Nat.{ℕ, ◌+◌, ◌-◌, ◌*◌, ◌≤◌, ◌<◌}
use mathlib.Core.Bool.{Bool, true, false}
use mathlib.Core.List.{List, ◌++◌}
use mathlib.Core.Logic.{◌≢◌, ◌⊎◌, inl, inr}
use mathlib.Core.Path.{◌≡◌, refl, sym, ap, ◌∙◌}
use native.Mathlib.Nat.{zero-add}
use native.Mathlib.Omega.{arith}
use lib.Dec.{ltb}
use borrow.Author.Tests.{ltb-true, ltb-false}
use lib.ListN.{length, get_or, set, take, drop, length-drop, take-append-drop}
use lib.Seq.{take_at, drop_at, drop-drop, drop-append-le, take-append-le, take-add, take-take, length-take-le, get_or-set_same, get_or-set_other}
use borrow.Rule.Slice.PartMut.{put_mid, drop_put}
use Rattle.bytes_be.specs.Numbers.{be, Bytes}
use Rattle.linked_lists.specs.Links.{tab}
use Rattle.linked_lists.proofs.Laws.{same?, length-tab, get_or-tab}
use Rattle.image_parts.specs.Layout.{Layout, length_at, length_size}
use Rattle.image_parts.proofs.Places.{again, beside, joined-take}
use Rattle.holder_rules.specs.Register.{entries, blank}
use Rattle.holder_rules.specs.Holders.{both}
use Rattle.holder_rules.specs.declared.Entry.{Entry}
use Rattle.holder_image.specs.Layout.{entries_at, entry_size, memory_at}
use Rattle.holder_image.specs.Bytes.{entry_bytes, entries_bytes, front_bytes_lem, bytes_of_lem, entry_at_lem, register_in_lem, memory_in, headed}
use Rattle.holder_image.proofs.Parts.{length-entry}
use Rattle.holder_image.proofs.Rounds.{headed-length, head-told, entry-again}

-- ---- a part of w bytes from at on, written over

module _ (l y : List ℕ) (at w : ℕ) (ly : length y ≡ w) (room : at + w ≤ length l) where
  abbrev l' : List ℕ
  l' = put_mid at (at + w - at) l y

  front-size : length (take at l) ≡ at
  front-size = length-take-le at l (omega arith)

  -- k bytes from a on, all before the part
  before : (a k : ℕ) → a + k ≤ at → take k (drop a l') ≡ take k (drop a l)
  before a k h =
      let n = front-size in
      let m = at - a in
      let s : at ≡ a + m = omega arith in
      let d = length-drop a (take at l) in
      ap (take k) (drop-append-le a (take at l) _ (omega arith)) ∙ take-append-le k (drop a (take at l)) _ (omega arith)
      ∙ ap (λ (z : List ℕ). take k (drop a z)) (ap (λ (j : ℕ). take j l) s ∙ take-add a m l)
      ∙ ap (take k) (drop_at (take a l) (take m (drop a l)) a (length-take-le a l (omega arith)))
      ∙ take-take k m (drop a l) (omega arith)

  here : take w (drop at l') ≡ y
  here = ap (take w) (drop_at (take at l) _ at front-size) ∙ take_at y _ w ly

  after : (a : ℕ) → at + w ≤ a → drop a l' ≡ drop a l
  after a h =
      let d = a - (at + w) in
      let s : at + w + d ≡ a = omega arith in
      ap (λ (j : ℕ). drop j l') (sym s) ∙ sym (drop-drop d (at + w) l')
      ∙ ap (drop d) (drop_put at (at + w) l y (omega arith) room (let e : w ≡ at + w - at = omega arith in ly ∙ e))
      ∙ drop-drop d (at + w) l ∙ ap (λ (j : ℕ). drop j l) s

-- ---- the part of entry i

either : (k i : ℕ) → k ≢ i → (k < i) ⊎ (i < k)
either k i d = go (ltb k i) refl
  where
    go : (t : Bool) → ltb k i ≡ t → (k < i) ⊎ (i < k)
    go true e = inl (ltb-true k i e)
    go false e = inr (let g = ltb-false k i e in omega arith)

module _ (f : Layout) (l : List ℕ) (bytes : Bytes l) (h : headed f l ≡ true) (i : ℕ) (b : i < entries) (e : Entry) (y : List ℕ) (is : y ≡ entry_bytes e) where
  abbrev at : ℕ
  at = entries_at + entry_size * i

  abbrev now : List ℕ
  now = put_mid at (at + entry_size - at) l y

  abbrev next : List Entry
  next = set (register_in_lem l) i e

  sized : length y ≡ entry_size
  sized = ap length is ∙ length-entry e

  room : at + entry_size ≤ length l
  room = let n = headed-length f l bytes h in omega arith

  same-entry : (k : ℕ) → k < entries → k ≢ i → take entry_size (drop (entries_at + entry_size * k) now) ≡ take entry_size (drop (entries_at + entry_size * k) l)
  same-entry k g d = elim (either k i d) [
    | inl lower ↦ before l y at entry_size sized room (entries_at + entry_size * k) entry_size (omega arith)
    | inr higher ↦ ap (take entry_size) (after l y at entry_size sized room (entries_at + entry_size * k) (omega arith))
  ]

  entry-now : (k : ℕ) → k < entries → entry_bytes (get_or next k blank) ≡ take entry_size (drop (entries_at + entry_size * k) now)
  unfolding register_in_lem
  entry-now k g =
      let n = length-tab entries 0 (entry_at_lem l) in
      elim (same? k i) [
        | inl d ↦ rw d (ap entry_bytes (get_or-set_same (tab entries 0 (entry_at_lem l)) i e blank (omega arith)) ∙ sym is ∙ sym (here l y at entry_size sized room))
        | inr d ↦ ap entry_bytes (get_or-set_other (tab entries 0 (entry_at_lem l)) i k e blank d ∙ get_or-tab entries 0 k (entry_at_lem l) blank g ∙ ap (entry_at_lem l) (zero-add k))
            ∙ entry-again f l bytes h k g ∙ sym (same-entry k g d)
      ]

  front-now : front_bytes_lem f next ≡ take memory_at (drop 0 now)
  unfolding front_bytes_lem entries_bytes
  front-now =
      let n = headed-length f l bytes h in
      let told = head-told f l bytes h in
      let v = ap (be length_at) (sym told.1) ∙ again l 0 length_at bytes (omega arith) ∙ sym (before l y at entry_size sized room 0 length_at (omega arith)) in
      let t = ap (be length_size) (sym told.2) ∙ again l length_at length_size bytes (omega arith) ∙ sym (before l y at entry_size sized room length_at length_size (omega arith)) in
      let r = joined-take (λ k. entry_bytes (get_or next k blank)) now entries_at entry_size entries 0 (λ k g. entry-now k (omega arith)) in
      beside now 0 length_at (length_size + entry_size * entries) length_at memory_at _ _ v
      (beside now length_at length_size (entry_size * entries) entries_at (length_size + entry_size * entries) _ _ t r (omega arith) (omega arith)) (omega arith) (omega arith)

  -- the image of the register with that entry, above the same allocator
  pub entry-put : now ≡ bytes_of_lem f (both (memory_in l) next)
  unfolding bytes_of_lem
  entry-put =
      let p = sym front-now in
      let q = after l y at entry_size sized room memory_at (omega arith) in
      sym (take-append-drop memory_at now) ∙ (λ j. p j ++ q j)
