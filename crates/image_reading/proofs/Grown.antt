-- A state of n records that is filled up to m: it is sound where the one of n is, and then it holds the same book. Assumes nothing.
use mathlib.Core.Path.{◌≡◌, refl, sym, ◌∙◌, ap, subst}
use mathlib.Core.Bool.{Bool, true, false}
use mathlib.Core.List.{List}
use mathlib.Core.Logic.{◌≢◌, ⊎_elim}
use Prim.Native.Nat.{ℕ, ◌≤◌, ◌<◌}
use native.Mathlib.Omega.{arith}
use lib.ListN.{length, get_or}
use lib.Seq.{ext_get_or}
use Rattle.linked_lists.specs.Links.{none, Fresh}
use Rattle.linked_lists.proofs.Laws.{below?, true≢false, length-tab, after_none, before-none}
use Rattle.rules.specs.Rules.{Range, Book, of_list}
use Rattle.rules.specs.Sound.{In, Sound}
use Rattle.rules_laws.proofs.Shelf.{of_list-in}
use Rattle.pool_state.specs.Shown.{numbers, key_at}
use Rattle.pool_state.specs.State.{arrays, Holds, state_of}
use Rattle.pool_state.specs.Sound.{book_of, SoundState}
use Rattle.pool_state.specs.declared.MemoryAllocator.{MemoryAllocator}
use Rattle.pool_state.proofs.States.{at-tab, state-holds}
use Rattle.pool_state.proofs.Walks.{fresh-numbers}
use Rattle.pool_state.proofs.Book.{holds-sound, sound-holds}
use Rattle.check_state.specs.IsSound.{is_sound_lem}
use Rattle.check_meaning.specs.Paragraph.{Sized}
use Rattle.check_meaning.proofs.Exact.{sound-sized, sound-passes, passes-sound, state-passes}
use Rattle.image_records.specs.Records.{Filled}

-- p is s, filled up
pub record Grows (n m : ℕ) (s p : MemoryAllocator) : Type 0 where
  pub total : p.free_size ≡ s.free_size
  pub first : p.first_entry.0 ≡ s.first_entry.0
  pub heads : p.free_list ≡ s.free_list
  pub starts : Filled 0 0 (λ j. get_or s.start j 0) m n p.start
  pub ends : Filled 0 0 (λ j. get_or s.end j 0) m n p.end
  pub flags : Filled false false (λ j. get_or s.enabled j false) m n p.enabled
  pub previouses : Filled 0 none (λ j. get_or s.previous j 0) m n p.previous
  pub nexts : Filled 0 none (λ j. get_or s.next j 0) m n p.next
  pub lprevs : Filled 0 none (λ j. get_or s.list_prev j 0) m n p.list_prev
  pub lnexts : Filled 0 none (λ j. get_or s.list_next j 0) m n p.list_next

-- ---- books

pub wider : (n m : ℕ) (b : Book) → n ≤ m → Sound n b → Sound m b
wider n m b h s = record {
  good = λ r i. let g = s.good r i in let k = g.known in record { known = omega arith; proper = g.proper; below = g.below };
  apart = s.apart;
  once = s.once;
  sizes = s.sizes;
  once-shelf = s.once-shelf;
  same = s.same;
}

-- a book whose records are all below n
pub narrower : (n m : ℕ) (b : Book) → Sound m b → ((r : Range) → In r b.chain → r.number < n) → Sound n b
narrower n m b s low = record {
  good = λ r i. let g = s.good r i in record { known = low r i; proper = g.proper; below = g.below };
  apart = s.apart;
  once = s.once;
  sizes = s.sizes;
  once-shelf = s.once-shelf;
  same = s.same;
}

-- ---- the state of a sound book, with n records and with m

module _ (n m : ℕ) (le : n ≤ m) (b : Book) (sound : Sound n b) where
  abbrev small : MemoryAllocator
  small = state_of n b

  abbrev large : MemoryAllocator
  large = state_of m b

  holds : Holds m b large
  holds = state-holds m b (wider n m b le sound)

  module _ (i : ℕ) (past : n ≤ i) (bi : i < m) where
    other : (r : Range) → In r b.chain → i ≢ r.number
    other r k e = let g = (sound.good r k).known in omega arith

    off-chain : Fresh i (numbers b.chain)
    off-chain = fresh-numbers i b.chain other

    off_list : (k : ℕ) → Fresh i (numbers (of_list k b.shelf))
    off_list k = fresh-numbers i (of_list k b.shelf) (λ q j. other q ((sound.same q).1 (of_list-in k b.shelf q j)))

  pub book-grows : Grows n m small large
  unfolding state_of
  book-grows =
      let t = holds.shape in
      let key : ℕ → ℕ = key_at large.start large.end in
      record {
        total = refl;
        first = refl;
        heads = refl;
        starts = record { sized = length-tab m 0 _; done = λ j h. at-tab 0 m _ j (omega arith) ∙ sym (at-tab 0 n _ j h); rest = λ j a h. (t.kept.clear j h (other j a h)).0 };
        ends = record { sized = length-tab m 0 _; done = λ j h. at-tab 0 m _ j (omega arith) ∙ sym (at-tab 0 n _ j h); rest = λ j a h. (t.kept.clear j h (other j a h)).1 };
        flags = record { sized = length-tab m 0 _; done = λ j h. at-tab false m _ j (omega arith) ∙ sym (at-tab false n _ j h); rest = λ j a h. t.kept.marked.off j h (other j a h) };
        previouses = record {
          sized = length-tab m 0 _;
          done = λ j h. at-tab 0 m _ j (omega arith) ∙ sym (at-tab 0 n _ j h);
          rest = λ j a h. t.chained.threads.prevs j h ∙ before-none none j (numbers b.chain) (off-chain j a h);
        };
        nexts = record {
          sized = length-tab m 0 _;
          done = λ j h. at-tab 0 m _ j (omega arith) ∙ sym (at-tab 0 n _ j h);
          rest = λ j a h. t.chained.threads.nexts j h ∙ after_none j (numbers b.chain) (off-chain j a h);
        };
        lprevs = record {
          sized = length-tab m 0 _;
          done = λ j h. at-tab 0 m _ j (omega arith) ∙ sym (at-tab 0 n _ j h);
          rest = λ j a h. t.shelved.threads.prevs j h ∙ before-none none j (numbers (of_list (key j) b.shelf)) (off_list j a h (key j));
        };
        lnexts = record {
          sized = length-tab m 0 _;
          done = λ j h. at-tab 0 m _ j (omega arith) ∙ sym (at-tab 0 n _ j h);
          rest = λ j a h. t.shelved.threads.nexts j h ∙ after_none j (numbers (of_list (key j) b.shelf)) (off_list j a h (key j));
        };
      }

-- ---- one state grows to one, and one that has grown comes from one

module _ {A : Type 0} (e d : A) (m n : ℕ) where
  filled-one : (g : ℕ → A) (xs ys : List A) → Filled e d g m n xs → Filled e d g m n ys → xs ≡ ys
  filled-one g xs ys p q =
      let l = p.sized in
      ext_get_or e xs ys (l ∙ sym q.sized)
      (λ i b. ⊎_elim (λ (h : i < n). p.done i h ∙ sym (q.done i h)) (λ h. p.rest i h (omega arith) ∙ sym (q.rest i h (omega arith))) (below? i n))

  filled-from : (xs ys zs : List A) → length xs ≡ n → length ys ≡ n → Filled e d (λ j. get_or xs j e) m n zs → Filled e d (λ j. get_or ys j e) m n zs → xs ≡ ys
  filled-from xs ys zs lx ly p q = ext_get_or e xs ys (lx ∙ sym ly) (λ i b. sym (p.done i (omega arith)) ∙ q.done i (omega arith))

  pub filled-by : (g h : ℕ → A) (xs : List A) → ((j : ℕ) → j < n → g j ≡ h j) → Filled e d g m n xs → Filled e d h m n xs
  filled-by g h xs same p = record { sized = p.sized; done = λ j b. p.done j b ∙ same j b; rest = p.rest }

grows_one : (n m : ℕ) (s p q : MemoryAllocator) → Grows n m s p → Grows n m s q → p ≡ q
grows_one n m s p q g h =
    let e₁ = g.total ∙ sym h.total in
    let e₂ = g.first ∙ sym h.first in
    let e₃ = g.heads ∙ sym h.heads in
    let e₄ = filled-one _ _ m n _ _ _ g.starts h.starts in
    let e₅ = filled-one _ _ m n _ _ _ g.ends h.ends in
    let e₆ = filled-one _ _ m n _ _ _ g.flags h.flags in
    let e₇ = filled-one _ _ m n _ _ _ g.previouses h.previouses in
    let e₈ = filled-one _ _ m n _ _ _ g.nexts h.nexts in
    let e₉ = filled-one _ _ m n _ _ _ g.lprevs h.lprevs in
    let e₀ = filled-one _ _ m n _ _ _ g.lnexts h.lnexts in
    (λ z. arrays (e₁ z) (e₂ z) (e₃ z) (e₄ z) (e₅ z) (e₆ z) (e₇ z) (e₈ z) (e₉ z) (e₀ z))

grows_from : (n m : ℕ) (s t p : MemoryAllocator) → Sized n s → Sized n t → Grows n m s p → Grows n m t p → s ≡ t
grows_from n m s t p a b g h =
    let e₁ = sym g.total ∙ h.total in
    let e₂ = sym g.first ∙ h.first in
    let e₃ = sym g.heads ∙ h.heads in
    let e₄ = filled-from _ _ m n _ _ p.start a.start b.start g.starts h.starts in
    let e₅ = filled-from _ _ m n _ _ p.end a.end b.end g.ends h.ends in
    let e₆ = filled-from _ _ m n _ _ p.enabled a.enabled b.enabled g.flags h.flags in
    let e₇ = filled-from _ _ m n _ _ p.previous a.previous b.previous g.previouses h.previouses in
    let e₈ = filled-from _ _ m n _ _ p.next a.next b.next g.nexts h.nexts in
    let e₉ = filled-from _ _ m n _ _ p.list_prev a.list_prev b.list_prev g.lprevs h.lprevs in
    let e₀ = filled-from _ _ m n _ _ p.list_next a.list_next b.list_next g.lnexts h.lnexts in
    (λ z. arrays (e₁ z) (e₂ z) (e₃ z) (e₄ z) (e₅ z) (e₆ z) (e₇ z) (e₈ z) (e₉ z) (e₀ z))

-- ---- the check of one tells of the other

module _ (n m : ℕ) (le : n ≤ m) (most : m ≤ none) (s p : MemoryAllocator) (sized : Sized n s) (g : Grows n m s p) where
  -- what a sound state has grown to
  pub grown-state : SoundState n s → p ≡ state_of m (book_of n s)
  grown-state h = grows_one n m s p (state_of m (book_of n s)) g (subst (λ (t : MemoryAllocator). Grows n m t (state_of m (book_of n s))) h.state (book-grows n m le (book_of n s) h.book))

  up : SoundState n s → is_sound_lem m p ≡ true
  up h = rw (grown-state h) (state-passes m most (book_of n s) (wider n m (book_of n s) le h.book))

  wide : Sized m p
  wide = record {
    heads = ap length g.heads ∙ sized.heads;
    start = g.starts.sized;
    end = g.ends.sized;
    enabled = g.flags.sized;
    previous = g.previouses.sized;
    next = g.nexts.sized;
    list_prev = g.lprevs.sized;
    list_next = g.lnexts.sized;
  }

  module _ (h : SoundState m p) where
    abbrev book : Book
    book = book_of m p

    low : (r : Range) → In r book.chain → r.number < n
    low r i =
        ⊎_elim (λ (b : r.number < n). b)
        (λ b. true≢false (sym ((sound-holds m p h).shape.kept.marked.on r i) ∙ g.flags.rest r.number b (h.book.good r i).known))
        (below? r.number n)

    known : Sound n book
    known = narrower n m book h.book low

    held : SoundState n (state_of n book)
    held = holds-sound n (omega arith) book (state_of n book) (state-holds n book known)

    down : SoundState n s
    down =
        subst (SoundState n)
        (grows_from n m (state_of n book) s p (sound-sized n (omega arith) (state_of n book) held) sized (subst (Grows n m (state_of n book)) h.state (book-grows n m le book known)) g)
        held

  pub same-verdict : is_sound_lem m p ≡ is_sound_lem n s
  same-verdict = go (is_sound_lem m p) (is_sound_lem n s) refl refl
    where
      go : (a b : Bool) → is_sound_lem m p ≡ a → is_sound_lem n s ≡ b → a ≡ b
      go true true e f = refl
      go true false e f = sym (sound-passes n (omega arith) s (down (passes-sound m most p wide e))) ∙ f
      go false true e f = sym e ∙ up (passes-sound n (omega arith) s sized f)
      go false false e f = refl
