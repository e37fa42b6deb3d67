-- What the definitions give on each way through the code, over any layout. Assumes nothing.
use Rattle.std.specs.Prelude.{Ok, Err}
use mathlib.Core.Path.{◌≡◌, refl, sym, ap, subst, ◌∙◌}
use mathlib.Core.Bool.{Bool, true, false, cond, ◌&&◌}
use mathlib.Core.List.{List}
use Prim.Native.Nat.{ℕ, ◌+◌, ◌≤◌}
use lib.Dec.{eqb}
use lib.ListN.{length}
use borrow.Author.Tests.{eq-eqb, ne_eqb, eqb-true}
use Rattle.linked_lists.specs.Links.{none}
use Rattle.rules.specs.Rules.{Book, empty}
use Rattle.rules_laws.proofs.Kept.{empty-sound}
use Rattle.pool_state.specs.Shown.{pool}
use Rattle.pool_state.specs.State.{state_of}
use Rattle.pool_state.proofs.Book.{book-back}
use Rattle.rules_lowest.specs.Lowest.{never}
use Rattle.account_state.specs.Account.{account, opened, is_sound_lem}
use Rattle.account_state.specs.declared.Account.{Account}
use Rattle.image_parts.specs.Layout.{Layout, Housed, current, length_at, length_size, records_at_lem, enabled_at, record_size_lem, image_size_lem, rest_size}
use Rattle.image_writing.specs.Writing.{image_of}
use Rattle.image.specs.Writing.{written, writing_of, invalid}
use Rattle.image_parts.specs.Read.{number_in, bits}
use Rattle.image_parts.proofs.Loops.{both}
use Rattle.image_reading.specs.Reading.{framed, account_in, readable, grown, ReadsAccount}
use Rattle.image_parts.proofs.Lawful.{small-pool, housed-of}
use Rattle.image.specs.Reading.{Handed, handed, accepted, refused, reading_of, layout_in, reading_any}

-- ---- writing

module _ (f : Layout) (s : Account) (l : List ℕ) where
  pub wrong-length : (length l ≡ image_size_lem f → ⊥) → written (Err invalid) l ≡ writing_of f s l
  unfolding writing_of
  wrong-length h = rw (ne_eqb (length l) (image_size_lem f) h)

  module _ (h : length l ≡ image_size_lem f) (t : Bool) (e : t ≡ is_sound_lem f.records s) where
    pub unsound : t ≡ false → written (Err invalid) l ≡ writing_of f s l
    unfolding writing_of
    unsound off = rw (eq-eqb (length l) (image_size_lem f) h, ← e, off)

    pub done : (l' : List ℕ) → t ≡ true → l' ≡ image_of f s → written (Ok tt) l' ≡ writing_of f s l
    unfolding writing_of
    done l' on is = rw (eq-eqb (length l) (image_size_lem f) h, ← e, on, is)

-- ---- reading

-- the tests of the frame, one by one
pub record Frame (f : Layout) (l : List ℕ) : Type 0 where
  pub sized : length l ≡ image_size_lem f
  pub versions : number_in l 0 length_at ≡ f.version
  pub rests : number_in l length_at length_size ≡ rest_size f
  pub flags : bits l (records_at_lem f + enabled_at) (record_size_lem f) f.records 0 ≡ true

module _ (f : Layout) (l : List ℕ) where
  pub framed-not : (length l ≡ image_size_lem f → ⊥) → false ≡ framed f l
  unfolding framed
  framed-not h = rw (ne_eqb (length l) (image_size_lem f) h)

  module _ (h : length l ≡ image_size_lem f) (v : ℕ) (ev : v ≡ number_in l 0 length_at) where
    module _ (on : v ≡ f.version) (r : ℕ) (er : r ≡ number_in l length_at length_size) where
      pub framed-bits : (b : Bool) → r ≡ rest_size f → b ≡ bits l (records_at_lem f + enabled_at) (record_size_lem f) f.records 0 → b ≡ framed f l
      unfolding framed
      framed-bits b same e = rw (eq-eqb (length l) (image_size_lem f) h, ← ev, eq-eqb v f.version on, ← er, eq-eqb r (rest_size f) same, ← e)

  pub framed-frame : framed f l ≡ true → Frame f l
  unfolding framed
  framed-frame e =
      let p = both (eqb (length l) (image_size_lem f)) _ e in
      let q = both (eqb (number_in l 0 length_at) f.version) _ p.1 in
      let r = both (eqb (number_in l length_at length_size) (rest_size f)) _ q.1 in
      record { sized = eqb-true _ _ p.0; versions = eqb-true _ _ q.0; rests = eqb-true _ _ r.0; flags = r.1 }

  pub frame-framed : Frame f l → true ≡ framed f l
  frame-framed h = framed-bits h.sized _ refl h.versions _ refl true h.rests (sym h.flags)

  module _ (b : Bool) (eb : b ≡ framed f l) where
    pub unframed : b ≡ false → refused f ≡ reading_of f l
    unfolding reading_of
    unframed off = rw (← eb, off)

    module _ (on : b ≡ true) (s : Account) (es : s ≡ account_in f l) (t : Bool) (et : t ≡ is_sound_lem f.records s) where
      pub read_done : t ≡ true → accepted s ≡ reading_of f l
      unfolding reading_of
      read_done is =
          let frames : framed f l ≡ true = sym eb ∙ on in
          let passes : is_sound_lem f.records (account_in f l) ≡ true = ap (λ (x : Account). is_sound_lem f.records x) (sym es) ∙ sym et ∙ is in
          let reads : readable f l ≡ true = (λ z. frames z && passes z) in
          ap accepted es ∙ sym (ap (λ (c : Bool). cond {A = Handed} c (accepted (account_in f l)) (refused f)) reads)

  -- by what was told of the bytes as a whole
  module _ (r : Bool) (told : r ≡ readable f l) where
    pub unread : r ≡ false → refused f ≡ reading_of f l
    unfolding reading_of
    unread off = rw (← told, off)

    pub read_whole : r ≡ true → (s : Account) → s ≡ account_in f l → accepted s ≡ reading_of f l
    unfolding reading_of
    read_whole on s es = rw (← told, on, ← es)

-- ---- of any version

-- the empty state grows to the empty state
empty-grows : (n m : ℕ) → n ≤ none → grown n m (opened n) ≡ opened m
empty-grows n m small = ap (λ (b : Book). account (state_of m b) never) (book-back n small empty (empty-sound n))

pub housed-told : (f : Layout) (l : List ℕ) → f ≡ layout_in l → Housed f
housed-told f l e = subst Housed (sym e) (housed-of (number_in l 0 length_at))

-- what was read by the layout of the bytes
pub by-told : (f : Layout) (l : List ℕ) (r : Bool) (s : Account) → f ≡ layout_in l → ReadsAccount pool f l r s → ReadsAccount pool (layout_in l) l r s
by-told f l r s e h = subst (λ (x : Layout). ReadsAccount pool x l r s) e h

module _ (l : List ℕ) (r : Bool) (told : r ≡ readable (layout_in l) l) where
  abbrev f : Layout
  f = layout_in l

  pub any-unread : r ≡ false → refused current ≡ reading_any l
  unfolding reading_any
  any-unread off =
      let e = unread f l r told off in
      rw (← e) (ap (handed (Err invalid)) (sym (empty-grows f.records pool (small-pool f (housed-of (number_in l 0 length_at)).lawful))))

  pub any-read : r ≡ true → (s : Account) → s ≡ grown f.records pool (account_in f l) → accepted s ≡ reading_any l
  unfolding reading_any
  any-read on s es =
      let e = read_whole f l r told on (account_in f l) refl in
      rw (← e) (ap (handed (Ok tt)) es)
