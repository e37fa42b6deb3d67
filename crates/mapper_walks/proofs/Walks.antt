-- The promise: in the arena that an accepted map leaves, mapped addresses translate as asked and all others as before. Assumes nothing.
use mathlib.Core.Path.{◌≡◌, refl, sym, ◌∙◌, ap, subst, fun_ext}
use mathlib.Core.Bool.{Bool, true, false, not, cond, ◌||◌}
use mathlib.Core.List.{List}
use Prim.Native.Nat.{ℕ, ◌+◌, ◌*◌, ◌/◌, ◌%◌, ◌^◌, ◌<◌}
use native.Mathlib.Omega.{arith}
use native.Mathlib.Nat.{zero-add, le_refl}
use lib.Dec.{T, eqb, eqb→eq}
use lib.ListN.{length}
use Rattle.rules.specs.Rules.{Book, free_at}
use Rattle.rules.specs.Sound.{Sound}
use Rattle.pool_state.specs.Shown.{pool}
use Rattle.pool_state.specs.Sound.{book_of}
use Rattle.image_parts.specs.Layout.{current}
use Rattle.image_reading.specs.Reading.{state_in_lem}
use Rattle.mapper_rules.specs.Walk.{span, walk, top_height, top_table}
use Rattle.mapper_rules.specs.Numbers.{unaligned, top_entries, bad_registers_lem, bad_range_lem, bad_numbers_lem}
use Rattle.mapper_laws.specs.declared.Mapping.{Mapping}
use Rattle.mapper_laws.specs.Tree.{Entry, memory, page_of, sum, some, tables, In, Once}
use Rattle.mapper_laws.specs.Mapping.{mapping_of, in_range, asked, wants, blocked, mapped}
use Rattle.mapper_laws.specs.Arena.{shows}
use Rattle.mapper_laws.specs.Stores.{Stored, steps, store}
use Rattle.mapper_laws.specs.Promise as words
use Rattle.mapper_laws.specs.Promise.{entry_at_lem, top_pages, tables_below, reached, Outside, wanted, Fit, Maps}
use Rattle.mapper_laws.proofs.Tests.{not-or-l, not-or-r, not-not}
use Rattle.mapper_laws.proofs.Apart.{Has}
use Rattle.mapper_laws.proofs.Once.{in-l, in-r, in-joined, has_in}
use Rattle.mapper_laws.proofs.Asked as numbers
use Rattle.mapper_laws.proofs.Translated.{leaf-ends}
use Rattle.mapper_laws.proofs.Maps as laws
use Rattle.mapper_pages.specs.Pages.{supply, taken, wants_in}
use Rattle.mapper_stores.specs.Stores as lent
use Rattle.mapper_tables.specs.declared.Top.{Top}
use Rattle.mapper_lies.specs.Lies.{top_of, top_byte_lem, lies}
use Rattle.mapper_supply.specs.Supply.{image_after, page_at, Handed}
use Rattle.mapper_supply.proofs.Taking.{book_after, less-after}
use Rattle.mapper_supply.proofs.Reading.{Reads, read_first}
use Rattle.mapper_supply.proofs.Pages.{each-had, read-after, gone-after}
use Rattle.mapper_supply.proofs.Handed.{handed}
use Rattle.mapper.specs.Maps.{Left, in_the_way, stored, map_over}
use Rattle.mapper_walks.specs.Promise.{Mapped, Promised}
use Rattle.mapper_walks.proofs.Lent.{Inside, Whole, Shows, stores-show}
use Rattle.mapper_walks.proofs.Whole.{whole-page, handed-small, handed-whole, leaf-small}
use Rattle.mapper_walks.proofs.Right.{Right, Lies, book-read, lies→, lies←}
use Rattle.mapper_walks.proofs.Still.{still}
use Rattle.mapper_walks.proofs.Accepted.{Accepted, accepted}

module _ (base vttbr vtcr output input size : ℕ) (readable writable : Bool) (l A : List ℕ) (ok : Accepted base vttbr vtcr output input size readable writable l A) where
  abbrev q : Mapping
  q = mapping_of output input size readable writable

  abbrev b : ℕ
  b = base / 8

  abbrev word : ℕ → ℕ
  word = shows b A

  abbrev t : Top
  t = top_of vttbr vtcr

  abbrev H : ℕ
  H = top_height vtcr

  abbrev m : ℕ
  m = top_entries vtcr

  abbrev first : ℕ
  first = top_table vttbr / 8

  abbrev page : ℕ → ℕ
  page = page_at l

  abbrev N : ℕ
  N = wanted q word vttbr vtcr

  abbrev f : ℕ → Entry
  f j = entry_at_lem word vttbr vtcr j

  aligned : base % 4096 ≡ 0
  unfolding bad_numbers_lem
  aligned = eqb→eq (base % 4096) 0 (not-not (eqb (base % 4096) 0) (not-or-l (unaligned base) (bad_range_lem vtcr output input size) (not-or-r (bad_registers_lem vttbr vtcr) (unaligned base || bad_range_lem vtcr output input size) ok.numbers)))

  abbrev is-asked : numbers.Asked vttbr vtcr output input size readable writable
  is-asked = numbers.asked base vttbr vtcr output input size readable writable ok.numbers

  lying : T (lies base t l A)
  lying = not-not (lies base t l A) ok.lying

  lain : Lies base t l A
  lain = lies→ base t l A lying

  table-whole : (p : ℕ) → In p (reached word vttbr vtcr) → Whole b (length A) l p
  unfolding tables_below
  table-whole p i = let w = lain.right.within p i in whole-page base (length A) l p aligned w.0 w.1

  -- ---- blocks and pages: the entries begin at 0 + j * span H

  clear : T (not (words.in_the_way q word vttbr vtcr))
  unfolding in_the_way words.in_the_way
  clear = subst (λ (g : ℕ → Bool). T (not (some m g))) (fun_ext (λ j. ap (λ (e : ℕ). blocked q H e (f j)) (zero-add (j * span H)))) ok.clear

  counted : wants_in q b A false H 0 first m ≡ N
  unfolding wanted
  counted = ap (sum m) (fun_ext (λ j. ap (λ (e : ℕ). wants q H e (f j)) (zero-add (j * span H))))

  enough : T (taken N (supply true l)).enough
  enough = subst (λ (k : ℕ). T (taken k (supply true l)).enough) counted (not-not (taken (wants_in q b A false H 0 first m) (supply true l)).enough ok.enough)

  pages : Handed base t l A N
  pages = handed base t l A N lying enough

  small : (k : ℕ) → k < N → page k < 2 ^ 48
  small k h = handed-small base (length A) (page k) (pages.high k h)

  fit : Fit q word vttbr vtcr page
  unfolding tables_below
  fit = record {
    registers = is-asked.registers;
    sane = is-asked.sane;
    inside = is-asked.inside;
    unblocked = clear;
    whole = pages.whole;
    below = small;
    once = pages.once;
  }

  -- ---- what lies in the arena

  abbrev start : Stored
  start = record { word = word; handed = 0 }

  top-inside : (j : ℕ) → j < m → Inside b (length A) l (first + j)
  top-inside j h =
      let p = (first + j) / 512 in
      let w = table-whole p (in-l p (top_pages vttbr vtcr) (tables_below word vttbr vtcr) (laws.own-page q word vttbr vtcr page fit j h)) in
      let low = w.0 in
      let high = w.1 in
      (omega arith, omega arith)

  below-whole : (j : ℕ) → j < m → (p : ℕ) → Has page_of H (f j) p → Whole b (length A) l p
  unfolding tables_below
  below-whole j h p g = table-whole p (in-r p (top_pages vttbr vtcr) (tables_below word vttbr vtcr) (in-joined m (λ j. tables page_of H (f j)) j p h (has_in page_of H (f j) p g)))

  -- ---- the stores, side by side

  abbrev done : lent.Held
  done = stored q b t l A

  abbrev stores : Stored
  stores = steps m (λ j. store q page page_of H (0 + j * span H) (first + j)) start

  side_by_side : Shows b (length A) l done stores
  unfolding stored image_after
  side_by_side =
      stores-show b (length A) l q N (laws.words q word vttbr vtcr page fit) (laws.pages q word vttbr vtcr page fit).once (leaf-ends q) (leaf-small q is-asked.sane) small
      (λ k h. handed-whole base (length A) l (page k) aligned (pages.whole k h) (pages.low k h) (pages.high k h))
      H 0 first m (λ x. In x (top_pages vttbr vtcr)) (lent.held A l) start f (laws.the-table q word vttbr vtcr page fit) top-inside below-whole
      (record { words = λ w. refl; many = refl; image = refl })

  abbrev after : Stored
  after = words.after q word vttbr vtcr page

  same-words : after.word ≡ shows b done.arena
  same-words = ap (λ (s : Stored). s.word) (sym (laws.after_is q word vttbr vtcr page fit)) ∙ sym (fun_ext side_by_side.words)

  abbrev maps : Maps q word vttbr vtcr page
  maps = laws.maps q word vttbr vtcr page fit

  abbrev whole : Left
  whole = map_over base vttbr vtcr output input size readable writable l A

  -- ---- all lies right again

  abbrev book : Book
  book = book_of pool (state_in_lem current l)

  abbrev left-book : Book
  left-book = book_after pool N book

  first_read : Reads book l
  first_read = read_first l lain.reads

  last-read : Reads left-book (image_after N l)
  last-read = read-after book l first_read N (each-had N l enough) N (le_refl N)

  less : (x : ℕ) → T (free_at left-book x) → T (free_at book x)
  unfolding book_after
  less x y = less-after pool book first_read.sound 0 N x (subst (λ (k : ℕ). T (free_at (book_after pool k book) x)) (let e : N ≡ N + 0 = omega arith in e) y)

  right-then : Right base (top_byte_lem base (length A)) left-book (reached after.word vttbr vtcr)
  unfolding tables_below
  right-then = still q word vttbr vtcr page fit maps base (top_byte_lem base (length A)) book left-book last-read.sound less
      (λ k h i small t. gone-after book l first_read N (each-had N l enough) k h i small t) pages.low pages.high lain.right

  lies-then : T (lies base t (image_after N l) done.arena)
  unfolding tables_below
  lies-then =
      let known = book-read left-book (image_after N l) last-read in
      lies← base t (image_after N l) done.arena (subst (Sound pool) (sym known.1) last-read.sound) (record {
        low = lain.low;
        reads = known.0;
        right = rw (known.1, side_by_side.many) (subst (λ (v : ℕ → ℕ). Right base (top_byte_lem base (length A)) left-book (reached v vttbr vtcr)) same-words right-then);
      })

  all-mapped : Mapped base vttbr vtcr output input size readable writable l A
  all-mapped =
      let at : whole.words ≡ done.arena = ap (λ (r : Left). r.words) ok.left_is in
      let bytes : whole.bytes ≡ image_after N l = ap (λ (r : Left). r.bytes) ok.left_is ∙ side_by_side.image
      ∙ ap (λ (s : Stored). image_after s.handed l) (laws.after_is q word vttbr vtcr page fit) ∙ ap (λ (k : ℕ). image_after k l) maps.handed in
      let shown : after.word ≡ shows b whole.words = same-words ∙ ap (shows b) (sym at) in
      record {
        translated = λ x. subst (λ (v : ℕ → ℕ). walk (memory v) vttbr vtcr x ≡ cond (in_range q x) (asked q x) (walk (memory word) vttbr vtcr x)) shown (maps.translated x);
        tree = λ j h. subst (λ (v : ℕ → ℕ). entry_at_lem v vttbr vtcr j ≡ mapped q page H (j * span H) (words.before q word vttbr vtcr j) (f j)) shown (maps.tree j h);
        same_length = ap length at ∙ side_by_side.many;
        frame = subst (λ (v : ℕ → ℕ). (w : ℕ) → Outside v vttbr vtcr w → v w ≡ word w) shown maps.frame;
        once = subst (λ (v : ℕ → ℕ). Once (reached v vttbr vtcr)) shown maps.once;
        taken = bytes;
        lies-right = rw (bytes, at) lies-then;
      }

pub promised : (base vttbr vtcr output input size : ℕ) (readable writable : Bool) (l A : List ℕ) → Promised base vttbr vtcr output input size readable writable l A
promised base vttbr vtcr output input size readable writable l A e =
    all-mapped base vttbr vtcr output input size readable writable l A (accepted base vttbr vtcr output input size readable writable l A e)
