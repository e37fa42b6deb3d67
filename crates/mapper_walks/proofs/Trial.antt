-- An accepted map can be had: the one free page becomes a table, and an input is translated. Assumes nothing.
use mathlib.Core.Path.{◌≡◌, refl, ◌∙◌, ap}
use mathlib.Core.Bool.{true, false, not}
use mathlib.Core.List.{List, [], ◌∷◌}
use Prim.Native.Nat.{ℕ, ◌/◌}
use lib.Dec.{T}
use lib.IntN.{pos}
use lib.ListN.{length, replicate}
use native.Mathlib.Omega.{arith}
use borrow.Author.Tests.{eq-eqb, le-leb}
use Rattle.rules.specs.Rules.{Range, Book, range, empty, sum, total, before, without, put, remove, any, find, lowest, unused, up, taken, joined, given, refuse, allocate_from, allocate, free, Free, step}
use Rattle.rules_laws.proofs.Kept.{empty-sound}
use Rattle.rules_laws.proofs.Steps.{step-sound}
use Rattle.rules_laws.proofs.Lists.{T_true, T_false}
use Rattle.pool_state.specs.Shown.{pool}
use Rattle.pool_state.specs.State.{state_of}
use Rattle.pool_state.specs.Sound.{book_of}
use Rattle.account_calls.proofs.Steps.{sound-held}
use Rattle.image_parts.specs.Layout.{current, image_size_lem}
use Rattle.image_parts.proofs.Lawful.{lawful-current, figured-current, small-pool}
use Rattle.image_writing.specs.Writing.{image_of}
use Rattle.image_reading.specs.Reading.{framed, state_in_lem, account_in, readable}
use Rattle.image.proofs.Rounds.{read_same}
use Rattle.image.proofs.Ways.{framed-frame}
use Rattle.image_parts.proofs.Loops.{both}
use Rattle.account_state.specs.Account.{account, is_sound_lem}
use Rattle.rules_lowest.specs.Lowest.{low_sound}
use Rattle.image_calls.specs.Lists.{Returned, finished}
use Rattle.mapper_rules.specs.Walk.{span, Translation, Fault, To, walk_from, walk}
use Rattle.mapper_rules.specs.Numbers.{bad_level_lem, top_bytes_lem, bad_registers_lem, bad_range_lem, bad_numbers_lem}
use Rattle.mapper_laws.specs.declared.Mapping.{Mapping}
use Rattle.mapper_laws.specs.Tree.{memory, leads_to, tables}
use Rattle.mapper_laws.specs.Tree as tree
use Rattle.mapper_laws.specs.Marks.{fine}
use Rattle.mapper_laws.specs.Mapping.{permission_of_lem, mapping_of, asked_attributes, wants, blocked}
use Rattle.mapper_laws.specs.Arena.{shows}
use Rattle.mapper_free.specs.Free.{chain_in, every}
use Rattle.mapper_tables.specs.declared.Top.{Top}
use Rattle.mapper_tables.specs.Apart.{inside_all, apart}
use Rattle.mapper_lies.specs.Lies.{top_of, top_byte_lem, free_lies, tables_lie, lies}
use Rattle.mapper_pages.specs.Pages.{page_from}
use Rattle.mapper_pages.specs.Pages as pages
use Rattle.mapper_supply.proofs.Reading.{Reads, door}
use Rattle.mapper.specs.Maps.{in_the_way, tried, map_over}
use Rattle.mapper.specs.Maps as map
use Rattle.mapper_walks.specs.Promise.{Mapped}
use Rattle.mapper_walks.proofs.Right.{book-read}
use Rattle.mapper_walks.proofs.Walks.{promised}

-- ---- an allocator with one free page

abbrev book : Book
book = (step pool (Free 0x40001000 4096) empty).book

abbrev page : Range
page = range 0 0x40001000 0x40001fff

is-book : book ≡ record { chain = page ∷ []; shelf = page ∷ [] }
unfolding before any find lowest unused joined given put refuse free step
is-book = refl

-- ---- over any bytes that hold it, and two pages, the top table and the free one: 0x1000 to 0x80000000

abbrev q : Mapping
q = mapping_of 0x80000000 0x1000 0x1000 true false

abbrev A : List ℕ
A = replicate 1024 0

abbrev top : Top
top = top_of 0x40000000 0x27

module _ (l : List ℕ) (r : Reads book l) where
  known : (readable current l ≡ true) × (book_of pool (state_in_lem current l) ≡ book)
  known = book-read book l r

  chain-is : chain_in l ≡ page ∷ []
  chain-is = ap (λ (b : Book). b.chain) (known.1 ∙ is-book)

  lying : T (lies 0x40000000 top l A)
  unfolding lies free_lies tables_lie top_byte_lem top_bytes_lem span every apart inside_all fine tree.joined tree.some tables leads_to
  lying = rw (known.0, chain-is) tt

  long : length l ≡ image_size_lem current
  long = (framed-frame current l (both (framed current l) (is_sound_lem pool (account_in current l)) known.0).0).sized

  page-had : (page_from l).number ≡ pos 0x40001000
  unfolding finished sum before without remove any find lowest unused up taken joined given put refuse allocate_from allocate free step
  page-had = ap (λ (x : Returned). x.number) (door book l r)

  enough : T (tried q (0x40000000 / 8) top l A).enough
  unfolding tried pages.taken pages.asked tree.sum wants leads_to span permission_of_lem
  enough = rw page-had tt

  clear : T (not (in_the_way q (0x40000000 / 8) top A))
  unfolding in_the_way tree.some blocked leads_to span permission_of_lem
  clear = tt

  good : T (not (bad_numbers_lem 0x40000000 0x40000000 0x27 0x80000000 0x1000 0x1000))
  unfolding bad_numbers_lem bad_registers_lem bad_level_lem bad_range_lem top_bytes_lem span
  good = tt

  number_is : (map_over 0x40000000 0x40000000 0x27 0x80000000 0x1000 0x1000 true false l A).number ≡ pos 0
  unfolding map_over map.refuse map.finished
  number_is = rw (
    eq-eqb (length l) (image_size_lem current) long,
    T_false (bad_numbers_lem 0x40000000 0x40000000 0x27 0x80000000 0x1000 0x1000) good,
    T_true (lies 0x40000000 top l A) lying,
    T_false (in_the_way q (0x40000000 / 8) top A) clear,
    T_true (tried q (0x40000000 / 8) top l A).enough enough,
  )

-- ---- so 0x1234 is translated to 0x80000234, readable, and 0x2234 faults as before

abbrev image : List ℕ
image = image_of current (account (state_of pool book) 0)

reads : Reads book image
reads = let s = step-sound pool empty (Free 0x40001000 4096) (empty-sound pool) in
    let f : low_sound (total book) 0 ≡ true = rw (le-leb 0 (total book) (omega arith)) in
    record { sound = s; low = 0; fits = f; reads = read_same current figured-current (account (state_of pool book) 0) (sound-held pool (small-pool current lawful-current) book 0 s f) }

abbrev translation : ℕ → Translation
translation = walk (memory (shows (0x40000000 / 8) (map_over 0x40000000 0x40000000 0x27 0x80000000 0x1000 0x1000 true false image A).words)) 0x40000000 0x27

abbrev mapped : Mapped 0x40000000 0x40000000 0x27 0x80000000 0x1000 0x1000 true false image A
mapped = promised 0x40000000 0x40000000 0x27 0x80000000 0x1000 0x1000 true false image A (number_is image reads)

pub translates : translation 0x1234 ≡ To 0x80000234 (asked_attributes 1)
unfolding permission_of_lem
translates = mapped.translated 0x1234

pub faults : translation 0x2234 ≡ Fault
unfolding walk walk_from span
faults = mapped.translated 0x2234
