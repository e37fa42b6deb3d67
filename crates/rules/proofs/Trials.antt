-- The claims about the cases beside the ledger, by computation. Assumes nothing.
use mathlib.Core.Path.{◌≡◌, refl}
use mathlib.Core.List.{List, [], ◌∷◌, map}
use lib.Dec.{leb}
use Rattle.rules.specs.Rules.{top, records, size_lists, Range, size, listing, sum, total, before, without, put, remove, any, find, lowest, unused, least, list_number, down, up, free_at, taken, joined, given, refuse, allocate_from, allocate, reserve_from, reserve, free, Free, Allocate, Reserve, step, empty, last_covering, count, back, tally, of_list, lists}
use Rattle.rules.specs.Ledger.{bounds, play}
use Rattle.rules.specs.Trials.{Trial, shown, left, vouchers_of, placed, refusals, emptied, looked_on, small, bytes, is_free, by_book, by_vouchers, gone, returned, few, gone_free, returned_free, sizes, list_numbers, several}

abbrev Prints : List Trial → Type 0
Prints ts = map (λ (t : Trial). play t.records empty t.lines) ts ≡ map (λ (t : Trial). t.prints) ts

abbrev Chains : List Trial → Type 0
Chains ts = map (λ (t : Trial). shown (left t.records empty t.lines).chain) ts ≡ map (λ (t : Trial). t.chain) ts

abbrev Shelves : List Trial → Type 0
Shelves ts = map (λ (t : Trial). shown (left t.records empty t.lines).shelf) ts ≡ map (λ (t : Trial). t.shelf) ts

pub placing : Prints placed × Chains placed × Shelves placed
unfolding placed bounds play shown left sum before without put remove any find lowest unused down up taken joined given refuse allocate_from allocate reserve_from reserve free step
placing = (refl, refl, refl)

pub refusing : Prints refusals × Chains refusals × Shelves refusals
unfolding refusals bounds play shown left sum before without put remove any find lowest unused down up taken joined given refuse allocate_from allocate reserve_from reserve free step
refusing = (refl, refl, refl)

pub emptying : Prints emptied × Chains emptied × Shelves emptied
unfolding emptied bounds play shown left sum before without put remove any find lowest unused down up taken joined given refuse allocate_from allocate reserve_from reserve free step
emptying = (refl, refl, refl)

pub looking : Prints looked_on × Chains looked_on × Shelves looked_on
unfolding looked_on bounds play shown left sum before without put remove any find lowest unused down up taken joined given refuse allocate_from allocate reserve_from reserve free step
looking = (refl, refl, refl)

-- the same bytes by the book and by the vouchers; and the total counts them
pub covering : (by_book small bytes ≡ is_free) × (by_vouchers small bytes ≡ is_free) × (count 32 (free_at (left 8 empty small)) ≡ 10) × (total (left 8 empty small) ≡ 10)
unfolding small bytes is_free by_book by_vouchers count left vouchers_of last_covering free_at sum before without put remove any find lowest unused down up taken joined given refuse allocate_from allocate reserve_from reserve free step
covering = (refl, refl, refl, refl)

-- also where the total returns to 0, and from there on
pub returning : (by_book gone few ≡ gone_free) × (by_vouchers gone few ≡ gone_free) × (count 16 (free_at (left 8 empty gone)) ≡ 0) × (total (left 8 empty gone) ≡ 0)
    × (by_book returned few ≡ returned_free) × (by_vouchers returned few ≡ returned_free) × (count 16 (free_at (left 8 empty returned)) ≡ 2) × (total (left 8 empty returned) ≡ 2)
unfolding gone returned few gone_free returned_free by_book by_vouchers count left vouchers_of last_covering free_at sum before without put remove any find lowest unused down up taken joined given refuse allocate_from allocate reserve_from reserve free step
returning = (refl, refl, refl, refl, refl, refl, refl, refl)

-- the call that hands back; first and last bytes by address
pub handing : (back (Reserve 70000 100 12) 0 ≡ Free 69632 4096) × (back (Allocate 8192 14) 81920 ≡ Free 81920 8192) × (listing (left 8 empty several) ≡ ((0, 8191) ∷ (16384, 20480) ∷ (32768, 32768) ∷ (65536, 8454143) ∷ []))
unfolding several left down up sum before without put remove any find lowest unused taken joined given refuse allocate_from allocate reserve_from reserve free step
handing = (refl, refl, refl)

-- list numbers; the lists, joined in order, are the shelf
pub listed : (map list_number sizes ≡ list_numbers) × (shown (lists 0 size_lists (left 8 empty several).shelf) ≡ shown (left 8 empty several).shelf)
    × (shown (of_list 1 (left 8 empty several).shelf) ≡ ((1 ∷ 16384 ∷ 20480 ∷ []) ∷ (0 ∷ 0 ∷ 8191 ∷ []) ∷ [])) × (tally (λ (q : Range). leb 8192 (size q)) (left 8 empty several).shelf ≡ 2)
unfolding sizes list_numbers several shown left least list_number lists of_list tally down up sum before without put remove any find lowest unused taken joined given refuse allocate_from allocate reserve_from reserve free step
listed = (refl, refl, refl, refl)

-- the numbers that the document names
pub numbers : (top ≡ 9223372036854775808) × (records ≡ 256) × (size_lists ≡ 12)
numbers = (refl, refl, refl)
