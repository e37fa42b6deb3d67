-- The records in a list of bytes, one by one: decoded and counted where they are in use, compared with the fresh one where they are not. Assumes nothing.
use Rattle.std.specs.Prelude.{ℕ, zero, suc, ◌+◌, ◌*◌, ◌<◌, ◌≤◌, Bool, true, false, cond, ◌&&◌, List, ◌≡◌, eqb, length, get_or, replicate, Option, Some, None}
use Rattle.std.specs.Borrow.{MutBor}
use Rattle.linked_lists.specs.Links.{none}
use Rattle.pool_state.specs.Lent.{Lent, is}
use Rattle.check_records.specs.Records.{proper, records}
use Rattle.image_parts.specs.Layout.{Layout, word, no_link, records_at_lem, end_at, enabled_at, links_at, record_size_lem, record_at}
use Rattle.image_parts.specs.Read.{number_in, link_of}
use Rattle.image_parts.specs.declared.records.MemoryEntry.{MemoryEntry}

-- the number of the k-th of the links from a on
abbrev pub link_number_in_lem : Layout → List ℕ → ℕ → ℕ → ℕ
link_number_in_lem f l a k = number_in l (a + f.link * k) f.link

abbrev pub link_in : Layout → List ℕ → ℕ → ℕ → ℕ
link_in f l a k = link_of f (link_number_in_lem f l a k)

-- the record in use whose bytes are those from a on
abbrev pub entry_in_lem : Layout → List ℕ → ℕ → MemoryEntry
entry_in_lem f l a = record {
  start = record { 0 = number_in l a word };
  end = record { 0 = number_in l (a + end_at) word };
  enabled = true;
  previous = record { 0 = link_in f l (a + links_at) 0 };
  next = record { 0 = link_in f l (a + links_at) 1 };
  list_prev = record { 0 = link_in f l (a + links_at) 2 };
  list_next = record { 0 = link_in f l (a + links_at) 3 };
}

-- none of the four links from a on is one
abbrev pub unlinked_at : Layout → List ℕ → ℕ → Bool
unlinked_at f l a =
    eqb (link_number_in_lem f l a 0) (no_link f) && (eqb (link_number_in_lem f l a 1) (no_link f) &&
    (eqb (link_number_in_lem f l a 2) (no_link f) && eqb (link_number_in_lem f l a 3) (no_link f)))

-- start, end and links of the record from a on are the fresh one's
abbrev pub fresh_at : Layout → List ℕ → ℕ → Bool
fresh_at f l a = eqb (number_in l a word) 0 && (eqb (number_in l (a + end_at) word) 0 && unlinked_at f l (a + links_at))

-- the byte that says whether the record from a on is in use
abbrev pub flag_at : List ℕ → ℕ → ℕ
flag_at l a = get_or l (a + enabled_at) 0

-- the record from a on is in use, and holds a proper range
abbrev pub used_at : List ℕ → ℕ → Bool
used_at l a = eqb (flag_at l a) 1 && proper (number_in l a word) (number_in l (a + end_at) word)

-- so it is, or it is fresh
abbrev pub plain_at : Layout → List ℕ → ℕ → Bool
plain_at f l a = cond (eqb (flag_at l a) 0) (fresh_at f l a) (used_at l a)

-- so are n records from the i-th on
unfoldable pub plain : Layout → List ℕ → ℕ → ℕ → Bool
plain f l zero i = true
plain f l (suc n) i = plain_at f l (record_at f i) && plain f l n (suc i)

-- of m places, the first n hold what g says, and the others d; the default of a read is e
pub record Filled {A : Type 0} (e d : A) (g : ℕ → A) (m n : ℕ) (xs : List A) : Type 0 where
  pub sized : length xs ≡ m
  pub done : (j : ℕ) → j < n → get_or xs j e ≡ g j
  pub rest : (j : ℕ) → n ≤ j → j < m → get_or xs j e ≡ d

-- field o of record j in the bytes: a number; the flag; and the k-th link
abbrev pub number_of : Layout → List ℕ → ℕ → ℕ → ℕ
number_of f l o j = number_in l (records_at_lem f + o + record_size_lem f * j) word

abbrev pub flag_of : Layout → List ℕ → ℕ → Bool
flag_of f l j = eqb (get_or l (records_at_lem f + enabled_at + record_size_lem f * j) 0) 1

abbrev pub link_field_of : Layout → List ℕ → ℕ → ℕ → ℕ
link_field_of f l k j = link_of f (number_in l (records_at_lem f + (links_at + f.link * k) + record_size_lem f * j) f.link)

-- the first n of m records are those in the bytes, and the others are fresh
pub record RecordsIn (m n : ℕ) (f : Layout) (l : List ℕ) (start end : List ℕ) (enabled : List Bool) (previous next lprev lnext : List ℕ) : Type 0 where
  pub starts : Filled 0 0 (number_of f l 0) m n start
  pub ends : Filled 0 0 (number_of f l end_at) m n end
  pub flags : Filled false false (flag_of f l) m n enabled
  pub previouses : Filled 0 none (link_field_of f l 0) m n previous
  pub nexts : Filled 0 none (link_field_of f l 1) m n next
  pub lprevs : Filled 0 none (link_field_of f l 2) m n lprev
  pub lnexts : Filled 0 none (link_field_of f l 3) m n lnext

-- ---- the seven lent arrays of the records

-- as in the empty state
pub record FreshRecords (n : ℕ) (start end : MutBor (List ℕ)) (enabled : MutBor (List Bool)) (previous next lprev lnext : MutBor (List ℕ)) : Type 0 where
  pub starts : start.now ≡ replicate n 0
  pub ends : end.now ≡ replicate n 0
  pub flags : enabled.now ≡ replicate n false
  pub previouses : previous.now ≡ replicate n none
  pub nexts : next.now ≡ replicate n none
  pub lprevs : lprev.now ≡ replicate n none
  pub lnexts : lnext.now ≡ replicate n none

-- r is none where a record of the layout is neither used nor fresh; else the arrays of m become those in the bytes, filled up, and r counts those in use
pub record ReadsRecords (m : ℕ) (f : Layout) (image : List ℕ) (r : Option ℕ) (start end : Lent (List ℕ)) (enabled : Lent (List Bool)) (previous next lprev lnext : Lent (List ℕ)) : Type 0 where
  pub broken : r ≡ None → plain f image f.records 0 ≡ false
  pub plainly : (c : ℕ) → r ≡ Some c → plain f image f.records 0 ≡ true
  pub read : (c : ℕ) → r ≡ Some c → RecordsIn m f.records f image (is start) (is end) (is enabled) (is previous) (is next) (is lprev) (is lnext)
  pub counted : (c : ℕ) → r ≡ Some c → records m (is start) (is end) (is enabled) (is previous) (is next) (is lprev) (is lnext) ≡ Some c
