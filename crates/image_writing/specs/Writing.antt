-- The bytes of an account, and what stands of them before they are written. Assumes nothing.
use Rattle.std.specs.Prelude.{ℕ, ◌+◌, ◌<◌, Bool, false, List, ◌++◌, ◌≢◌, ◌≡◌, get_or, take, drop}
use Rattle.std.specs.Borrow.{Bor, MutBor}
use Rattle.pool_state.specs.Lent.{Lent, was, is}
use Rattle.pool_state.specs.declared.MemoryAllocator.{MemoryAllocator}
use Rattle.account_state.specs.declared.Account.{Account}
use Rattle.image_parts.specs.Layout.{Layout, records_at_lem, enabled_at, record_size_lem, record_at}
use Rattle.image_parts.specs.Written.{joined, record_bytes, head_bytes}
use Rattle.image_parts.specs.declared.records.MemoryEntry.{MemoryEntry}

-- record i of these arrays
abbrev pub entry_of : List ℕ → List ℕ → List Bool → List ℕ → List ℕ → List ℕ → List ℕ → ℕ → MemoryEntry
entry_of start end enabled previous next lprev lnext i = record {
  start = record { 0 = get_or start i 0 };
  end = record { 0 = get_or end i 0 };
  enabled = get_or enabled i false;
  previous = record { 0 = get_or previous i 0 };
  next = record { 0 = get_or next i 0 };
  list_prev = record { 0 = get_or lprev i 0 };
  list_next = record { 0 = get_or lnext i 0 };
}

abbrev pub entry_at_lem : MemoryAllocator → ℕ → MemoryEntry
entry_at_lem s = entry_of s.start s.end s.enabled s.previous s.next s.list_prev s.list_next

-- the bytes before the records
abbrev pub head_of : Layout → Account → List ℕ
head_of f a = head_bytes f a.ranges.free_size a.ranges.first_entry.0 a.ranges.free_list a.lowest

-- the image of an account; a layout without a low figure has no bytes for it
unfoldable pub image_of : Layout → Account → List ℕ
image_of f a = head_of f a ++ joined f.records 0 (λ i. record_bytes f (entry_at_lem a.ranges i))

-- ---- what the inner functions cite

-- the bytes of record i in an image, and the one of them that says whether it is in use
abbrev pub record_in_lem : Layout → List ℕ → ℕ → List ℕ
record_in_lem f l i = take (record_size_lem f) (drop (record_at f i) l)

abbrev pub flag_in : Layout → List ℕ → ℕ → ℕ
flag_in f l i = get_or l (record_at f i + enabled_at) 0

-- of n records, each that is not in use, and by the bytes was not, has its bytes there already
abbrev pub Standing : Layout → ℕ → List ℕ → (ℕ → MemoryEntry) → Type 0
Standing f n l entry = (i : ℕ) → i < n → (entry i).enabled ≡ false → flag_in f l i ≢ 1 → record_in_lem f l i ≡ record_bytes f (entry i)

-- so it is with the lent arrays, unless every record is written anew
abbrev pub Stands : Layout → ℕ → Bool → MutBor (List ℕ) → Bor (List ℕ) → Bor (List ℕ) → Bor (List Bool) → Bor (List ℕ) → Bor (List ℕ) → Bor (List ℕ) → Bor (List ℕ) → Type 0
Stands f n anew image start end enabled previous next lprev lnext =
    anew ≡ false → Standing f n image.now (entry_of start.now end.now enabled.now previous.now next.now lprev.now lnext.now)

-- the first n records of the lent arrays stand in the image, and its head is as it was
abbrev pub WritesRecords : Layout → ℕ → Lent (List ℕ) → List ℕ → List ℕ → List Bool → List ℕ → List ℕ → List ℕ → List ℕ → Type 0
WritesRecords f n image start end enabled previous next lprev lnext =
    is image ≡ take (records_at_lem f) (was image)
    ++ joined n 0 (λ i. record_bytes f (entry_of start end enabled previous next lprev lnext i))
