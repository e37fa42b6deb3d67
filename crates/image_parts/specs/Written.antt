-- The bytes of links, of a record and of the head. Assumes nothing.
use Rattle.std.specs.Prelude.{ℕ, zero, suc, Bool, cond, List, [], ◌∷◌, ◌++◌, ltb, length, get_or}
use Rattle.bytes_be.specs.Numbers.{be}
use Rattle.image_parts.specs.Layout.{Layout, word, no_link, length_at, length_size, rest_size}
use Rattle.image_parts.specs.declared.records.MemoryEntry.{MemoryEntry}

-- n pieces from the i-th on, joined
unfoldable pub joined : ℕ → ℕ → (ℕ → List ℕ) → List ℕ
joined zero i piece = []
joined (suc n) i piece = piece i ++ joined n (suc i) piece

-- the number of a link
abbrev pub link_number_lem : Layout → ℕ → ℕ
link_number_lem f r = cond (ltb r (no_link f)) r (no_link f)

-- the number of a flag
abbrev pub flag_number_lem : Bool → ℕ
flag_number_lem on = cond on 1 0

unfoldable pub link_bytes : Layout → List ℕ → List ℕ
link_bytes f links = joined (length links) 0 (λ k. be f.link (link_number_lem f (get_or links k 0)))

unfoldable pub record_bytes : Layout → MemoryEntry → List ℕ
record_bytes f e =
    be word e.start.0 ++ (be word e.end.0 ++ (be 1 (flag_number_lem e.enabled) ++
    link_bytes f (e.previous.0 ∷ e.next.0 ∷ e.list_prev.0 ∷ e.list_next.0 ∷ [])))

unfoldable pub head_bytes : Layout → ℕ → ℕ → List ℕ → ℕ → List ℕ
head_bytes f total first heads low =
    be length_at f.version ++ (be length_size (rest_size f) ++ (be word total ++ (be f.link (link_number_lem f first) ++ (link_bytes f heads ++ be f.low low))))
