-- Pages of an arena of which none comes twice, and none is otherwise in use; in one window at a time. Assumes nothing.
use Rattle.std.specs.Prelude.{Bool, true, ◌&&◌, List, [], ◌∷◌, ℕ, ◌+◌, ◌-◌, ◌*◌, ◌/◌, leb, ltb, length}
use Rattle.mapper_laws.specs.Marks.{part, fine}
use Rattle.mapper_free.specs.Free.{every}

-- the pages from low to before high
abbrev pub inside : ℕ → ℕ → ℕ → Bool
inside low high p = leb low p && ltb p high

unfoldable pub inside_all : ℕ → ℕ → List ℕ → Bool
inside_all low high [] = true
inside_all low high (p ∷ l) = inside low high p && inside_all low high l

-- all of them lie inside; none comes twice; and f tells of none that it is in use
unfoldable pub apart : ℕ → ℕ → (ℕ → Bool) → List ℕ → Bool
apart low high f l = inside_all low high l && fine l (record { at = f })

-- ---- what the inner functions cite

abbrev pub window : ℕ
window = 4096

-- the same of those in the window from lo on, and that there are no more of them than pages
unfoldable pub apart_in : ℕ → ℕ → (ℕ → Bool) → List ℕ → ℕ → Bool
apart_in low high f l lo = leb (length l) (high - low) && (inside_all low high l && fine (part lo window l) (record { at = f }))

-- in the first k windows
abbrev pub apart_up_to : ℕ → ℕ → (ℕ → Bool) → List ℕ → ℕ → Bool
apart_up_to low high f l k = every k (λ i. apart_in low high f l (low + i * window))

abbrev pub windows : ℕ → ℕ → ℕ
windows low high = (high - low) / window + 1
