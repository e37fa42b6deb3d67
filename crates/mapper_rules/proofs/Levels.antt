-- Every T0SZ from 0 to 63 at every level: which are allowed, and the bytes of the top table with each; and the cases of numbers. Assumes nothing.
use mathlib.Core.Path.{◌≡◌, refl}
use mathlib.Core.Bool.{cond}
use mathlib.Core.List.{List, [], ◌∷◌, ◌++◌, map}
use Prim.Native.Nat.{ℕ, zero, suc, ◌+◌, ◌*◌}
use Rattle.mapper_rules.specs.Walk.{span}
use Rattle.mapper_rules.specs.Numbers.{bad_level_lem, top_bytes_lem, bad_registers_lem, bad_range_lem, bad_numbers_lem}
use Rattle.mapper_rules.specs.Asks.{Ask, judged, asks}

-- of T0SZ 0 to n - 1, with this SL0
unfoldable pub allowed : ℕ → ℕ → List (List ℕ)
allowed sl zero = []
allowed sl (suc t) = allowed sl t ++ cond (bad_level_lem sl t) [] ((t ∷ top_bytes_lem (64 * sl + t) ∷ []) ∷ [])

abbrev page : ℕ → List ℕ
page t = t ∷ 4096 ∷ []

pub levels : map (λ sl. allowed sl 64) (2 ∷ 1 ∷ 0 ∷ 3 ∷ [])
    ≡ map page (16 ∷ 17 ∷ 18 ∷ 19 ∷ 20 ∷ 21 ∷ 22 ∷ 23 ∷ 24 ∷ [])
    ∷ ((21 ∷ 65536 ∷ []) ∷ (22 ∷ 32768 ∷ []) ∷ (23 ∷ 16384 ∷ []) ∷ (24 ∷ 8192 ∷ [])
    ∷ map page (25 ∷ 26 ∷ 27 ∷ 28 ∷ 29 ∷ 30 ∷ 31 ∷ 32 ∷ 33 ∷ []))
    ∷ ((30 ∷ 65536 ∷ []) ∷ (31 ∷ 32768 ∷ []) ∷ (32 ∷ 16384 ∷ []) ∷ (33 ∷ 8192 ∷ [])
    ∷ map page (34 ∷ 35 ∷ 36 ∷ 37 ∷ 38 ∷ 39 ∷ []))
    ∷ []
    ∷ []
unfolding allowed bad_level_lem top_bytes_lem span
levels = refl

pub asked : map judged asks ≡ map (λ (a : Ask). a.refused) asks
unfolding bad_numbers_lem bad_registers_lem bad_range_lem bad_level_lem top_bytes_lem span
asked = refl
