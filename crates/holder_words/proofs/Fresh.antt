-- Words that are all 0 are a register without a range. Assumes nothing.
use mathlib.Core.Path.{◌≡◌, refl, ap}
use mathlib.Core.List.{List, [], ◌∷◌, ◌++◌}
use Prim.Native.Nat.{ℕ, zero, suc, ◌+◌, ◌*◌}
use lib.ListN.{get_or, replicate}
use Rattle.holder_rules.specs.Register.{blank, blanks}
use Rattle.holder_rules.specs.declared.Entry.{Entry}
use Rattle.holder_words.specs.Words.{entries_in}

zeros : (m i : ℕ) → ◌≡◌ {A = ℕ} (get_or (replicate m 0) i 0) 0
zeros zero i = refl
zeros (suc m) zero = refl
zeros (suc m) (suc i) = zeros m i

one_more : (k : ℕ) → blanks k ++ (blank ∷ []) ≡ blanks (suc k)
unfolding blanks
one_more zero = refl
one_more (suc k) = ap (λ (l : List Entry). blank ∷ l) (one_more k)

pub fresh-words : (m k : ℕ) → entries_in (replicate m 0) k ≡ blanks k
unfolding entries_in blanks
fresh-words m zero = refl
fresh-words m (suc k) = rw (fresh-words m k, zeros m (3 * k), zeros m (3 * k + 1), zeros m (3 * k + 2)) (one_more k)
