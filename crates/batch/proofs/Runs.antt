-- Calls one after the other: what the first of them answer and leave, and the next. n is the number of records. Assumes nothing.
use Prim.Native.Nat.{ℕ, zero, suc, ◌+◌, ◌<◌}
use mathlib.Core.List.{List, [], ◌∷◌, ◌++◌}
use mathlib.Core.Path.{◌≡◌, refl, ap, ◌∙◌}
use lib.IntN.{ℤ, pos}
use lib.ListN.{length, get_or, take}
use native.Mathlib.Numerals.{add-one}
use native.Mathlib.Omega.{arith}
use Rattle.std.specs.Prelude.{None}
use Rattle.account_state.specs.declared.Account.{Account}
use Rattle.calls.specs.Calls.{signed_of}
use Rattle.batch.specs.Lists.{served_of, left_by, answers_of}
use Rattle.batch.specs.InWords.{Asked}

module _ (n : ℕ) where
  pub left-append : (s : Account) (qs rs : List Asked) → left_by n s (qs ++ rs) ≡ left_by n (left_by n s qs) rs
  unfolding left_by
  left-append s [] rs = refl
  left-append s (q ∷ qs) rs = left-append (served_of n s q).state qs rs

  pub answers-append : (s : Account) (qs rs : List Asked) → answers_of n s (qs ++ rs) ≡ answers_of n s qs ++ answers_of n (left_by n s qs) rs
  unfolding left_by answers_of
  answers-append s [] rs = refl
  answers-append s (q ∷ qs) rs = ap (λ (l : List ℤ). signed_of (served_of n s q).answer ∷ l) (answers-append (served_of n s q).state qs rs)

  pub answers-length : (s : Account) (qs : List Asked) → length (answers_of n s qs) ≡ length qs
  unfolding answers_of
  answers-length s [] = refl
  answers-length s (q ∷ qs) = ap suc (answers-length (served_of n s q).state qs)

  -- what call k answers and leaves, made on what the k before it left
  left-suc : (s : Account) (qs : List Asked) (k : ℕ) → k < length qs
      → left_by n s (take (suc k) qs) ≡ (served_of n (left_by n s (take k qs)) (get_or qs k None)).state
  unfolding left_by
  left-suc s [] k h = absurd (let v : ⊥ = omega arith in v)
  left-suc s (q ∷ qs) zero h = refl
  left-suc s (q ∷ qs) (suc k) h = left-suc (served_of n s q).state qs k (omega arith)

  pub left-next : (s : Account) (qs : List Asked) (k : ℕ) → k < length qs
      → left_by n s (take (k + 1) qs) ≡ (served_of n (left_by n s (take k qs)) (get_or qs k None)).state
  left-next s qs k h = ap (λ (m : ℕ). left_by n s (take m qs)) (add-one k) ∙ left-suc s qs k h

  pub answer_at : (s : Account) (qs : List Asked) (k : ℕ) → k < length qs
      → get_or (answers_of n s qs) k (pos 0) ≡ signed_of (served_of n (left_by n s (take k qs)) (get_or qs k None)).answer
  unfolding left_by answers_of
  answer_at s [] k h = absurd (let v : ⊥ = omega arith in v)
  answer_at s (q ∷ qs) zero h = refl
  answer_at s (q ∷ qs) (suc k) h = answer_at (served_of n s q).state qs k (omega arith)
