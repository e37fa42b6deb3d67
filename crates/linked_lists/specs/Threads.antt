-- Doubly linked lists threaded through two arrays: `prev` and `next` show, of each number, what stands before and after it in its list.
use Rattle.std.specs.Prelude.{ℕ, ◌<◌, true, List, [], ◌++◌, ◌≡◌, length, get_or, set}
use Rattle.linked_lists.specs.Links.{upd, none, head, last_from, after, before, without, Fresh, Listed, has}

-- an array of n numbers, with v put at i, is ys
abbrev pub Sets : ℕ → List ℕ → ℕ → ℕ → List ℕ → Type 0
Sets n xs i v ys = length xs ≡ n → ys ≡ set xs i v

-- n numbers stand in a family of lists, the number i in list `key i` or in none
pub record Threads (n : ℕ) (key : ℕ → ℕ) (lists : ℕ → List ℕ) (prev next : List ℕ) : Type 0 where
  pub prev-length : length prev ≡ n
  pub next-length : length next ≡ n
  pub listed : (k : ℕ) → Listed n (lists k)
  pub keyed : (k i : ℕ) → has i (lists k) ≡ true → key i ≡ k
  pub prevs : (i : ℕ) → i < n → get_or prev i 0 ≡ before (lists (key i)) i
  pub nexts : (i : ℕ) → i < n → get_or next i 0 ≡ after (lists (key i)) i

-- one list alone
abbrev pub alone : ℕ → ℕ
alone i = 0

abbrev pub only : List ℕ → ℕ → List ℕ
only l = upd (λ _. []) 0 l

-- the family without i, which stands in its list
abbrev pub cut : (ℕ → ℕ) → (ℕ → List ℕ) → ℕ → ℕ → List ℕ
cut key lists i = upd lists (key i) (without i (lists (key i)))

-- i may go between l and r, whose list they are
pub record Between (n : ℕ) (key : ℕ → ℕ) (lists : ℕ → List ℕ) (b i a : ℕ) (l r : List ℕ) : Type 0 where
  pub below : i < n
  pub parts : lists (key i) ≡ l ++ r
  pub fresh : Fresh i (l ++ r)
  pub low : b ≡ last_from none l
  pub high : a ≡ head r
