-- The words of a lent arena: a list whose first word has the number b, counted from address 0. Assumes nothing.
use Rattle.std.specs.Prelude.{cond, List, ℕ, zero, suc, ◌+◌, ◌-◌, leb, get_or, set}

-- the word w; 0 where the arena has none
abbrev pub shows : ℕ → List ℕ → ℕ → ℕ
shows b A w = cond (leb b w) (get_or A (w - b) 0) 0

-- v in the word w; nothing changes where the arena has none
abbrev pub stored : ℕ → List ℕ → ℕ → ℕ → List ℕ
stored b A w v = cond (leb b w) (set A (w - b) v) A

-- the n words from w on are 0
unfoldable pub cleared : ℕ → ℕ → List ℕ → ℕ → List ℕ
cleared zero b A w = A
cleared (suc n) b A w = stored b (cleared n b A w) (w + n) 0
