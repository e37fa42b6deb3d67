-- What the steps of the chain ask for and answer. Assumes nothing.
use Rattle.std.specs.Prelude.{ℕ, ◌<◌, true, ◌≢◌, List, ◌++◌, ◌∷◌, ◌≡◌, get_or}
use Rattle.linked_lists.specs.Links.{none, head, last_from, has}
use Rattle.rules.specs.Rules.{Range, start_of, without}
use Rattle.rules.specs.Sound.{In, Pairwise, Ahead, Good}
use Rattle.pool_state.specs.Shown.{numbers, Stand, Runs, Gapped, Chained}
use Rattle.pool_state.specs.Lent.{Lent, was, is}

-- the range q may go into the chain between b and a
pub record Enters (n : ℕ) (first : ℕ) (prev next : List ℕ) (b a : ℕ) (q : Range) (l r : List Range) : Type 0 where
  pub chained : Chained n (l ++ r) first prev next
  pub below : q.number < n
  pub loose : (p : Range) → In p (l ++ r) → q.number ≢ p.number
  pub low : b ≡ last_from none (numbers l)
  pub high : a ≡ head (numbers r)

-- record i has gone out of the chain, whichever it is
abbrev pub Unchained : ℕ → ℕ → Lent ℕ → Lent (List ℕ) → Lent (List ℕ) → Type 0
Unchained n i first prev next =
    (c : List Range) → Chained n c (was first) (was prev) (was next) → has i (numbers c) ≡ true
    → Chained n (without i c) (is first) (is prev) (is next)

-- the range of record i has come into it, between the records b and a
abbrev pub Enchained : ℕ → ℕ → ℕ → ℕ → Lent ℕ → Lent (List ℕ) → Lent (List ℕ) → Type 0
Enchained n b i a first prev next =
    (q : Range) (l r : List Range) → q.number ≡ i → Enters n (was first) (was prev) (was next) b a q l r
    → Chained n (l ++ q ∷ r) (is first) (is prev) (is next)

-- the links lead from `first` along the ranges of c, which are by address; any other record starts at 0
pub record Ordered (n : ℕ) (c : List Range) (start end next : List ℕ) (first : ℕ) : Type 0 where
  pub runs : Runs n c start end next
  pub leads : first ≡ head (numbers c)
  pub apart : Pairwise Ahead c
  pub clear : (i : ℕ) → i < n → ((r : Range) → In r c → i ≢ r.number) → get_or start i 0 ≡ 0

-- where i is a record, it starts below the address, and not at 0
abbrev pub StartsBelow : ℕ → List ℕ → ℕ → ℕ → Type 0
StartsBelow n start address i = i ≢ none → (i < n) × (0 < get_or start i 0) × (get_or start i 0 < address)

-- the records x and y stand on either side of the place of an address in the chain c
pub record Placed (n : ℕ) (c : List Range) (start end : List ℕ) (x y address : ℕ) : Type 0 where
  pub good : (r : Range) → In r c → Good n r
  pub stand : Stand c start end
  pub apart : Pairwise Ahead c
  pub gap : Gapped start_of c address x y
