-- Ranges that are listed in two slices, and what lies on each way through. Assumes nothing.
use mathlib.Core.Path.{◌≡◌, refl, sym, ◌∙◌, ap}
use mathlib.Core.Bool.{Bool, true, false, ◌&&◌}
use Rattle.std.specs.Prelude.{Option, None, Some}
use mathlib.Core.List.{List, [], ◌∷◌, ◌++◌, map}
use Prim.Native.Nat.{ℕ, zero, suc, ◌/◌, ◌≤◌, ◌<◌}
use native.Mathlib.Omega.{arith}
use native.Mathlib.Nat.{le_of_suc-le-suc}
use lib.ListN.{length, get_or, drop, length-map, replicate, length-replicate}
use borrow.Author.Tests.{le-leb, lt-leb, le-ltb}
use Rattle.rules.specs.Rules.{Range, start_of}
use Rattle.pool_state.specs.Shown.{pool}
use Rattle.pool_listing.specs.Listing.{last_of, short, listed_of, shown}
use Rattle.image_parts.specs.Layout.{current}
use Rattle.image_reading.specs.Reading.{state_in_lem, readable}
use Rattle.pool_listing.proofs.Walk.{few}
use Rattle.mapper_free.proofs.Ranges.{read-ordered}
use Rattle.linked_lists.proofs.Laws.{true≢false}
use Rattle.mapper_rules.specs.Numbers.{output_top}
use Rattle.mapper_blocks.proofs.Blocks.{some_same}
use Rattle.mapper_free.specs.Free.{chain_in, Frees, every, inside_of, all_inside, touches_at, touches}
use Rattle.mapper_tables.specs.declared.Top.{Top}
use Rattle.mapper_tables.specs.Apart.{apart}
use Rattle.mapper_tables.specs.Reached.{reached_in}
use Rattle.mapper_lies.specs.Lies.{top_byte_lem, free_lies, tables_lie, lies}

-- ---- the first values of a slice

front : (xs ys : List ℕ) (i : ℕ) → i < length xs → get_or (xs ++ ys) i 0 ≡ get_or xs i 0
front [] ys i h = absurd (let z : ⊥ = omega arith in z)
front (x ∷ xs) ys zero h = refl
front (x ∷ xs) ys (suc i) h = front xs ys i (le_of_suc-le-suc h)

every-same : (n : ℕ) (f g : ℕ → Bool) → ((i : ℕ) → i < n → f i ≡ g i) → every n f ≡ every n g
unfolding every
every-same zero f g e = refl
every-same (suc n) f g e = ap (λ (x : Bool). x && f n) (every-same n f g (λ i h. e i (omega arith))) ∙ ap (λ (x : Bool). every n g && x) (e n (omega arith))

module _ (c : List Range) (S L old-s old-l : List ℕ) (s : S ≡ map start_of c ++ old-s) (l : L ≡ map last_of c ++ old-l) where
  start-at : (i : ℕ) → i < length c → get_or S i 0 ≡ get_or (map start_of c) i 0
  start-at i h = ap (λ (x : List ℕ). get_or x i 0) s ∙ front (map start_of c) old-s i (rw length-map h)

  last-at : (i : ℕ) → i < length c → get_or L i 0 ≡ get_or (map last_of c) i 0
  last-at i h = ap (λ (x : List ℕ). get_or x i 0) l ∙ front (map last_of c) old-l i (rw length-map h)

  same-inside : (low high : ℕ) → all_inside low high S L (length c) ≡ all_inside low high (map start_of c) (map last_of c) (length c)
  same-inside low high = every-same (length c) (inside_of low high S L) (inside_of low high (map start_of c) (map last_of c)) (λ i h. rw (start-at i h, last-at i h))

  same-touched : touches S L (length c) ≡ touches (map start_of c) (map last_of c) (length c)
  same-touched = λ k p. some_same (length c) (touches_at S L p) (touches_at (map start_of c) (map last_of c) p) (λ i h. rw (start-at i h, last-at i h)) k

-- ---- what the listing of an image tells

abbrev is_count : Option ℕ → Bool
is_count (Some n) = true
is_count None = false

abbrev count_of : Option ℕ → ℕ
count_of (Some n) = n
count_of None = 0

-- a sound state has no more ranges than records
chain-few : (l : List ℕ) → readable current l ≡ true → length (chain_in l) ≤ pool
chain-few l good = few pool (chain_in l) (read-ordered l (state_in_lem current l) good refl).runs.listed

module _ (l : List ℕ) (S L S' L' : List ℕ) (rs : length S ≡ pool) (rl : length L ≡ pool) (r : Option ℕ) (f : Frees l S L r S' L') where
  abbrev c : List Range
  c = chain_in l

  module _ (good : readable current l ≡ true) where
    fits : short c (length S) (length L) ≡ false
    fits = let many = chain-few l good in rw (le-ltb (length S) (length c) (omega arith), le-ltb (length L) (length c) (omega arith))

    listed : r ≡ Some (length c)
    unfolding listed_of
    listed = (f.sound good).answer ∙ rw fits

    starts : S' ≡ map start_of c ++ drop (length (map start_of c)) S
    unfolding shown
    starts = (f.sound good).starts-now ∙ rw fits

    lasts : L' ≡ map last_of c ++ drop (length (map last_of c)) L
    unfolding shown
    lasts = (f.sound good).lasts_now ∙ rw fits

  soundly : is_count r ≡ true → readable current l ≡ true
  soundly t = go (readable current l) refl
    where
      go : (b : Bool) → readable current l ≡ b → readable current l ≡ true
      go true e = e
      go false e = absurd (true≢false (sym t ∙ ap is_count (f.unsound e)))

  pub counted : (n : ℕ) → r ≡ Some n → n ≡ length c
  counted n e = ap count_of (sym e ∙ listed (soundly (ap is_count e)))

  pub count_fits : (n : ℕ) → r ≡ Some n → n ≤ pool
  count_fits n e = let many = chain-few l (soundly (ap is_count e)) in let g = counted n e in omega arith

  -- ---- on each way through

  module _ (base high n : ℕ) (t : Top) (A : List ℕ) (low : base ≤ output_top) (h : high ≡ top_byte_lem base (length A)) where
    pub lies-listed : r ≡ Some n → (x : Bool) → x ≡ (all_inside base high S' L' n && apart (base / 4096) (high / 4096) (touches S' L' n) (reached_in (base / 8) A t)) → x ≡ lies base t l A
    unfolding lies free_lies tables_lie
    lies-listed e x k =
        let good = soundly (ap is_count e) in
        let st = starts good in
        let la = lasts good in
        let os = drop (length (map start_of c)) S in
        let ol = drop (length (map last_of c)) L in
        k ∙ ap (λ (m : ℕ). all_inside base high S' L' m && apart (base / 4096) (high / 4096) (touches S' L' m) (reached_in (base / 8) A t)) (counted n e)
        ∙ ap (λ (b : Bool). b && apart (base / 4096) (high / 4096) (touches S' L' (length c)) (reached_in (base / 8) A t)) (same-inside c S' L' os ol st la base high)
        ∙ ap (λ (g : ℕ → Bool). all_inside base high (map start_of c) (map last_of c) (length c) && apart (base / 4096) (high / 4096) g (reached_in (base / 8) A t)) (same-touched c S' L' os ol st la)
        ∙ rw (h, le-leb base output_top low, good)

    pub lies-unlisted : r ≡ None → false ≡ lies base t l A
    unfolding lies
    lies-unlisted e = go (readable current l) refl
      where
        go : (b : Bool) → readable current l ≡ b → false ≡ lies base t l A
        go false g = rw (le-leb base output_top low, g)
        go true g = absurd (true≢false (ap is_count (sym (listed g) ∙ e)))

pub lies-nowhere : (base : ℕ) (t : Top) (l A : List ℕ) → output_top < base → false ≡ lies base t l A
unfolding lies
lies-nowhere base t l A h = rw (lt-leb base output_top h)

pub fresh-length : length (replicate {A = ℕ} pool 0) ≡ pool
fresh-length = length-replicate {A = ℕ} pool 0
