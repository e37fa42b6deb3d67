-- The pages that are handed out where all lies right: the promise. Assumes nothing.
use mathlib.Core.Path.{◌≡◌, sym, ◌∙◌, ap, subst}
use mathlib.Core.Logic.{inl, inr}
use mathlib.Core.Bool.{Bool, true, ◌&&◌}
use mathlib.Core.List.{List, [], ◌∷◌, map}
use Prim.Native.Nat.{ℕ, zero, suc, ◌+◌, ◌/◌, ◌≤◌, ◌<◌}
use native.Mathlib.Omega.{arith}
use lib.Dec.{T, leb, ltb, eqb, leb→le, ltb→lt, le→leb, eqb→eq}
use lib.ListN.{length, get_or}
use Rattle.rules.specs.Rules.{Range, Book, start_of, free_at}
use Rattle.rules.specs.Sound as rules
use Rattle.rules_laws.proofs.Lists.{and_i, and_l, and_r, or_l, or_r, T-no, T_true, T-or-not, neq}
use Rattle.rules_laws.proofs.Kept.{free→}
use Rattle.pool_state.specs.Shown.{pool}
use Rattle.pool_state.specs.Sound.{book_of}
use Rattle.pool_listing.specs.Listing.{last_of}
use Rattle.image_parts.specs.Layout.{current}
use Rattle.image_reading.specs.Reading.{state_in_lem, readable}
use Rattle.mapper_rules.specs.Numbers.{output_top}
use Rattle.mapper_laws.specs.Tree.{some, joined, In, Once}
use Rattle.mapper_laws.specs.Marks.{Marks, fine}
use Rattle.mapper_laws.proofs.Once.{of-joined}
use Rattle.mapper_laws.proofs.Again.{once-append, once-joined}
use Rattle.mapper_laws.proofs.Windows.{Fine, fine→}
use Rattle.mapper_pages.specs.Pages.{supply, taken}
use Rattle.mapper_free.specs.Free.{chain_in, every, inside_of, touches_at, touches}
use Rattle.mapper_tables.specs.declared.Top.{Top}
use Rattle.mapper_tables.specs.Apart.{inside_all, apart}
use Rattle.mapper_tables.specs.Reached.{reached_in}
use Rattle.mapper_lies.specs.Lies.{top_byte_lem, free_lies, tables_lie, lies}
use Rattle.mapper_supply.specs.Supply.{page_at, Handed}
use Rattle.mapper_supply.proofs.Reading.{Reads, read_first}
use Rattle.mapper_supply.proofs.Pages.{each-had, whole-page, free-before, other-page}

-- ---- runs of tests

every_one : (n : ℕ) (f : ℕ → Bool) → T (every n f) → (i : ℕ) → i < n → T (f i)
unfolding every
every_one zero f t i h = absurd (let z : ⊥ = omega arith in z)
every_one (suc n) f t i h = elim (T-or-not (eqb i n)) [
  | inl e ↦ rw (eqb→eq i n e) (and_r (every n f) (f n) t)
  | inr e ↦ let d = neq i n e in every_one n f (and_l (every n f) (f n) t) i (omega arith)
]

some_one : (n : ℕ) (f : ℕ → Bool) (i : ℕ) → i < n → T (f i) → T (some n f)
unfolding some
some_one zero f i h t = absurd (let z : ⊥ = omega arith in z)
some_one (suc n) f i h t = elim (T-or-not (eqb i n)) [
  | inl e ↦ or_r (some n f) (f n) (subst (λ (k : ℕ). T (f k)) (eqb→eq i n e) t)
  | inr e ↦ let d = neq i n e in or_l (some n f) (f n) (some_one n f i (omega arith) t)
]

-- the place of a range in a list
record Placed (c : List Range) (r : Range) : Type 0 where
  at : ℕ
  few : at < length c
  start : get_or (map start_of c) at 0 ≡ r.start
  last : get_or (map last_of c) at 0 ≡ r.last

placed : (c : List Range) (r : Range) → rules.In r c → Placed c r
placed [] r i = elim i [ ]
placed (q ∷ c) r (inl e) = record { at = 0; few = omega arith; start = ap start_of (sym e); last = ap last_of (sym e) }
placed (q ∷ c) r (inr i) = let p = placed c r i in record { at = suc p.at; few = let h = p.few in omega arith; start = p.start; last = p.last }

-- ---- free bytes, where they lie right

module _ (b : Book) where
  abbrev S : List ℕ
  S = map start_of b.chain

  abbrev L : List ℕ
  L = map last_of b.chain

  pub range_inside : (base high : ℕ) → T (free_lies base high b.chain) → (r : Range) → rules.In r b.chain → (base ≤ r.start) × (r.last < high)
  unfolding free_lies
  range_inside base high lie r m =
      let p = placed b.chain r m in
      let t = every_one (length b.chain) (inside_of base high S L) lie p.at p.few in (
        subst (λ (y : ℕ). base ≤ y) p.start (leb→le base (get_or S p.at 0) (and_l (leb base (get_or S p.at 0)) (ltb (get_or L p.at 0) high) t)),
        subst (λ (y : ℕ). y < high) p.last (ltb→lt (get_or L p.at 0) high (and_r (leb base (get_or S p.at 0)) (ltb (get_or L p.at 0) high) t)),
      )

  pub byte-touched : (x : ℕ) → T (free_at b x) → T (touches S L (length b.chain) (x / 4096))
  byte-touched x free =
      let w = free→ b x free in
      let p = placed b.chain w.0 w.1 in
      let s = p.start in
      let l = p.last in
      let from = w.2 in
      let to = w.3 in
      some_one (length b.chain) (touches_at S L (x / 4096)) p.at p.few
      (and_i (leb (get_or S p.at 0 / 4096) (x / 4096)) (leb (x / 4096) (get_or L p.at 0 / 4096))
      (le→leb (get_or S p.at 0 / 4096) (x / 4096) (omega arith)) (le→leb (x / 4096) (get_or L p.at 0 / 4096) (omega arith)))

  -- a page of them
  module _ (x : ℕ) (free : (i : ℕ) → i < 4096 → T (free_at b (x + i))) where
    free-low : (base high : ℕ) → T (free_lies base high b.chain) → base ≤ x
    free-low base high lie = let w = free→ b (x + 0) (free 0 (omega arith)) in let g = (range_inside base high lie w.0 w.1).0 in let h = w.2 in omega arith

    free-high : (base high : ℕ) → T (free_lies base high b.chain) → x + 4096 ≤ high
    free-high base high lie = let w = free→ b (x + 4095) (free 4095 (omega arith)) in let g = (range_inside base high lie w.0 w.1).1 in let h = w.3 in omega arith

    free-touched : T (touches S L (length b.chain) (x / 4096))
    free-touched = byte-touched x (subst (λ (y : ℕ). T (free_at b y)) (let e : x + 0 ≡ x = omega arith in e) (free 0 (omega arith)))

-- ---- the promise

module _ (base : ℕ) (t : Top) (l A : List ℕ) (n : ℕ) (lying : T (lies base t l A)) (enough : T (taken n (supply true l)).enough) where
  abbrev b : Book
  b = book_of pool (state_in_lem current l)

  abbrev high : ℕ
  high = top_byte_lem base (length A)

  abbrev tables : List ℕ
  tables = reached_in (base / 8) A t

  judged : T (readable current l && (free_lies base high (chain_in l) && tables_lie base high (chain_in l) t A))
  unfolding lies
  judged = and_r (leb base output_top) (readable current l && (free_lies base high (chain_in l) && tables_lie base high (chain_in l) t A)) lying

  reads : Reads b l
  reads = read_first l (T_true (readable current l) (and_l (readable current l) (free_lies base high (chain_in l) && tables_lie base high (chain_in l) t A) judged))

  both : T (free_lies base high (chain_in l) && tables_lie base high (chain_in l) t A)
  both = and_r (readable current l) (free_lies base high (chain_in l) && tables_lie base high (chain_in l) t A) judged

  free-lies : T (free_lies base high (chain_in l))
  free-lies = and_l (free_lies base high (chain_in l)) (tables_lie base high (chain_in l) t A) both

  abbrev marks : Marks
  marks = record { at = touches (map start_of (chain_in l)) (map last_of (chain_in l)) (length (chain_in l)) }

  apart-tables : Fine tables marks
  unfolding tables_lie apart
  apart-tables = fine→ tables marks
      (and_r (inside_all (base / 4096) (high / 4096) tables) (fine tables marks) (and_r (free_lies base high (chain_in l)) (tables_lie base high (chain_in l) t A) both))

  free : (k : ℕ) → k < n → (i : ℕ) → i < 4096 → T (free_at b (page_at l k + i))
  free k h = free-before b l reads n (each-had n l enough) k h

  once-pages : Once (joined n (λ k. (page_at l k / 4096) ∷ []))
  unfolding Once
  once-pages = once-joined n (λ k. (page_at l k / 4096) ∷ []) (λ j h. (λ i. i, tt))
      (λ i j hi hj d p x y. elim x [ inr z ↦ z | inl e ↦ elim y [ inr z ↦ z | inl g ↦ d (other-page b l reads n (each-had n l enough) i j hi hj (sym e ∙ g)) ] ])

  no_table : (p : ℕ) → In p tables → In p (joined n (λ k. (page_at l k / 4096) ∷ [])) → ⊥
  no_table p i j =
      let w = of-joined n (λ k. (page_at l k / 4096) ∷ []) p j in
      elim w.2 [
        | inr z ↦ z
        | inl e ↦ T-no (marks.at p) (apart-tables.fresh p i) (subst (λ (y : ℕ). T (marks.at y)) (sym e) (free-touched b (page_at l w.0) (free w.0 w.1)))
      ]

  pub handed : Handed base t l A n
  handed = record {
    whole = λ k h. whole-page b l reads n (each-had n l enough) k h;
    free = free;
    low = λ k h. free-low b (page_at l k) (free k h) base high free-lies;
    high = λ k h. free-high b (page_at l k) (free k h) base high free-lies;
    once = once-append tables (joined n (λ k. (page_at l k / 4096) ∷ [])) apart-tables.once once-pages no_table;
  }
