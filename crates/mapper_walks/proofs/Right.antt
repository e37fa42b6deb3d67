-- What lies right, in words: the test says yes exactly for it, of a sound state. Assumes nothing.
use mathlib.Core.Path.{◌≡◌, refl, ◌∙◌, ap, subst}
use mathlib.Core.Logic.{inl, inr}
use mathlib.Core.Bool.{Bool, true, false, cond, ◌&&◌}
use mathlib.Core.List.{List, [], ◌∷◌, map}
use Prim.Native.Nat.{ℕ, zero, suc, ◌*◌, ◌/◌, ◌≤◌, ◌<◌}
use native.Mathlib.Omega.{arith}
use lib.Dec.{T, leb, ltb, leb→le, ltb→lt, nleb→lt, le→leb, lt→ltb}
use lib.ListN.{length, get_or}
use Rattle.rules.specs.Rules.{Range, Book, start_of, free_at}
use Rattle.rules.specs.Sound as rules
use Rattle.rules.specs.Sound.{Sound}
use Rattle.rules_laws.proofs.Kept.{free←}
use Rattle.rules_laws.proofs.Lists.{and_i, and_l, and_r, or-e, T-no, T_true, T-or-not}
use Rattle.pool_state.specs.Shown.{pool}
use Rattle.pool_state.specs.State.{state_of}
use Rattle.pool_state.specs.Sound.{book_of}
use Rattle.account_state.specs.Account.{account}
use Rattle.account_state.specs.declared.Account.{Account}
use Rattle.pool_state.proofs.Book.{book-back}
use Rattle.pool_listing.specs.Listing.{last_of}
use Rattle.image_parts.specs.Layout.{current}
use Rattle.image_parts.proofs.Lawful.{lawful-current, small-pool}
use Rattle.image_reading.specs.Reading.{state_in_lem, account_in, readable}
use Rattle.image.specs.Reading.{Handed, accepted, refused, reading_of}
use Rattle.mapper_rules.specs.Numbers.{output_top}
use Rattle.mapper_laws.specs.Tree.{some, In, Once}
use Rattle.mapper_laws.specs.Marks.{Marks, fine}
use Rattle.mapper_laws.proofs.Windows.{fine→, fine←}
use Rattle.mapper_free.specs.Free.{chain_in, every, inside_of, touches_at, touches}
use Rattle.mapper_tables.specs.declared.Top.{Top}
use Rattle.mapper_tables.specs.Apart.{inside, inside_all, apart}
use Rattle.mapper_tables.specs.Reached.{reached_in}
use Rattle.mapper_tables.proofs.Pages.{inside-in}
use Rattle.mapper_lies.specs.Lies.{top_byte_lem, free_lies, tables_lie, lies}
use Rattle.mapper_supply.proofs.Reading.{Reads}
use Rattle.mapper_supply.proofs.Handed.{range_inside, byte-touched}

pub record Right (base high : ℕ) (b : Book) (tables : List ℕ) : Type 0 where
  pub ranges : (r : Range) → rules.In r b.chain → (base ≤ r.start) × (r.last < high)
  pub within : (p : ℕ) → In p tables → (base / 4096 ≤ p) × (p < high / 4096)
  pub once : Once tables
  pub untouched : (p x : ℕ) → In p tables → T (free_at b x) → x / 4096 ≡ p → ⊥

-- ---- bytes that read as a book

pub book-read : (b : Book) (l : List ℕ) → Reads b l → (readable current l ≡ true) × (book_of pool (state_in_lem current l) ≡ b)
unfolding reading_of
book-read b l r = go (readable current l) (account_in current l) r.reads
  where
    go : (c : Bool) (s : Account) → cond {A = Handed} c (accepted s) (refused current) ≡ accepted (account (state_of pool b) r.low) → (c ≡ true) × (book_of pool s.ranges ≡ b)
    go true s e = (refl, ap (λ (h : Handed). book_of pool h.state.ranges) e ∙ book-back pool (small-pool current lawful-current) b r.sound)
    go false s e = absurd (let z = ap (λ (h : Handed). h.number) e in let y : ⊥ = omega arith in y)

-- ---- runs of tests over ranges

each-one : (n : ℕ) (f : ℕ → Bool) → ((i : ℕ) → i < n → T (f i)) → T (every n f)
unfolding every
each-one zero f h = tt
each-one (suc n) f h = and_i (every n f) (f n) (each-one n f (λ i l. h i (omega arith))) (h n (omega arith))

which-one : (n : ℕ) (f : ℕ → Bool) → T (some n f) → (i : ℕ) × (i < n) × T (f i)
unfolding some
which-one zero f t = absurd t
which-one (suc n) f t = elim (or-e (some n f) (f n) t) [
  | inl s ↦ let w = which-one n f s in (w.0, (let h = w.1 in omega arith), w.2)
  | inr s ↦ (n, omega arith, s)
]

at_place : (c : List Range) (i : ℕ) → i < length c → (r : Range) × rules.In r c × (get_or (map start_of c) i 0 ≡ r.start) × (get_or (map last_of c) i 0 ≡ r.last)
at_place [] i h = absurd (let z : ⊥ = omega arith in z)
at_place (q ∷ c) zero h = (q, inl refl, refl, refl)
at_place (q ∷ c) (suc i) h = let w = at_place c i (omega arith) in (w.0, inr w.1, w.2, w.3)

all-within : (low high : ℕ) (l : List ℕ) → ((p : ℕ) → In p l → (low ≤ p) × (p < high)) → T (inside_all low high l)
unfolding inside_all
all-within low high [] h = tt
all-within low high (p ∷ l) h =
    let w = h p (inl refl) in
    and_i (inside low high p) (inside_all low high l) (and_i (leb low p) (ltb p high) (le→leb low p w.0) (lt→ltb p high w.1)) (all-within low high l (λ x i. h x (inr i)))

module _ (b : Book) where
  abbrev S : List ℕ
  S = map start_of b.chain

  abbrev L : List ℕ
  L = map last_of b.chain

  abbrev touched : ℕ → Bool
  touched = touches S L (length b.chain)

  -- a page that is touched has a free byte
  free_in : Sound pool b → (p : ℕ) → T (touched p) → (x : ℕ) × T (free_at b x) × (x / 4096 ≡ p)
  free_in sound p t =
      let i = which-one (length b.chain) (touches_at S L p) t in
      let w = at_place b.chain i.0 i.1 in
      let r = w.0 in
      let low : r.start / 4096 ≤ p = subst (λ (y : ℕ). y / 4096 ≤ p) w.2 (leb→le (get_or S i.0 0 / 4096) p (and_l (leb (get_or S i.0 0 / 4096) p) (leb p (get_or L i.0 0 / 4096)) i.2)) in
      let high : p ≤ r.last / 4096 = subst (λ (y : ℕ). p ≤ y / 4096) w.3 (leb→le p (get_or L i.0 0 / 4096) (and_r (leb (get_or S i.0 0 / 4096) p) (leb p (get_or L i.0 0 / 4096)) i.2)) in
      let proper = (sound.good r w.1).proper in
      elim (T-or-not (leb r.start (4096 * p))) [
        | inl h ↦ let g = leb→le r.start (4096 * p) h in (4096 * p, free← b (4096 * p) r w.1 g (omega arith), omega arith)
        | inr h ↦ let g = nleb→lt r.start (4096 * p) h in (r.start, free← b r.start r w.1 (omega arith) proper, omega arith)
      ]

  module _ (base high : ℕ) (tables : List ℕ) where
    abbrev marks : Marks
    marks = record { at = touched }

    ranges-lie : Right base high b tables → T (free_lies base high b.chain)
    unfolding free_lies
    ranges-lie h = each-one (length b.chain) (inside_of base high S L) (λ i l.
        let w = at_place b.chain i l in
        let g = h.ranges w.0 w.1 in
        and_i (leb base (get_or S i 0)) (ltb (get_or L i 0) high) (rw w.2 (le→leb base w.0.start g.0)) (rw w.3 (lt→ltb w.0.last high g.1)))

    tables-lie : Sound pool b → Right base high b tables → T (apart (base / 4096) (high / 4096) touched tables)
    unfolding apart
    tables-lie sound h = and_i (inside_all (base / 4096) (high / 4096) tables) (fine tables marks) (all-within (base / 4096) (high / 4096) tables h.within)
        (fine← tables marks (record {
          once = h.once;
          fresh = λ p i. elim (T-or-not (touched p)) [
            | inl t ↦ let w = free_in sound p t in absurd (h.untouched p w.0 i w.1 w.2)
            | inr t ↦ t
          ];
        }))

    right_of : T (free_lies base high b.chain) → T (apart (base / 4096) (high / 4096) touched tables) → Right base high b tables
    unfolding apart
    right_of free all =
        let f = fine→ tables marks (and_r (inside_all (base / 4096) (high / 4096) tables) (fine tables marks) all) in
        record {
          ranges = range_inside b base high free;
          within = λ p i. let t = inside-in (base / 4096) (high / 4096) tables (and_l (inside_all (base / 4096) (high / 4096) tables) (fine tables marks) all) p i in
              (leb→le (base / 4096) p (and_l (leb (base / 4096) p) (ltb p (high / 4096)) t), ltb→lt p (high / 4096) (and_r (leb (base / 4096) p) (ltb p (high / 4096)) t));
          once = f.once;
          untouched = λ p x i t e. T-no (touched p) (f.fresh p i) (subst (λ (y : ℕ). T (touched y)) e (byte-touched b x t));
        }

-- ---- the whole test

module _ (base : ℕ) (t : Top) (l A : List ℕ) where
  abbrev high : ℕ
  high = top_byte_lem base (length A)

  abbrev book : Book
  book = book_of pool (state_in_lem current l)

  pub record Lies : Type 0 where
    pub low : base ≤ output_top
    pub reads : readable current l ≡ true
    pub right : Right base high book (reached_in (base / 8) A t)

  pub lies→ : T (lies base t l A) → Lies
  unfolding lies tables_lie
  lies→ y =
      let r = readable current l in
      let f = free_lies base high (chain_in l) in
      let a = tables_lie base high (chain_in l) t A in
      let y1 = and_r (leb base output_top) (r && (f && a)) y in
      let y2 = and_r r (f && a) y1 in
      record {
        low = leb→le base output_top (and_l (leb base output_top) (r && (f && a)) y);
        reads = T_true r (and_l r (f && a) y1);
        right = right_of book base high (reached_in (base / 8) A t) (and_l f a y2) (and_r f a y2);
      }

  pub lies← : Sound pool book → Lies → T (lies base t l A)
  unfolding lies tables_lie
  lies← sound h =
      let r = readable current l in
      let f = free_lies base high (chain_in l) in
      let a = tables_lie base high (chain_in l) t A in
      and_i (leb base output_top) (r && (f && a)) (le→leb base output_top h.low)
      (and_i r (f && a) (rw h.reads tt)
      (and_i f a (ranges-lie book base high (reached_in (base / 8) A t) h.right) (tables-lie book base high (reached_in (base / 8) A t) sound h.right)))
