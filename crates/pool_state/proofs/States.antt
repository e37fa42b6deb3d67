-- The state that holds a book is one, and every sound book has one.
use Prim.Native.Nat.{ℕ, suc, ◌-◌, ◌<◌}
use mathlib.Core.Bool.{Bool, false}
use mathlib.Core.Logic.{◌≢◌, inl, inr, ⊎_elim}
use mathlib.Core.List.{List, [], ◌∷◌}
use mathlib.Core.Option.{Option, none, some}
use mathlib.Core.Path.{◌≡◌, refl, sym, ap, ◌∙◌}
use lib.ListN.{length, get_or, replicate}
use lib.Seq.{ext_get_or}
use lib.Dec.{eqb, eqb→eq, eqb_refl}
use native.Mathlib.Omega.{arith}
use native.Mathlib.Nat.{zero-add}
use borrow.Author.Tests.{eq-eqb, ne_eqb}
use Rattle.linked_lists.specs.Links as links
use Rattle.linked_lists.specs.Links.{before, after, tab, Listed}
use Rattle.linked_lists.proofs.Laws.{same?, true≢false, length-tab, get_or-tab, replicate-tab}
use Rattle.rules.specs.Rules.{size_lists, Range, range, Book, empty, sum, find, list_number, of_list}
use Rattle.rules.specs.Sound.{In, Pairwise}
use Rattle.rules_laws.proofs.Lists.{Found, found, neq, T-no}
use Rattle.rules.specs.Sound.{Sound, Other}
use Rattle.rules_laws.proofs.Kept.{same_number}
use Rattle.rules_laws.proofs.Shelf.{num, of_list-in, of_list-number, of_list-pairwise}
use Rattle.pool_state.specs.Shown.{numbers, at, key_at, Kept}
use Rattle.pool_state.specs.State.{arrays, Holds, in_record, start_in, last_in, used_in, list_in_lem, state_of}
use Rattle.pool_state.specs.declared.MemoryAllocator.{MemoryAllocator}
use Rattle.pool_state.proofs.Walks.{has_in, fresh-numbers}

pub by-tab : {A : Type 0} (d : A) (n : ℕ) (xs : List A) (f : ℕ → A) → length xs ≡ n → ((i : ℕ) → i < n → get_or xs i d ≡ f i) → xs ≡ tab n 0 f
by-tab d n xs f len h =
    ext_get_or d xs (tab n 0 f) (len ∙ sym (length-tab n 0 f))
    (λ i b. let b' : i < n = omega arith in h i b' ∙ sym (get_or-tab n 0 i f d b' ∙ ap f (zero-add i)))

pub at-tab : {A : Type 0} (d : A) (n : ℕ) (f : ℕ → A) (i : ℕ) → i < n → get_or (tab n 0 f) i d ≡ f i
at-tab d n f i b = get_or-tab n 0 i f d b ∙ ap f (zero-add i)

-- ---- the state is the one

module _ (n : ℕ) (b : Book) (start end : List ℕ) (en : List Bool) (k : Kept n b.chain start end en) (i : ℕ) (bi : i < n) where
  record-in : (get_or start i 0 ≡ start_in (in_record b i)) × (get_or end i 0 ≡ last_in (in_record b i)) × (get_or en i false ≡ used_in (in_record b i))
  unfolding in_record
  record-in = go (find (λ r. eqb i r.number) b.chain) (found (λ r. eqb i r.number) b.chain)
    where
      go : (o : Option Range) → Found (λ r. eqb i r.number) b.chain o → (get_or start i 0 ≡ start_in o) × (get_or end i 0 ≡ last_in o) × (get_or en i false ≡ used_in o)
      go none f = let g : (r : Range) → In r b.chain → i ≢ r.number = λ r m. neq i r.number (f r m) in ((k.clear i bi g).0, (k.clear i bi g).1, k.marked.off i bi g)
      go (some r) f =
          let e = eqb→eq i r.number f.1 in
          let q = ap (at start end) e ∙ k.stand r f.0 in
          (ap (λ (x : Range). x.start) q, ap (λ (x : Range). x.last) q, ap (λ (j : ℕ). get_or en j false) e ∙ k.marked.on r f.0)

  key_in : key_at start end i ≡ list_in_lem (in_record b i)
  key_in = let w = record-in in let e₁ = w.0 in let e₂ = w.1 in (λ z. list_number (suc (e₂ z) - e₁ z))

pub holds-state : (n : ℕ) (b : Book) (s : MemoryAllocator) → Holds n b s → s ≡ state_of n b
unfolding state_of
holds-state n b s h =
    let t = h.shape in
    let e₁ = h.counts in
    let e₂ = t.chained.leads in
    let e₃ = by-tab 0 size_lists s.free_list _ t.shelved.heads-length t.shelved.firsts in
    let e₄ = by-tab 0 n s.start _ t.kept.start-length (λ i bi. (record-in n b s.start s.end s.enabled t.kept i bi).0) in
    let e₅ = by-tab 0 n s.end _ t.kept.end-length (λ i bi. (record-in n b s.start s.end s.enabled t.kept i bi).1) in
    let e₆ = by-tab false n s.enabled _ t.kept.marked.enabled-length (λ i bi. (record-in n b s.start s.end s.enabled t.kept i bi).2) in
    let e₇ = by-tab 0 n s.previous _ t.chained.threads.prev-length t.chained.threads.prevs in
    let e₈ = by-tab 0 n s.next _ t.chained.threads.next-length t.chained.threads.nexts in
    let e₉ = by-tab 0 n s.list_prev (λ i. before (numbers (of_list (list_in_lem (in_record b i)) b.shelf)) i) t.shelved.threads.prev-length
    (λ i bi. t.shelved.threads.prevs i bi ∙ ap (λ (k : ℕ). before (numbers (of_list k b.shelf)) i) (key_in n b s.start s.end s.enabled t.kept i bi)) in
    let e₀ = by-tab 0 n s.list_next (λ i. after (numbers (of_list (list_in_lem (in_record b i)) b.shelf)) i) t.shelved.threads.next-length
    (λ i bi. t.shelved.threads.nexts i bi ∙ ap (λ (k : ℕ). after (numbers (of_list k b.shelf)) i) (key_in n b s.start s.end s.enabled t.kept i bi)) in
    (λ z. arrays (e₁ z) (e₂ z) (e₃ z) (e₄ z) (e₅ z) (e₆ z) (e₇ z) (e₈ z) (e₉ z) (e₀ z))

-- ---- every sound book has a state

found-record : (n : ℕ) (b : Book) → Sound n b → (r : Range) → In r b.chain → in_record b r.number ≡ some r
unfolding in_record
found-record n b s r m = go (find (λ q. eqb r.number q.number) b.chain) (found (λ q. eqb r.number q.number) b.chain)
  where
    go : (o : Option Range) → Found (λ q. eqb r.number q.number) b.chain o → o ≡ some r
    go none f = absurd (T-no (eqb r.number r.number) (f r m) (eqb_refl r.number))
    go (some q) f = ap some (same_number n b q r s f.0 m (sym (eqb→eq r.number q.number f.1)))

no_record : (b : Book) (i : ℕ) → ((r : Range) → In r b.chain → i ≢ r.number) → in_record b i ≡ none
unfolding in_record
no_record b i h = go (find (λ q. eqb i q.number) b.chain) (found (λ q. eqb i q.number) b.chain)
  where
    go : (o : Option Range) → Found (λ q. eqb i q.number) b.chain o → o ≡ none
    go none f = refl
    go (some q) f = absurd (h q f.0 (eqb→eq i q.number f.1))

listed-numbers : (n : ℕ) (l : List Range) → Pairwise Other l → ((r : Range) → In r l → r.number < n) → Listed n (numbers l)
listed-numbers n [] p g = tt
listed-numbers n (r ∷ l) p g = (g r (inl refl), fresh-numbers r.number l p.0, listed-numbers n l p.1 (λ q m. g q (inr m)))

module _ (n : ℕ) (b : Book) (s : Sound n b) where
  abbrev start : List ℕ
  start = tab n 0 (λ i. start_in (in_record b i))

  abbrev end : List ℕ
  end = tab n 0 (λ i. last_in (in_record b i))

  stands : (r : Range) → In r b.chain → at start end r.number ≡ r
  stands r m =
      let e = found-record n b s r m in
      let k = (s.good r m).known in
      let e₁ = at-tab 0 n (λ i. start_in (in_record b i)) r.number k ∙ ap start_in e in
      let e₂ = at-tab 0 n (λ i. last_in (in_record b i)) r.number k ∙ ap last_in e in
      (λ z. range r.number (e₁ z) (e₂ z))

  key_of : (i : ℕ) → i < n → list_in_lem (in_record b i) ≡ key_at start end i
  key_of i bi =
      let e₁ = at-tab 0 n (λ i. start_in (in_record b i)) i bi in
      let e₂ = at-tab 0 n (λ i. last_in (in_record b i)) i bi in
      sym (λ z. list_number (suc (e₂ z) - e₁ z))

  pub state-holds : Holds n b (state_of n b)
  unfolding state_of
  state-holds = record {
    counts = refl;
    shape = record {
      sound = s;
      kept = record {
        marked = record {
          enabled-length = length-tab n 0 _;
          on = λ r m. at-tab false n _ r.number (s.good r m).known ∙ ap used_in (found-record n b s r m);
          off = λ i bi f. at-tab false n _ i bi ∙ ap used_in (no_record b i f);
        };
        start-length = length-tab n 0 _;
        end-length = length-tab n 0 _;
        stand = stands;
        clear = λ i bi f. (at-tab 0 n _ i bi ∙ ap start_in (no_record b i f), at-tab 0 n _ i bi ∙ ap last_in (no_record b i f));
      };
      chained = record {
        threads = record {
          prev-length = length-tab n 0 _;
          next-length = length-tab n 0 _;
          listed = λ k. ⊎_elim (λ (e : k ≡ 0). rw (eq-eqb k 0 e) (listed-numbers n b.chain s.once (λ r m. (s.good r m).known))) (λ (e : k ≢ 0). rw (ne_eqb k 0 e) tt) (same? k 0);
          keyed = λ k i h. ⊎_elim (λ (e : k ≡ 0). sym e) (λ (e : k ≢ 0). true≢false (sym (rw (ne_eqb k 0 e) at h))) (same? k 0);
          prevs = λ i bi. at-tab 0 n _ i bi;
          nexts = λ i bi. at-tab 0 n _ i bi;
        };
        leads = refl;
      };
      shelved = record {
        start-length = length-tab n 0 _;
        end-length = length-tab n 0 _;
        sizes = s.sizes;
        good = λ r m. s.good r ((s.same r).1 m);
        stand = λ r m. stands r ((s.same r).1 m);
        threads = record {
          prev-length = length-tab n 0 _;
          next-length = length-tab n 0 _;
          listed = λ k. listed-numbers n (of_list k b.shelf) (of_list-pairwise Other k b.shelf s.once-shelf) (λ r m. (s.good r ((s.same r).1 (of_list-in k b.shelf r m))).known);
          keyed = λ k i h. let w = has_in i (of_list k b.shelf) h in
              ap (key_at start end) w.2 ∙ ap num (stands w.0 ((s.same w.0).1 (of_list-in k b.shelf w.0 w.1))) ∙ of_list-number k b.shelf w.0 w.1;
          prevs = λ i bi. at-tab 0 n _ i bi ∙ ap (λ (k : ℕ). before (numbers (of_list k b.shelf)) i) (key_of i bi);
          nexts = λ i bi. at-tab 0 n _ i bi ∙ ap (λ (k : ℕ). after (numbers (of_list k b.shelf)) i) (key_of i bi);
        };
        heads-length = length-tab size_lists 0 _;
        firsts = λ k bk. at-tab 0 size_lists _ k bk;
      };
    };
  }

-- a range of the book stands in its record
pub stands_at : (n : ℕ) (b : Book) (s : MemoryAllocator) → Holds n b s → (i : ℕ) (r : Range) → i ≡ r.number → In r b.chain → (i < n) × (get_or s.start i 0 ≡ r.start) × (get_or s.end i 0 ≡ r.last)
stands_at n b s h i r e m =
    let q : at s.start s.end i ≡ r = rw e (h.shape.kept.stand r m) in
    (rw e (h.shape.sound.good r m).known, ap (λ (z : Range). z.start) q, ap (λ (z : Range). z.last) q)

-- two states that hold one book are one
pub same-state : (n : ℕ) (b : Book) (s s' : MemoryAllocator) → Holds n b s → Holds n b s' → s ≡ s'
same-state n b s s' h h' = holds-state n b s h ∙ sym (holds-state n b s' h')

-- ---- the state of the empty book

pub fresh-state : (n : ℕ) → arrays 0 links.none (replicate size_lists links.none) (replicate n 0) (replicate n 0) (replicate n false) (replicate n links.none) (replicate n links.none) (replicate n links.none) (replicate n links.none) ≡ state_of n empty
unfolding state_of in_record find of_list sum
fresh-state n =
    let bytes = replicate-tab {A = ℕ} n 0 0 in
    let used = replicate-tab n 0 false in
    let linked = replicate-tab n 0 links.none in
    let heads = replicate-tab size_lists 0 links.none in
    (λ z. arrays 0 links.none (heads z) (bytes z) (bytes z) (used z) (linked z) (linked z) (linked z) (linked z))
