-- A state of the paragraph holds a sound book: that of its chain and its lists.
use Prim.Native.Nat.{ℕ, ◌<◌, ◌≤◌}
use mathlib.Core.Bool.{Bool, true, false}
use mathlib.Core.Logic.{◌≢◌, inr, ⊎_elim, ◌↔◌}
use mathlib.Core.List.{List, [], ◌∷◌, map}
use mathlib.Core.Path.{◌≡◌, refl, sym, ap, ◌∙◌, subst}
use native.Mathlib.Omega.{arith}
use borrow.Author.Tests.{eq-eqb, ne_eqb, lt-ltb}
use lib.ListN.{get_or}
use Rattle.linked_lists.specs.Links.{pick, none, head, has}
use Rattle.linked_lists.specs.Threads.{Threads, alone, only}
use Rattle.linked_lists.proofs.Laws.{same?, below?, true≢false}
use Rattle.linked_lists.proofs.Threading.{same_lists}
use Rattle.rules.specs.Rules.{size_lists, Range, Book, of_list}
use Rattle.rules.specs.Sound.{In, Ahead, Other, Smaller, Good, Sound}
use Rattle.pool_state.specs.Shown.{numbers, at, Kept, Chained, Shelved}
use Rattle.pool_state.specs.State.{Holds}
use Rattle.pool_state.specs.declared.MemoryAllocator.{MemoryAllocator}
use Rattle.check_records.specs.Records.{used}
use Rattle.check_meaning.specs.Paragraph.{Enabled, Fresh, Paragraph}
use Rattle.check_meaning.proofs.Orders.{has_first, leads-head}
use Rattle.check_meaning.proofs.Joined.{joined-out, joined-list}
use Rattle.check_meaning.proofs.BothWalks.{meets-linked}
use Rattle.check_meaning.proofs.Family.{key, head_at, Row, key-lt, family, row, row-keyed, all-rows, rows_told, rows-have, rows-once, rows-sizes}
use Rattle.check_meaning.proofs.Threaded.{linked-threads, numbers-map, in_map, map-in, pairwise_map}

no-members : (l : List ℕ) → ((x : ℕ) → has x l ≡ true → ⊥) → l ≡ []
no-members [] h = refl
no-members (x ∷ l) h = absurd (h x (has_first x l))

module _ (n : ℕ) (small : n ≤ none) (s : MemoryAllocator) (p : Paragraph n s) where
  abbrev R : ℕ → Range
  R = at s.start s.end

  abbrev xs : List ℕ
  xs = p.chain.list

  abbrev rows : (k : ℕ) → Row n s k (head_at n s k)
  rows = family n s p.lists

  abbrev js : List ℕ
  js = all-rows n s rows

  abbrev pub book : Book
  book = record { chain = map R xs; shelf = map R js }

  chain-has : (i : ℕ) → i < n → Enabled s i → has i xs ≡ true
  chain-has i b u = (p.chain.exactly i).1 (b, u)

  -- a record in no list is fresh
  out : (i : ℕ) → i < n → (Enabled s i → ⊥) → Fresh s i
  out i b f = go (used s.enabled i) refl
    where
      go : (t : Bool) → used s.enabled i ≡ t → Fresh s i
      go true e = absurd (f e)
      go false e = p.unused i b e

  good : (r : Range) → In r (map R xs) → Good n r
  good r m =
      let w = in_map s.start s.end r xs m in
      let v = (p.chain.exactly w.0).0 w.1 in
      let g = p.proper w.0 v.0 v.1 in
      subst (Good n) (sym w.2) (record { known = v.0; proper = g.0; below = g.1 })

  members : (r : Range) → In r (map R xs) ↔ In r (map R js)
  members r = (
    λ m.
        let w = in_map s.start s.end r xs m in
        let v = (p.chain.exactly w.0).0 w.1 in
        subst (λ (q : Range). In q (map R js)) (sym w.2) (map-in s.start s.end w.0 js (rows-have n s rows w.0 v.0 v.1)),
    λ m.
        let w = in_map s.start s.end r js m in
        let v = rows_told n s rows w.0 w.1 in
        subst (λ (q : Range). In q (map R xs)) (sym w.2) (map-in s.start s.end w.0 xs (chain-has w.0 v.0 v.1)),
  )

  sound : Sound n book
  sound = record {
    good = good;
    apart = pairwise_map s.start s.end Ahead xs p.chain.order;
    once = pairwise_map s.start s.end Other xs p.chain.once;
    sizes = pairwise_map s.start s.end Smaller js (rows-sizes n s rows);
    once-shelf = pairwise_map s.start s.end Other js (rows-once n s rows);
    same = members;
  }

  stands : (l : List ℕ) (r : Range) → In r (map R l) → R r.number ≡ r
  stands l r m = let e = (in_map s.start s.end r l m).2 in ap (λ (q : Range). R q.number) e ∙ sym e

  not-used : (i : ℕ) → i < n → ((r : Range) → In r (map R xs) → i ≢ r.number) → Enabled s i → ⊥
  not-used i b f u = f (R i) (map-in s.start s.end i xs (chain-has i b u)) refl

  kept : Kept n (map R xs) s.start s.end s.enabled
  kept = record {
    marked = record {
      enabled-length = p.sized.enabled;
      on = λ r m. let w = in_map s.start s.end r xs m in ap (λ (q : Range). used s.enabled q.number) w.2 ∙ ((p.chain.exactly w.0).0 w.1).1;
      off = λ i b f. go i (not-used i b f) (used s.enabled i) refl;
    };
    start-length = p.sized.start;
    end-length = p.sized.end;
    stand = stands xs;
    clear = λ i b f. let w = out i b (not-used i b f) in (w.start, w.end);
  }
    where
      go : (i : ℕ) → (Enabled s i → ⊥) → (t : Bool) → used s.enabled i ≡ t → used s.enabled i ≡ false
      go i f true e = absurd (f e)
      go i f false e = e

  chained : Chained n (map R xs) s.first_entry.0 s.previous s.next
  chained = record {
    threads = subst (λ (l : List ℕ). Threads n alone (only l) s.previous s.next) (sym (numbers-map s.start s.end xs))
        (linked-threads n small alone (only xs) s.previous s.next p.sized.previous p.sized.next
        (λ k. ⊎_elim
        (λ (e : k ≡ 0). rw (eq-eqb k 0 e) (meets-linked small p.chain))
        (λ (d : k ≢ 0). rw (ne_eqb k 0 d) tt)
        (same? k 0))
        (λ k i h. ⊎_elim (λ (e : k ≡ 0). sym e) (λ (d : k ≢ 0). true≢false (sym (rw (ne_eqb k 0 d) at h))) (same? k 0))
        (λ i b h. let w = out i b (λ u. true≢false (sym (chain-has i b u) ∙ h)) in (w.previous, w.next)));
    leads = leads-head n s.next s.previous s.first_entry.0 xs p.chain.leads ∙ ap head (sym (numbers-map s.start s.end xs));
  }

  -- list k of the shelf is row k
  row_of : (k : ℕ) → row n s rows k ≡ numbers (of_list k (map R js))
  row_of k = ⊎_elim
      (λ (b : k < size_lists). sym (ap numbers (joined-list s.start s.end (row n s rows) (row-keyed n s rows) size_lists 0 k (omega arith) (omega arith)) ∙ numbers-map s.start s.end (row n s rows k)))
      (λ (b : size_lists ≤ k).
      no-members (row n s rows k) (λ x h. let e = row-keyed n s rows k x h in let l = key-lt n s x in let z : ⊥ = omega arith in z)
      ∙ sym (ap numbers (joined-out s.start s.end (row n s rows) (row-keyed n s rows) size_lists 0 k (inr (omega arith)))))
      (below? k size_lists)

  shelved : Shelved n (map R js) s.start s.end s.list_prev s.list_next s.free_list
  shelved = record {
    start-length = p.sized.start;
    end-length = p.sized.end;
    sizes = sound.sizes;
    good = λ r m. good r ((members r).1 m);
    stand = stands js;
    threads = same_lists n small (key n s) (row n s rows) s.list_prev s.list_next
        (linked-threads n small (key n s) (row n s rows) s.list_prev s.list_next p.sized.list_prev p.sized.list_next
        (λ k. meets-linked small (rows k))
        (row-keyed n s rows)
        (λ i b h. let w = out i b (λ u. true≢false (sym (((rows (key n s i)).exactly i).1 (b, (u, refl))) ∙ h)) in (w.list_prev, w.list_next)))
        (λ k. numbers (of_list k (map R js))) row_of;
    heads-length = p.sized.heads;
    firsts = λ k b.
        sym (ap (λ (t : Bool). pick t (get_or s.free_list k 0) none) (lt-ltb k size_lists b))
        ∙ leads-head n s.list_next s.list_prev (head_at n s k) (row n s rows k) (rows k).leads
        ∙ ap head (row_of k);
  }

  pub holding : Holds n book s
  holding = record { shape = record { sound = sound; kept = kept; chained = chained; shelved = shelved }; counts = p.total }
