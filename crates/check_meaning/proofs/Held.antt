-- A state that holds a book is one of the paragraph.
use Prim.Native.Nat.{ℕ, ◌<◌, ◌≤◌}
use mathlib.Core.Bool.{Bool, true, false}
use mathlib.Core.List.{List}
use mathlib.Core.Path.{◌≡◌, refl, sym, ap, ◌∙◌, subst}
use lib.ListN.{get_or}
use Rattle.linked_lists.specs.Links.{none, has}
use Rattle.linked_lists.specs.Threads.{alone, only}
use Rattle.linked_lists.proofs.Laws.{true≢false, not-has, before-none, after_none}
use Rattle.rules.specs.Rules.{size_lists, Range, Book, of_list, sum}
use Rattle.rules.specs.Sound.{In, Ahead, Smaller, Good}
use Rattle.rules_laws.proofs.Shelf.{num, of_list-in, in-of_list, of_list-pairwise}
use Rattle.pool_state.specs.Shown.{numbers, at}
use Rattle.pool_state.specs.State.{Holds}
use Rattle.pool_state.specs.declared.MemoryAllocator.{MemoryAllocator}
use Rattle.pool_state.proofs.Walks.{in-has, has_in, in-fresh}
use Rattle.pool_state.proofs.Book.{at-numbers}
use Rattle.check_records.specs.Records.{used, Proper}
use Rattle.check_meaning.specs.Paragraph.{Sized, Enabled, Fresh, Paragraph}
use Rattle.check_meaning.proofs.Orders.{linked-leads, linked-back, listed-once}
use Rattle.check_meaning.proofs.Family.{key, Row}
use Rattle.check_meaning.proofs.Clauses.{Chain, paragraph-of}
use Rattle.check_meaning.proofs.Threaded.{threads-linked, pairwise-numbers}

module _ (n : ℕ) (small : n ≤ none) (b : Book) (s : MemoryAllocator) (h : Holds n b s) where
  abbrev xs : List ℕ
  xs = numbers b.chain

  abbrev ls : ℕ → List ℕ
  ls k = numbers (of_list k b.shelf)

  -- the record of each range of the chain
  chain-told : (x : ℕ) → has x xs ≡ true → (x < n) × Enabled s x
  chain-told x m =
      let w = has_in x b.chain m in (
        subst (λ (i : ℕ). i < n) (sym w.2) (h.shape.sound.good w.0 w.1).known,
        subst (λ (i : ℕ). Enabled s i) (sym w.2) (h.shape.kept.marked.on w.0 w.1),
      )

  used-range : (x : ℕ) → x < n → Enabled s x → (q : Range) × In q b.chain × (x ≡ q.number)
  used-range x l u = has_in x b.chain (go (has x xs) refl)
    where
      go : (t : Bool) → has x xs ≡ t → has x xs ≡ true
      go true e = e
      go false e = true≢false (sym u ∙ h.shape.kept.marked.off x l (in-fresh x b.chain (not-has x xs e)))

  unused-out : (x : ℕ) → used s.enabled x ≡ false → has x xs ≡ false
  unused-out x e = go (has x xs) refl
    where
      go : (t : Bool) → has x xs ≡ t → has x xs ≡ false
      go true m = true≢false (sym (chain-told x m).1 ∙ e)
      go false m = m

  shelf-chain : (k : ℕ) (q : Range) → In q (of_list k b.shelf) → In q b.chain
  shelf-chain k q m = (h.shape.sound.same q).1 (of_list-in k b.shelf q m)

  list-chain : (k x : ℕ) → has x (ls k) ≡ true → has x xs ≡ true
  list-chain k x m =
      let w = has_in x (of_list k b.shelf) m in
      subst (λ (i : ℕ). has i xs ≡ true) (sym w.2) (in-has w.0 b.chain (shelf-chain k w.0 w.1))

  chain : Chain n small s
  chain =
      let l = threads-linked n small alone (only xs) s.previous s.next h.shape.chained.threads 0 in record {
        list = xs;
        leads = linked-leads n s.next s.previous none s.first_entry.0 xs l h.shape.chained.leads;
        exactly = λ x. (chain-told x, λ w. let r = used-range x w.0 w.1 in subst (λ (i : ℕ). has i xs ≡ true) (sym r.2) (in-has r.0 b.chain r.1));
        once = listed-once n xs (h.shape.chained.threads.listed 0);
        order = pairwise-numbers s.start s.end Ahead b.chain h.shape.kept.stand h.shape.sound.apart;
        reverse = linked-back n s.next s.previous none xs l;
      }

  rows : (k : ℕ) → k < size_lists → Row n s k (get_or s.free_list k 0)
  rows k bk =
      let v = h.shape.shelved in
      let l = threads-linked n small (key n s) ls s.list_prev s.list_next v.threads k in record {
        list = ls k;
        leads = linked-leads n s.list_next s.list_prev none (get_or s.free_list k 0) (ls k) l (v.firsts k bk);
        exactly = λ x. (
          λ m. let w = chain-told x (list-chain k x m) in (w.0, (w.1, v.threads.keyed k x m)),
          λ w.
              let r = used-range x w.0 w.1.0 in
              let q = r.0 in
              let e : num q ≡ k = ap num (sym (ap (at s.start s.end) r.2 ∙ h.shape.kept.stand q r.1)) ∙ w.1.1 in
              subst (λ (i : ℕ). has i (ls k) ≡ true) (sym r.2) (in-has q (of_list k b.shelf) (subst (λ (j : ℕ). In q (of_list j b.shelf)) e (in-of_list q b.shelf ((h.shape.sound.same q).0 r.1)))),
        );
        once = listed-once n (ls k) (v.threads.listed k);
        order = pairwise-numbers s.start s.end Smaller (of_list k b.shelf) (λ r m. v.stand r (of_list-in k b.shelf r m)) (of_list-pairwise Smaller k b.shelf v.sizes);
        reverse = linked-back n s.list_next s.list_prev none (ls k) l;
      }

  fresh : (i : ℕ) → i < n → used s.enabled i ≡ false → Fresh s i
  fresh i l e =
      let o = unused-out i e in
      let f = not-has i xs o in
      let w = h.shape.kept.clear i l (in-fresh i b.chain f) in
      let t = h.shape.chained.threads in
      let v = h.shape.shelved.threads in
      let g = not-has i (ls (key n s i)) (not_in (has i (ls (key n s i))) refl) in record {
        start = w.0;
        end = w.1;
        previous = t.prevs i l ∙ before-none none i xs f;
        next = t.nexts i l ∙ after_none i xs f;
        list_prev = v.prevs i l ∙ before-none none i (ls (key n s i)) g;
        list_next = v.nexts i l ∙ after_none i (ls (key n s i)) g;
      }
    where
      not_in : (t : Bool) → has i (ls (key n s i)) ≡ t → has i (ls (key n s i)) ≡ false
      not_in true m = true≢false (sym (list-chain (key n s i) i m) ∙ unused-out i e)
      not_in false m = m

  proper : Proper n s.start s.end s.enabled
  proper i l u =
      let r = used-range i l u in
      let g = subst (Good n) (sym (ap (at s.start s.end) r.2 ∙ h.shape.kept.stand r.0 r.1)) (h.shape.sound.good r.0 r.1) in
      (g.proper, g.below)

  sized : Sized n s
  sized = record {
    heads = h.shape.shelved.heads-length;
    start = h.shape.kept.start-length;
    end = h.shape.kept.end-length;
    enabled = h.shape.kept.marked.enabled-length;
    previous = h.shape.chained.threads.prev-length;
    next = h.shape.chained.threads.next-length;
    list_prev = h.shape.shelved.threads.prev-length;
    list_next = h.shape.shelved.threads.next-length;
  }

  pub held : Paragraph n s
  unfolding chain
  held = paragraph-of n small s chain rows fresh sized proper (h.counts ∙ ap sum (sym (at-numbers s.start s.end b.chain h.shape.kept.stand)))
