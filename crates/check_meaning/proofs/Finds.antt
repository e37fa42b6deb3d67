-- A state that passes the check is one of the paragraph.
use Prim.Native.Nat.{ℕ, zero, suc, ◌+◌, ◌<◌, ◌≤◌}
use mathlib.Core.Bool.{Bool, true, false}
use mathlib.Core.Logic.{◌≢◌, ⊎_elim}
use mathlib.Core.List.{List, []}
use mathlib.Core.Path.{◌≡◌, sym, ap, ◌∙◌, subst}
use native.Mathlib.Omega.{arith}
use borrow.Author.Tests.{eqb-true, lt-ltb, le-ltb}
use lib.Dec.{eqb}
use lib.ListN.{length, get_or, length-append}
use Rattle.linked_lists.specs.Links.{pick, none, head, has, follow, Linked, count}
use Rattle.linked_lists.proofs.Laws.{same?, below?, true≢false, follow-walk, length-listed}
use Rattle.linked_lists.proofs.Check.{covers, linked-listed, linked-after}
use Rattle.rules.specs.Rules.{size_lists}
use Rattle.pool_state.specs.declared.MemoryAllocator.{MemoryAllocator}
use Rattle.check_links.specs.Walk.{sum_along, onward}
use Rattle.check_records.specs.Records.{record_ok, all, record_at, used, Proper}
use Rattle.check_links.specs.Walks.{size_at, chain_walk, chain_ok_lem, chain_step_lem, list_step, list_walk, lists_ok_lem}
use Rattle.check_state.specs.IsSound.{is_sound_lem, chain_in, lists_in}
use Rattle.check_meaning.specs.Paragraph.{Sized, Enabled, ByAddress, BySize, InOrder, Fresh, Paragraph}
use Rattle.std.specs.Prelude.{Some}
use Rattle.check_records.proofs.Tests.{and-true}
use Rattle.check_records.proofs.Records.{all-at, ok-fresh, all-proper}
use Rattle.check_links.proofs.Lists.{onward-told}
use Rattle.check_state.proofs.Whole.{sound-told}
use Rattle.check_meaning.proofs.Orders.{leads-head, leads-linked, listed-once, once-listed}
use Rattle.check_meaning.proofs.Walked.{Tests, Met, walk_meets, met_all}
use Rattle.check_meaning.proofs.BothWalks.{chain-tests, list-tests}
use Rattle.check_meaning.proofs.Joined.{joined, joined-has, joined-order}
use Rattle.check_meaning.proofs.Family.{key, OfList, head_at, Row}
use Rattle.check_meaning.proofs.Clauses.{Chain, chain-sum, paragraph-of}

-- the list that a walk meets is what the links lead through
module _ (n : ℕ) (small : n ≤ none) (next prev : List ℕ) (i : ℕ) (xs : List ℕ) (l : Linked n (λ j. get_or next j 0) (λ j. get_or prev j 0) none xs) (e : i ≡ head xs) where
  pub linked-follow : follow (λ j. get_or next j 0) n i ≡ xs
  linked-follow =
      let m = linked-listed n small (λ j. get_or next j 0) (λ j. get_or prev j 0) xs l in
      ap (follow (λ j. get_or next j 0) n) e
      ∙ follow-walk n small (λ j. get_or next j 0) [] xs m (linked-after n small (λ j. get_or next j 0) (λ j. get_or prev j 0) none xs l) n (length-listed n xs m)

module _ (n : ℕ) (small : n ≤ none) (s : MemoryAllocator) where
  abbrev on : ℕ → Bool
  on = used s.enabled

  abbrev c : ℕ
  c = count on n

  abbrev at_first : ℕ
  at_first = s.first_entry.0

  -- ---- the records

  abbrev Every : Type 0
  Every = all (record_at s.start s.end s.enabled s.previous s.next s.list_prev s.list_next) n ≡ true

  every-unused : Every → (i : ℕ) → i < n → on i ≡ false → Fresh s i
  every-unused h i b e =
      let f = ok-fresh _ _ _ _ _ _
      (subst
      (λ (t : Bool). record_ok t (get_or s.start i 0) (get_or s.end i 0) (get_or s.previous i 0) (get_or s.next i 0) (get_or s.list_prev i 0) (get_or s.list_next i 0) ≡ true)
      e (all-at _ n h i b)) in
      record { start = f.0; end = f.1; previous = f.2; next = f.3; list_prev = f.4; list_next = f.5 }

  module _ (good : Proper n s.start s.end s.enabled) where
    -- ---- the chain

    abbrev chain-kind : Tests n s.previous (λ i. get_or s.start i 0) (λ i. get_or s.end i 0 + 2) (Enabled s) (ByAddress s) (chain_step_lem n s.start s.enabled s.previous)
    chain-kind = chain-tests n s.start s.end s.enabled s.previous good

    abbrev ChainMet : ℕ → Type 0
    ChainMet f = Met small s.next chain-kind none 0 at_first f 0

    chain-found : chain_in n s c ≡ true
        → ChainMet c × (sum_along (λ i. get_or s.next i 0) (size_at s.start s.end) c at_first ≡ s.free_size)
    unfolding chain_ok_lem
    chain-found h =
        let w = and-true (onward (λ f. eqb f 0) (chain_walk n s.start s.end s.enabled s.previous s.next c none 0 at_first)) _ h in
        let o = onward-told (λ f. eqb f 0) (chain_walk n s.start s.end s.enabled s.previous s.next c none 0 at_first) w.0 in (
          walk_meets small s.next chain-kind c 0 none 0 at_first (o.1 ∙ ap Some (eqb-true o.0 0 o.2)),
          eqb-true _ _ w.1,
        )

    -- ---- the lists

    abbrev list-kind : (k : ℕ) → Tests n s.list_prev (size_at s.start s.end) (size_at s.start s.end) (OfList n s k) (BySize s) (list_step n s.start s.end s.enabled s.list_prev k)
    list-kind k = list-tests n s.start s.end s.enabled s.list_prev k

    abbrev ListMet : ℕ → ℕ → ℕ → ℕ → Type 0
    ListMet k i f g = Met small s.list_next (list-kind k) none 0 i f g

    -- what the links of list k lead through
    abbrev ls : ℕ → List ℕ
    ls k = follow (λ j. get_or s.list_next j 0) n (head_at n s k)

    pub record Met-list (k : ℕ) : Type 0 where
      pub given : ℕ
      pub left : ℕ
      pub met : ListMet k (head_at n s k) given left
      pub same : met.list ≡ ls k

    met-linked : (k i f g : ℕ) (m : ListMet k i f g) → Linked n (λ j. get_or s.list_next j 0) (λ j. get_or s.list_prev j 0) none m.list
    met-linked k i f g m = leads-linked n s.list_next s.list_prev none i m.list m.leads m.back (λ x h. (m.these x h).0)

    met-same : (k f g : ℕ) (m : ListMet k (head_at n s k) f g) → m.list ≡ ls k
    met-same k f g m =
        sym (linked-follow n small s.list_next s.list_prev (head_at n s k) m.list (met-linked k (head_at n s k) f g m) (leads-head n s.list_next s.list_prev (head_at n s k) m.list m.leads))

    lists-found : (m k f : ℕ) → k + m ≤ size_lists
        → lists_in n s m k f ≡ true
        → ((j : ℕ) → k ≤ j → j < k + m → Met-list j) × (length (joined ls m k) ≡ f)
    unfolding lists_ok_lem joined
    lists-found zero k f b h = (λ j a d. absurd (let z : ⊥ = omega arith in z), sym (eqb-true f 0 h))
    lists-found (suc m) k f b h =
        let e : head_at n s k ≡ get_or s.free_list k 0 = ap (λ (t : Bool). pick t (get_or s.free_list k 0) none) (lt-ltb k size_lists (omega arith)) in
        let walk = list_walk n s.start s.end s.enabled s.list_prev s.list_next k in
        let o = onward-told (λ g. lists_in n s m (suc k) g) (walk f none 0 (get_or s.free_list k 0)) h in
        let g = o.0 in
        let r = lists-found m (suc k) g (omega arith) o.2 in
        let w = walk_meets small s.list_next (list-kind k) f g none 0 (head_at n s k)
        (ap (walk f none 0) e ∙ o.1) in
        let same = met-same k f g w in
        let sum : length (ls k) + length (joined ls m (suc k)) ≡ f = omega (arith, r.1, w.long, ap length same) in (
          λ j a d. ⊎_elim (λ (q : k ≡ j). subst Met-list q (record { given = f; left = g; met = w; same = same })) (λ (q : k ≢ j). r.0 j (omega arith) (omega arith)) (same? k j),
          length-append (ls k) (joined ls m (suc k)) ∙ sum,
        )

    module _ (mets : (j : ℕ) → j < size_lists → Met-list j) (long : length (joined ls size_lists 0) ≡ c) where
      pub record Of-list (k : ℕ) : Type 0 where
        pub these : (x : ℕ) → has x (ls k) ≡ true → (x < n) × OfList n s k x
        pub once : InOrder (λ x y. x ≢ y) (ls k)

      of-list : (k : ℕ) → Of-list k
      of-list k = ⊎_elim
          (λ (b : k < size_lists).
          let m = mets k b in record {
            these = λ x h. m.met.these x (rw m.same h);
            once =
                let linked = met-linked k (head_at n s k) m.given m.left m.met in
                let listed = linked-listed n small (λ j. get_or s.list_next j 0) (λ j. get_or s.list_prev j 0) m.met.list linked in
                subst (InOrder (λ x y. x ≢ y)) m.same (listed-once n m.met.list listed);
          })
          (λ (b : size_lists ≤ k).
          let e : ls k ≡ [] = linked-follow n small s.list_next s.list_prev (head_at n s k) [] tt (rw (le-ltb k size_lists b)) in record {
            these = λ x h. true≢false (sym (rw e at h));
            once = subst (InOrder (λ x y. x ≢ y)) (sym e) tt;
          })
          (below? k size_lists)

      keyed : (k x : ℕ) → has x (ls k) ≡ true → key n s x ≡ k
      keyed k x h = ((of-list k).these x h).1.1

      told : (x : ℕ) → has x (joined ls size_lists 0) ≡ true → (x < n) × Enabled s x
      told x h =
          let w = joined-has (key n s) ls keyed size_lists 0 x h in
          let v = (of-list (key n s x)).these x w.2 in
          (v.0, v.1.0)

      once-all : InOrder (λ x y. x ≢ y) (joined ls size_lists 0)
      once-all = joined-order (key n s) ls keyed (λ x y. x ≢ y) (λ k. (of-list k).once) (λ x y h e. let q : key n s x ≡ key n s y = ap (key n s) e in omega arith) size_lists 0

      -- as many as there are, so each
      in-its-list : (x : ℕ) → x < n → Enabled s x → has x (ls (key n s x)) ≡ true
      in-its-list x b u =
          (joined-has (key n s) ls keyed size_lists 0 x
          (covers on n (joined ls size_lists 0) (once-listed n (joined ls size_lists 0) once-all (λ y h. (told y h).0)) (λ y h. (told y h).1) (omega arith) x b u)).2

      pub list-meets : (k : ℕ) → k < size_lists → Row n s k (get_or s.free_list k 0)
      list-meets k b =
          let m = mets k b in
          let e : head_at n s k ≡ get_or s.free_list k 0 = ap (λ (t : Bool). pick t (get_or s.free_list k 0) none) (lt-ltb k size_lists b) in
          subst (Row n s k) e
          (met_all small s.list_next (list-kind k)
          (head_at n s k) m.given m.left m.met
          (λ x bx u. rw m.same (subst (λ (j : ℕ). has x (ls j) ≡ true) u.1 (in-its-list x bx u.0))))

  -- ---- the whole

  pub finds : Sized n s → is_sound_lem n s ≡ true → Paragraph n s
  finds sized h =
      let w = sound-told n s h in
      let good = all-proper n s.start s.end s.enabled s.previous s.next s.list_prev s.list_next w.0 in
      let f = chain-found good w.1 in
      let m = f.0 in
      let linked = leads-linked n s.next s.previous none at_first m.list m.leads m.back (λ x k. (m.these x k).0) in
      let listed = linked-listed n small (λ j. get_or s.next j 0) (λ j. get_or s.previous j 0) m.list linked in
      let long = m.long in
      let chain : Chain n small s = met_all small s.next (chain-kind good) at_first c 0 m
      (covers on n m.list listed (λ x k. (m.these x k).1) (omega arith)) in
      let g = lists-found good size_lists 0 c (omega arith) w.2 in
      let lists = list-meets good (λ j b. g.0 j (omega arith) (omega arith)) g.1 in
      paragraph-of n small s chain lists (every-unused w.0) sized good
      (sym f.1 ∙ chain-sum n small s chain)
