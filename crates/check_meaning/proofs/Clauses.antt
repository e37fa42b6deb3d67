-- Clauses of the paragraph that follow from the others: that links are none or numbers of records; and what the walk along the chain counts and adds up.
use Prim.Native.Nat.{ℕ, ◌+◌, ◌<◌, ◌≤◌}
use mathlib.Core.Bool.{Bool, true, false}
use mathlib.Core.Logic.{inl}
use mathlib.Core.List.{map}
use mathlib.Core.Path.{◌≡◌, refl}
use native.Mathlib.Omega.{arith}
use lib.ListN.{length, get_or}
use Rattle.linked_lists.specs.Links.{none, count}
use Rattle.rules.specs.Rules.{size_lists, sum}
use Rattle.pool_state.specs.Shown.{at}
use Rattle.pool_state.specs.declared.MemoryAllocator.{MemoryAllocator}
use Rattle.check_links.specs.Walk.{sum_along}
use Rattle.check_records.specs.Records.{used, Proper}
use Rattle.check_links.specs.Walks.{size_at}
use Rattle.check_meaning.specs.Paragraph.{Sized, Links, Meets, Enabled, ByAddress, Fresh, Paragraph}
use Rattle.check_meaning.proofs.BothWalks.{meets-first, meets-links}
use Rattle.check_meaning.proofs.Family.{key, Row, key-lt, counted}
use Rattle.check_meaning.proofs.Sums.{sum-along}

module _ (n : ℕ) (small : n ≤ none) (s : MemoryAllocator) where
  abbrev pub Chain : Type 0
  Chain = Meets n (Enabled s) (ByAddress s) s.next s.previous s.first_entry.0

  -- its records are those in use, and the walk along it adds up their sizes
  module _ (chain : Chain) where
    pub chain_length : count (used s.enabled) n ≡ length chain.list + 0
    chain_length =
        let k = counted n (used s.enabled) chain.list chain.once (λ x m. (chain.exactly x).0 m) (λ x b u. (chain.exactly x).1 (b, u)) in
        omega arith

    pub chain-sum : sum_along (λ i. get_or s.next i 0) (size_at s.start s.end) (count (used s.enabled) n) s.first_entry.0 ≡ sum (map (at s.start s.end) chain.list)
    chain-sum =
        rw chain_length
        (sum-along s.next s.start s.end chain.list 0 s.first_entry.0 chain.leads (λ x m. let b = ((chain.exactly x).0 m).0 in omega arith))

  module _ (chain : Chain) (lists : (k : ℕ) → k < size_lists → Row n s k (get_or s.free_list k 0)) (unused : (i : ℕ) → i < n → used s.enabled i ≡ false → Fresh s i) where
    all-links : (i : ℕ) → i < n → Links n s i
    all-links i b = go (used s.enabled i) refl
      where
        go : (t : Bool) → used s.enabled i ≡ t → Links n s i
        go true e =
            let a = meets-links small chain i b e in
            let k = key n s i in
            let z = meets-links small (lists k (key-lt n s i)) i b (e, refl) in
            record { previous = a.0; next = a.1; list_prev = z.0; list_next = z.1 }
        go false e =
            let f = unused i b e in
            record { previous = inl f.previous; next = inl f.next; list_prev = inl f.list_prev; list_next = inl f.list_next }

    pub paragraph-of : Sized n s → Proper n s.start s.end s.enabled → s.free_size ≡ sum (map (at s.start s.end) chain.list) → Paragraph n s
    paragraph-of sized proper total = record {
      sized = sized;
      first = meets-first small chain;
      heads = λ k b. meets-first small (lists k b);
      links = all-links;
      chain = chain;
      lists = lists;
      proper = proper;
      unused = unused;
      total = total;
    }
