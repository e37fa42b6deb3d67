-- A state of the paragraph passes the check.
use Prim.Native.Nat.{ℕ, zero, suc, ◌+◌, ◌<◌, ◌≤◌}
use mathlib.Core.Bool.{Bool, true, false}
use mathlib.Core.Path.{◌≡◌, refl, sym, ap, ◌∙◌}
use native.Mathlib.Omega.{arith}
use native.Mathlib.Numerals.{add-one}
use borrow.Author.Tests.{eq-eqb, lt-ltb}
use lib.Dec.{eqb}
use lib.ListN.{length, get_or, length-append}
use Rattle.linked_lists.specs.Links.{pick, none, count}
use Rattle.rules.specs.Rules.{size_lists}
use Rattle.pool_state.specs.declared.MemoryAllocator.{MemoryAllocator}
use Rattle.check_links.specs.Walk.{onward}
use Rattle.check_records.specs.Records.{record_ok, record_at, used}
use Rattle.check_links.specs.Walks.{chain_walk, chain_ok_lem, list_walk}
use Rattle.check_state.specs.IsSound.{is_sound_lem, chain_in, lists_in}
use Rattle.check_meaning.specs.Paragraph.{Paragraph}
use Rattle.check_records.proofs.Tests.{true-and}
use Rattle.check_records.proofs.Records.{all-holds, used-ok, fresh_ok, records-counted}
use Rattle.check_links.proofs.Lists.{lists-done, lists-go}
use Rattle.check_state.proofs.Whole.{sound-of}
use Rattle.check_meaning.proofs.Walked.{meets-walk}
use Rattle.check_meaning.proofs.BothWalks.{chain-tests, list-tests}
use Rattle.check_meaning.proofs.Joined.{joined}
use Rattle.check_meaning.proofs.Family.{head_at, Row, family, row, all-rows, rows_told, rows-have, rows-once, counted}
use Rattle.check_meaning.proofs.Clauses.{chain_length, chain-sum}

module _ (n : ℕ) (small : n ≤ none) (s : MemoryAllocator) (p : Paragraph n s) where
  abbrev c : ℕ
  c = count (used s.enabled) n

  record-passes : (i : ℕ) → i < n → record_at s.start s.end s.enabled s.previous s.next s.list_prev s.list_next i ≡ true
  record-passes i b = go (used s.enabled i) refl
    where
      go : (t : Bool) → used s.enabled i ≡ t
          → record_ok t (get_or s.start i 0) (get_or s.end i 0) (get_or s.previous i 0) (get_or s.next i 0) (get_or s.list_prev i 0) (get_or s.list_next i 0) ≡ true
      go true e = let g = p.proper i b e in used-ok _ _ _ _ _ _ g.0 g.1
      go false e = let f = p.unused i b e in fresh_ok _ _ _ _ _ _ f.start f.end f.previous f.next f.list_prev f.list_next

  chain-passes : chain_in n s c ≡ true
  unfolding chain_ok_lem
  chain-passes =
      let first = s.first_entry.0 in
      let w = ap (λ (f : ℕ). chain_walk n s.start s.end s.enabled s.previous s.next f none 0 first) (chain_length n small s p.chain)
      ∙ meets-walk small s.next (chain-tests n s.start s.end s.enabled s.previous p.proper) first 0 p.chain in
      true-and _ _ (ap (onward (λ f. eqb f 0)) w) (eq-eqb _ _ (chain-sum n small s p.chain ∙ sym p.total))

  abbrev rows : (k : ℕ) → Row n s k (head_at n s k)
  rows = family n s p.lists

  lists-pass : (m k : ℕ) → k + m ≤ size_lists
      → lists_in n s m k (length (joined (row n s rows) m k)) ≡ true
  unfolding joined
  lists-pass zero k b = lists-done n s.free_list s.start s.end s.enabled s.list_prev s.list_next 0 k 0 refl
  lists-pass (suc m) k b =
      let g = length (joined (row n s rows) m (suc k)) in
      let e : head_at n s k ≡ get_or s.free_list k 0 = ap (λ (t : Bool). pick t (get_or s.free_list k 0) none) (lt-ltb k size_lists (omega arith)) in
      let walk = list_walk n s.start s.end s.enabled s.list_prev s.list_next k in
      let w = ap (λ (f : ℕ). walk f none 0 (get_or s.free_list k 0)) (length-append (row n s rows k) (joined (row n s rows) m (suc k)))
      ∙ ap (walk (length (row n s rows k) + g) none 0) (sym e)
      ∙ meets-walk small s.list_next (list-tests n s.start s.end s.enabled s.list_prev k) (head_at n s k) g (rows k) in
      lists-go n s.free_list s.start s.end s.enabled s.list_prev s.list_next (suc m) m k _ g refl w
      ∙ ap (λ (j : ℕ). lists_in n s m j g) (add-one k)
      ∙ lists-pass m (suc k) (omega arith)

  pub passes : is_sound_lem n s ≡ true
  passes =
      let k = counted n (used s.enabled) (all-rows n s rows) (rows-once n s rows) (rows_told n s rows) (rows-have n s rows) in
      sound-of n s c (records-counted n s.start s.end s.enabled s.previous s.next s.list_prev s.list_next n refl (all-holds _ n record-passes))
      ∙ true-and _ _ chain-passes
      (ap (lists_in n s size_lists 0) k ∙ lists-pass size_lists 0 (omega arith))
