-- The links of a state that holds a book lead back to it, so a sound state is one that holds a book.
use Prim.Native.Nat.{ℕ, zero, suc, ◌≤◌}
use mathlib.Core.Bool.{true}
use mathlib.Core.Logic.{inl, inr}
use mathlib.Core.List.{List, [], ◌∷◌, ◌++◌, map}
use mathlib.Core.Path.{◌≡◌, refl, sym, ap, ◌∙◌, subst}
use lib.ListN.{get_or}
use Rattle.linked_lists.specs.Links.{none, head, after, Listed, has, tab}
use Rattle.linked_lists.proofs.Laws.{follow-walk, length-listed}
use Rattle.rules.specs.Rules.{size_lists, Range, Book, of_list, lists}
use Rattle.rules.specs.Sound.{Sound}
use Rattle.rules_laws.proofs.Shelf.{all-lists, of_list-in}
use Rattle.pool_state.specs.Shown.{numbers, at, Stand}
use Rattle.pool_state.specs.State.{Holds, state_of}
use Rattle.pool_state.specs.Sound.{led, joined_lists, book_of, SoundState}
use Rattle.pool_state.specs.declared.MemoryAllocator.{MemoryAllocator}
use Rattle.pool_state.proofs.States.{by-tab, holds-state, state-holds}
use Rattle.pool_state.proofs.Walks.{has_in}

pub at-numbers : (start end : List ℕ) (l : List Range) → Stand l start end → map (at start end) (numbers l) ≡ l
at-numbers start end [] h = refl
at-numbers start end (r ∷ l) h =
    let e = h r (inl refl) in let ih = at-numbers start end l (λ q m. h q (inr m)) in (λ i. e i ∷ ih i)

module _ (n : ℕ) (small : n ≤ none) (b : Book) (s : MemoryAllocator) (h : Holds n b s) where
  -- from the first record of a list, links that lead along it lead to all of it
  led-back : (links : List ℕ) (l : List Range) → Listed n (numbers l) → Stand l s.start s.end
      → ((i : ℕ) → has i (numbers l) ≡ true → get_or links i 0 ≡ after (numbers l) i)
      → led n s links (head (numbers l)) ≡ l
  led-back links l m stand along =
      ap (map (at s.start s.end)) (follow-walk n small (λ j. get_or links j 0) [] (numbers l) m along n (length-listed n (numbers l) m))
      ∙ at-numbers s.start s.end l stand

  chain_back : led n s s.next s.first_entry.0 ≡ b.chain
  chain_back =
      let t = h.shape.chained.threads in
      ap (led n s s.next) h.shape.chained.leads
      ∙ led-back s.next b.chain (t.listed 0) h.shape.kept.stand
      (λ i m. let w = has_in i b.chain m in t.nexts i (subst (λ (j : ℕ). suc j ≤ n) (sym w.2) (h.shape.sound.good w.0 w.1).known))

  list_back : (k : ℕ) → led n s s.list_next (head (numbers (of_list k b.shelf))) ≡ of_list k b.shelf
  list_back k =
      let v = h.shape.shelved in
      led-back s.list_next (of_list k b.shelf) (v.threads.listed k) (λ r m. v.stand r (of_list-in k b.shelf r m))
      (λ i m.
      let w = has_in i (of_list k b.shelf) m in
      v.threads.nexts i (subst (λ (j : ℕ). suc j ≤ n) (sym w.2) (v.good w.0 (of_list-in k b.shelf w.0 w.1)).known)
      ∙ ap (λ (j : ℕ). after (numbers (of_list j b.shelf)) i) (v.threads.keyed k i m))

  lists_back : (k j : ℕ) → joined_lists n s (tab k j (λ i. head (numbers (of_list i b.shelf)))) ≡ lists j k b.shelf
  unfolding joined_lists tab lists
  lists_back zero j = refl
  lists_back (suc k) j = λ i. list_back j i ++ lists_back k (suc j) i

  pub holds-book : book_of n s ≡ b
  unfolding book_of
  holds-book =
      let heads = by-tab 0 size_lists s.free_list _ h.shape.shelved.heads-length h.shape.shelved.firsts in
      let shelf = ap (joined_lists n s) heads ∙ lists_back size_lists 0 ∙ all-lists b.shelf h.shape.sound.sizes in
      (λ i. record { chain = chain_back i; shelf = shelf i })

  pub holds-sound : SoundState n s
  holds-sound = record {
    book = subst (Sound n) (sym holds-book) h.shape.sound;
    state = ap (state_of n) holds-book ∙ sym (holds-state n b s h);
  }

-- the state that holds a sound book leads back to it
pub book-back : (n : ℕ) → n ≤ none → (b : Book) → Sound n b → book_of n (state_of n b) ≡ b
book-back n small b s = holds-book n small b (state_of n b) (state-holds n b s)

pub sound-holds : (n : ℕ) (s : MemoryAllocator) → SoundState n s → Holds n (book_of n s) s
sound-holds n s h = subst (Holds n (book_of n s)) h.state (state-holds n (book_of n s) h.book)
