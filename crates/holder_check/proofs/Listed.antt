-- What a listing answers of an allocator, and the check of its register by that. n is the number of records. Assumes nothing.
use Prim.Native.Nat.{ℕ, suc, ◌≤◌}
use mathlib.Core.Path.{◌≡◌, refl, sym, ap, ◌∙◌, subst}
use mathlib.Core.Logic.{◌≢◌}
use mathlib.Core.Bool.{Bool, true, false, ◌&&◌}
use mathlib.Core.List.{List, ◌++◌, map}
use native.Mathlib.Omega.{arith}
use borrow.Author.Tests.{le-ltb}
use lib.ListN.{length, drop, length-append, length-map}
use Rattle.linked_lists.specs.Links.{none}
use Rattle.rules.specs.Rules.{start_of, any, meets}
use Rattle.memory_allocator.specs.Names as allocator
use Rattle.memory_allocator.specs.Names.{book_of}
use Rattle.check_meaning.specs.Paragraph.{Sized}
use Rattle.calls.specs.Calls.{Counted, number_of}
use Rattle.pool_state.specs.declared.MemoryAllocator.{MemoryAllocator}
use Rattle.pool_listing.specs.Listing.{last_of, listed_of, shown}
use Rattle.pool_listing.proofs.Walk.{few}
use Rattle.core_accounts.specs.Accounts.{value_of, listing_of, shown_of, Lists}
use Rattle.core_accounts.proofs.Shows.{ordered}
use Rattle.holder_rules.specs.Sound.{register_sound}
use Rattle.holder_rules.specs.States.{is_sound_lem}
use Rattle.holder_rules.specs.declared.HolderAllocator.{HolderAllocator}
use Rattle.holder_check.specs.Spans.{spans}
use Rattle.holder_check.proofs.Spans.{listed-meets, register-same}

-- what a listing answers is what the match found it to be
pub listed-as : (n : ℕ) (m : MemoryAllocator) (starts lasts starts' lasts' : List ℕ) (r r' : Counted) → r ≡ r' → Lists n m starts lasts r starts' lasts' → Lists n m starts lasts r' starts' lasts'
listed-as n m starts lasts starts' lasts' r r' e l = subst (λ (k : Counted). Lists n m starts lasts k starts' lasts') e l

module _ (n : ℕ) (s : HolderAllocator) (starts lasts starts' lasts' : List ℕ) (r : Counted) (l : Lists n s.memory starts lasts r starts' lasts') where
  -- a refused listing, of slices that are long enough, is that of an unsound allocator
  unsound : allocator.is_sound_lem n s.memory ≡ false → number_of r ≡ 2
  unfolding listing_of
  unsound e = ap (λ (k : Counted). number_of k) l.answer ∙ rw e

  pub memory-unsound : allocator.is_sound_lem n s.memory ≡ false → false ≡ is_sound_lem n s
  unfolding is_sound_lem
  memory-unsound e = rw e

  module _ (small : n ≤ none) (z : Sized n s.memory) (ls : length starts ≡ n) (ll : length lasts ≡ n) where
    chain-few : allocator.is_sound_lem n s.memory ≡ true → length (book_of n s.memory).chain ≤ n
    chain-few e = few n (book_of n s.memory).chain (ordered n small s.memory z e).runs.listed

    number-0 : allocator.is_sound_lem n s.memory ≡ true → number_of r ≡ 0
    unfolding listing_of listed_of
    number-0 e = ap (λ (k : Counted). number_of k) l.answer ∙ rw (e, ls, ll, le-ltb n (length (book_of n s.memory).chain) (chain-few e))

    is-sound : number_of r ≡ 0 → allocator.is_sound_lem n s.memory ≡ true
    is-sound k = go (allocator.is_sound_lem n s.memory) refl
      where
        go : (b : Bool) → allocator.is_sound_lem n s.memory ≡ b → b ≡ true
        go true e = refl
        go false e = absurd (let v = unsound e in let w : ⊥ = omega arith in w)

    pub refused-unsound : number_of r ≢ 0 → false ≡ is_sound_lem n s
    refused-unsound k = go (allocator.is_sound_lem n s.memory) refl
      where
        go : (b : Bool) → allocator.is_sound_lem n s.memory ≡ b → false ≡ is_sound_lem n s
        go true e = absurd (k (number-0 e))
        go false e = memory-unsound e

    module _ (k : number_of r ≡ 0) where
      count-is : value_of r ≡ length (book_of n s.memory).chain
      unfolding listing_of listed_of
      count-is =
          let e = is-sound k in
          ap value_of l.answer ∙ rw (e, ls, ll, le-ltb n (length (book_of n s.memory).chain) (chain-few e))

      starts-are : starts' ≡ map start_of (book_of n s.memory).chain ++ drop (length (map start_of (book_of n s.memory).chain)) starts
      unfolding shown_of shown
      starts-are = let e = is-sound k in l.starts-now ∙ rw (e, ls, ll, le-ltb n (length (book_of n s.memory).chain) (chain-few e))

      lasts_are : lasts' ≡ map last_of (book_of n s.memory).chain ++ drop (length (map last_of (book_of n s.memory).chain)) lasts
      unfolding shown_of shown
      lasts_are = let e = is-sound k in l.lasts_now ∙ rw (e, ls, ll, le-ltb n (length (book_of n s.memory).chain) (chain-few e))

      pub count_fits : (value_of r ≤ length starts') × (value_of r ≤ length lasts')
      count_fits =
          let c = count-is in
          let a = ap length starts-are ∙ length-append (map start_of (book_of n s.memory).chain) _ in
          let b = ap length lasts_are ∙ length-append (map last_of (book_of n s.memory).chain) _ in
          let p = length-map (book_of n s.memory).chain start_of in
          let q = length-map (book_of n s.memory).chain last_of in
          (omega arith, omega arith)

      same_meets : (a t : ℕ) → any (meets a t) (spans (value_of r) starts' lasts') ≡ any (meets a t) (book_of n s.memory).chain
      same_meets a t = rw (count-is, starts-are, lasts_are) (listed-meets a t (book_of n s.memory).chain _ _)

      pub judged-listed : register_sound (spans (value_of r) starts' lasts') s.register.entries ≡ is_sound_lem n s
      unfolding is_sound_lem
      judged-listed = register-same _ _ same_meets s.register.entries ∙ sym (ap (λ (b : Bool). b && register_sound (book_of n s.memory).chain s.register.entries) (is-sound k))
