-- The whole check.
use Prim.Native.Nat.{ℕ}
use mathlib.Core.Bool.{Bool, true, false, cond, ◌&&◌}
use mathlib.Core.Path.{◌≡◌, refl, sym}
use Rattle.linked_lists.specs.Links.{count}
use Rattle.linked_lists.proofs.Laws.{true≢false}
use Rattle.rules.specs.Rules.{size_lists}
use Rattle.pool_state.specs.declared.MemoryAllocator.{MemoryAllocator}
use Rattle.check_links.specs.Walk.{onward}
use Rattle.check_records.specs.Records.{all, record_at, used, records}
use Rattle.check_state.specs.IsSound.{is_sound_lem, records_in, chain_in, lists_in}
use Rattle.std.specs.Prelude.{Some, None}
use Rattle.check_records.proofs.Tests.{and-true}

module _ (n : ℕ) (s : MemoryAllocator) where
  pub sound-broken : records_in n s ≡ None → is_sound_lem n s ≡ false
  unfolding is_sound_lem
  sound-broken h = rw h

  pub sound-of : (c : ℕ) → records_in n s ≡ Some c → is_sound_lem n s ≡ (chain_in n s c && lists_in n s size_lists 0 c)
  unfolding is_sound_lem
  sound-of c h = rw h

  abbrev c : ℕ
  c = count (used s.enabled) n

  abbrev every : Bool
  every = all (record_at s.start s.end s.enabled s.previous s.next s.list_prev s.list_next) n

  pub sound-told : is_sound_lem n s ≡ true → (every ≡ true) × (chain_in n s c ≡ true) × (lists_in n s size_lists 0 c ≡ true)
  unfolding is_sound_lem records
  sound-told = go every
    where
      go : (t : Bool) → onward (λ k. chain_in n s k && lists_in n s size_lists 0 k) (cond t (Some c) None) ≡ true
          → (t ≡ true) × (chain_in n s c ≡ true) × (lists_in n s size_lists 0 c ≡ true)
      go true h = let w = and-true (chain_in n s c) (lists_in n s size_lists 0 c) h in (refl, w.0, w.1)
      go false h = true≢false (sym h)
