-- A step that may want a record ends in one of two answers. Assumes nothing.
use Prim.Native.Nat.{ℕ}
use mathlib.Core.Bool.{Bool, true, false, cond}
use mathlib.Core.Path.{◌≡◌, refl}
use native.Mathlib.Omega.{arith}
use Rattle.std.specs.Prelude.{Result, Ok, Err}
use Rattle.rules.specs.Rules.{Book, Answer, accepted, refused}
use Rattle.pool_state.specs.State.{Holds}
use Rattle.pool_state.specs.declared.MemoryAllocator.{MemoryAllocator}
use Rattle.calls.specs.Answers.{Answers}
use Rattle.calls.specs.declared.MemoryError.TheVariants.{NoEntry}
use Rattle.pool_entries.specs.Entries.{moving_of, Leaves}
use Rattle.pool_entries.specs.declared.NoRecord.{NoRecord}

module _ (n : ℕ) (wants : Bool) (b b' : Book) (a : ℕ) (w : Answer) (e : w ≡ cond wants (refused 1 b) (accepted a b')) (k : Result (Unit {0}) NoRecord) (s : MemoryAllocator) (l : Leaves n wants b b' k s) where
  pub moved : k ≡ Ok tt → Answers n w (Ok (record { 0 = a })) s
  moved q = go wants e l.says l.leaves
    where
      go : (x : Bool) → w ≡ cond x (refused 1 b) (accepted a b') → k ≡ moving_of x → Holds n (cond x b b') s → Answers n w (Ok (record { 0 = a })) s
      go true e y h = let z : ◌≡◌ {A = ℕ} 0 1 = cc in absurd (let m : ⊥ = omega arith in m)
      go false e y h = rw e (record { number = refl; address = refl; book = h })

  pub unmoved : (r : NoRecord) → k ≡ Err r → Answers n w (Err NoEntry) s
  unmoved r q = go wants e l.says l.leaves
    where
      go : (x : Bool) → w ≡ cond x (refused 1 b) (accepted a b') → k ≡ moving_of x → Holds n (cond x b b') s → Answers n w (Err NoEntry) s
      go true e y h = rw e (record { number = refl; address = refl; book = h })
      go false e y h = let z : ◌≡◌ {A = ℕ} 0 1 = cc in absurd (let m : ⊥ = omega arith in m)
