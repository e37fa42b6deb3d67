-- How a step ends that may want a record. Assumes nothing.
use Prim.Native.Nat.{ℕ}
use mathlib.Core.Bool.{Bool, true, false, cond}
use mathlib.Core.Path.{◌≡◌, sym, ap, ◌∙◌, subst}
use Rattle.std.specs.Prelude.{Ok, Err}
use Rattle.rules.specs.Rules.{Book, total}
use Rattle.pool_state.specs.Shown.{Shape}
use Rattle.pool_state.specs.State.{arrays, Holds}
use Rattle.pool_state.specs.declared.MemoryAllocator.{MemoryAllocator}
use Rattle.pool_entries.specs.Entries.{moving_of, Leaves}

-- the state m with the total t; a shape does not speak of it
abbrev pub recount : ℕ → MemoryAllocator → MemoryAllocator
recount t m = arrays t m.first_entry.0 m.free_list m.start m.end m.enabled m.previous m.next m.list_prev m.list_next

pub recounted : {n t : ℕ} {b : Book} {m : MemoryAllocator} → Shape n b m → t ≡ total b → Holds n b (recount t m)
recounted v e = record { shape = record { sound = v.sound; kept = v.kept; chained = v.chained; shelved = v.shelved }; counts = e }

module _ (n : ℕ) (wants : Bool) (b b' : Book) (s : MemoryAllocator) where
  pub done : (c : Book) → wants ≡ false → b' ≡ c → Holds n c s → Leaves n wants b b' (Ok tt) s
  done c e q h = record { says = sym (ap moving_of e); leaves = subst (λ (x : Book). Holds n x s) (sym (ap (λ (w : Bool). cond w b b') e ∙ q)) h }

  pub refused : wants ≡ true → Holds n b s → Leaves n wants b b' (Err (record {})) s
  refused e h = record { says = sym (ap moving_of e); leaves = subst (λ (x : Book). Holds n x s) (sym (ap (λ (w : Bool). cond w b b') e)) h }
