-- Where the audit of a part has led. n is the number of records. Assumes nothing.
use Rattle.std.proofs.Common.{◌≡◌, ℕ, ◌+◌, ◌≤◌, List, [], sym, subst, length, arith}
use Rattle.std.specs.Prelude.{Option, Some, None, IfSome}
use Rattle.linked_lists.specs.Links.{none}
use Rattle.pool_state.specs.Sound.{SoundState}
use Rattle.pool_state.specs.declared.MemoryAllocator.{MemoryAllocator}
use Rattle.journal_audit.specs.Audit.{Auditing, Audited, audited_on}
use Rattle.journal_audit.proofs.Parts.{part-kept, part_sound}
use Rattle.audit.specs.Sittings.{Seated, Ready}
use Rattle.audit.specs.declared.Sitting.{Sitting}

pub record Led (n : ℕ) (a : Auditing) (size : ℕ) (d : Audited) : Type 0 where
  pub sound : SoundState n d.auditing.state
  pub used : d.used ≤ size
  pub few : d.auditing.index ≤ a.index + size

pub led : (n : ℕ) → n ≤ none → (a : Auditing) (p : List ℕ) (size : ℕ) → length p ≡ size → SoundState n a.state → (d : Audited) → d ≡ audited_on n a p → Led n a size d
led n small a p size e h d is =
    let k = part-kept n small p [] a h in
    let w = k.within in
    let f = k.few in
    subst (Led n a size) (sym is) (record { sound = part_sound n small p [] a h; used = omega arith; few = omega arith })

pub more-seated : (o : Option Sitting) (n : ℕ) (s : MemoryAllocator) (buf : List ℕ) (k m : ℕ) → SoundState n s → k ≤ m
    → IfSome o (λ (r : Sitting). Seated r buf k) → IfSome o (λ (r : Sitting). Ready n s r buf m)
more-seated None n s buf k m sound h g = tt
more-seated (Some r) n s buf k m sound h g = let f = g.few in record { sound = sound; seated = record { held = g.held; few = omega arith } }
