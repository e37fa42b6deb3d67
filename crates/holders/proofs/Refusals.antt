-- The calls by value are the rules' calls, after any list of them; and the contracts allow one result. n is the number of records. Assumes nothing.
use Prim.Native.Nat.{ℕ, ◌≤◌}
use mathlib.Core.Bool.{Bool, true, ◌&&◌}
use mathlib.Core.List.{List}
use mathlib.Core.Path.{◌≡◌, sym, ap, ◌∙◌}
use Rattle.linked_lists.specs.Links.{none}
use Rattle.memory_allocator.specs.Names as allocator
use Rattle.memory_allocator.specs.Names.{book_of}
use Rattle.memory_allocator.specs.States.{states}
use Rattle.check_meaning.proofs.Exact.{sound-passes}
use Rattle.rules_laws.proofs.Lists.{T_true}
use Rattle.holder_rules.specs.Register.{entries}
use Rattle.holder_rules.specs.Holders.{Call, step}
use Rattle.holder_rules.specs.Sound.{register_sound}
use Rattle.holder_rules.specs.States.{with_register, is_sound_lem}
use Rattle.holder_rules.specs.declared.HolderAllocator.{HolderAllocator}
use Rattle.holder_laws.specs.Demand.{left}
use Rattle.holder_check.proofs.Exact.{sound←}
use Rattle.holder_serve.specs.Made.{made, held}
use Rattle.holder_serve.specs.declared.HolderOutcome.{HolderOutcome}
use Rattle.holder_serve.proofs.Ladders.{sound-made}
use Rattle.holders.proofs.Demand.{demand}

module _ (n : ℕ) (small : n ≤ none) (cs : List Call) where
  -- the state after any list of calls
  abbrev pub reached : HolderAllocator
  reached = with_register (left (states n) entries cs)

  pub passes : is_sound_lem n reached ≡ true
  unfolding is_sound_lem
  passes =
      let s = (demand n small).always-sound cs in
      ap (λ (b : Bool). b && register_sound (book_of n reached.memory).chain reached.register.entries) (sound-passes n small reached.memory s.0)
      ∙ T_true (register_sound (book_of n reached.memory).chain reached.register.entries) (sound← (book_of n reached.memory).chain reached.register.entries s.1)

  -- so a call on it is the rules' call, of which demands 2 and 3 speak
  pub called : (c : Call) → made n reached c ≡ held (step (states n) c (left (states n) entries cs))
  called c = sym (sound-made n reached c passes)

-- Any two results that the contract of a call allows coincide: number, address and the whole next state.
pub determined : (n : ℕ) (s : HolderAllocator) (c : Call) (r r' : HolderOutcome) → r ≡ made n s c → r' ≡ made n s c → r ≡ r'
determined n s c r r' e e' = e ∙ sym e'
