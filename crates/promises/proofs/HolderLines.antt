-- Demands 2 and 3 of the script's lines in the register's forms: the state after them is what the register's calls in them leave. n is the number of records. Assumes nothing.
use Prim.Native.Nat.{ℕ, ◌≤◌}
use mathlib.Core.List.{List, [], ◌∷◌}
use mathlib.Core.Path.{◌≡◌, refl, sym, ap, ◌∙◌}
use Rattle.linked_lists.specs.Links.{none}
use Rattle.pool_state.specs.declared.MemoryAllocator.{MemoryAllocator}
use Rattle.memory_allocator.specs.States.{states}
use Rattle.memory_allocator.proofs.Demand.{obeys}
use Rattle.holder_rules.specs.Register.{entries}
use Rattle.holder_rules.specs.Holders.{Holding, Call, step, voucher, run, trail}
use Rattle.holder_rules.specs.States.{holding_of, with_register, new_of}
use Rattle.holder_rules.specs.declared.HolderAllocator.{HolderAllocator}
use Rattle.holder_laws.proofs.Demand as laws
use Rattle.holder_serve.specs.Made.{requested, voucher_of, made}
use Rattle.holder_serve.specs.Made as outcome
use Rattle.holder_serve.specs.declared.HolderOutcome.{HolderOutcome}
use Rattle.holder_serve.proofs.Ladders.{sound-made}
use Rattle.holder_lines.specs.declared.HolderLine.{HolderLine}
use Rattle.holder_lines.specs.declared.HolderLine.TheVariants as Say
use Rattle.holder_answers.specs.Answers.{holder_after, Sound}
use Rattle.holder_answers.proofs.Serving.{passes}
use Rattle.script_forms.specs.Forms.{desk}
use Rattle.script_forms.proofs.Soundness.{stepped, open-sound}
use Rattle.promises.specs.HolderLines.{holder_lines_from, holders_left, holder_calls_lem, holders_kept, AtDesk}
use Rattle.promises.proofs.Lines.{heard-holders}
use Rattle.promises.proofs.HolderVouchers.{told}

module _ (n : ℕ) (small : n ≤ none) where
  -- on a sound state a call by value is the rules' call
  called : (s : HolderAllocator) → Sound n s → (c : Call) → made n s c ≡ outcome.held (step (states n) c (holding_of s))
  called s h c = sym (sound-made n s c (passes n small s h))

  next-is : (s : HolderAllocator) → Sound n s → (c : Call) → holding_of (made n s c).state ≡ (step (states n) c (holding_of s)).holding
  next-is s h c = ap (λ (o : HolderOutcome). holding_of o.state) (called s h c)

  voucher-is : (s : HolderAllocator) → Sound n s → (c : Call) → voucher_of c (made n s c).answer ≡ voucher c (step (states n) c (holding_of s))
  voucher-is s h c = ap (λ (o : HolderOutcome). voucher_of c o.answer) (called s h c) ∙ told n (holding_of s) c

  lines_left : (s : HolderAllocator) → Sound n s → (ls : List HolderLine) → holders_left n s ls ≡ with_register (run (states n) (holding_of s) (holder_calls_lem ls))
  unfolding holders_left holder_after holder_calls_lem run
  lines_left s h [] = refl
  lines_left s h (Say.Asks q ∷ ls) =
      lines_left (made n s (requested q)).state (stepped n small (requested q) s h) ls
      ∙ ap (λ (k : Holding MemoryAllocator). with_register (run (states n) k (holder_calls_lem ls))) (next-is s h (requested q))
  lines_left s h (Say.Held w ∷ ls) = lines_left s h ls
  lines_left s h (Say.List ∷ ls) = lines_left s h ls
  lines_left s h (Say.Bad ∷ ls) = lines_left s h ls

  lines-kept : (s : HolderAllocator) → Sound n s → (ls : List HolderLine) → holders_kept n s ls ≡ trail (states n) (holding_of s) (holder_calls_lem ls)
  unfolding holders_kept holder_after holder_calls_lem trail
  lines-kept s h [] = refl
  lines-kept s h (Say.Asks q ∷ ls) =
      let first = voucher-is s h (requested q) in
      let others = lines-kept (made n s (requested q)).state (stepped n small (requested q) s h) ls ∙ ap (λ (k : Holding MemoryAllocator). trail (states n) k (holder_calls_lem ls)) (next-is s h (requested q)) in
      (λ i. first i ∷ others i)
  lines-kept s h (Say.Held w ∷ ls) = lines-kept s h ls
  lines-kept s h (Say.List ∷ ls) = lines-kept s h ls
  lines-kept s h (Say.Bad ∷ ls) = lines-kept s h ls

  -- After any input whose first line is `holders`.
  pub at-desk : AtDesk n
  at-desk = let h = (open-sound n small).whole refl in record {
    left = λ l. (heard-holders n l).0 ∙ ap (desk 2) (lines_left (new_of n) h (holder_lines_from [] l));
    kept = λ l. lines-kept (new_of n) h (holder_lines_from [] l);
    demand = laws.demand (obeys n small) entries;
  }
