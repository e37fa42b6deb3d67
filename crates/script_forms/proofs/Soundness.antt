-- A line leaves a sound desk sound. n is the number of records. Assumes nothing.
use mathlib.Core.Path.{◌≡◌, refl, sym, ap, ◌∙◌, subst}
use mathlib.Core.Bool.{Bool, true, false, cond, ◌&&◌}
use mathlib.Core.List.{List, []}
use Prim.Native.Nat.{ℕ, ◌≤◌}
use native.Mathlib.Omega.{arith}
use borrow.Author.Tests.{eqb-true}
use lib.Dec.{eqb}
use Rattle.linked_lists.specs.Links.{none}
use Rattle.rules.specs.Rules.{Book}
use Rattle.pool_state.specs.Sound.{book_of, SoundState}
use Rattle.pool_state.specs.declared.MemoryAllocator.{MemoryAllocator}
use Rattle.memory_allocator.specs.States.{states}
use Rattle.memory_allocator.proofs.Demand.{obeys}
use Rattle.memory_allocator.proofs.Steps.{sound-held, made_held, made-voucher, made-sound}
use Rattle.rules_engine.proofs.Obeys.{Obeys}
use Rattle.pool_state.specs.State.{state_of}
use Rattle.pool_state.proofs.Book.{book-back}
use Rattle.core_serve.specs.Made as allocator
use Rattle.calls.specs.declared.Outcome.{Outcome}
use Rattle.calls.specs.Calls.{call_of, voucher_of}
use Rattle.holder_rules.specs.Register.{entries}
use Rattle.holder_rules.specs.Holders.{Holding, Call, step, run}
use Rattle.holder_rules.specs.Sound.{SoundRegister}
use Rattle.holder_rules.specs.States.{holding_of, new_of}
use Rattle.holder_rules.specs.declared.HolderAllocator.{HolderAllocator}
use Rattle.holder_laws.specs.Demand.{SoundHolding}
use Rattle.holder_laws.proofs.Outcomes.{Kept}
use Rattle.holder_laws.proofs.Keeps.{step_keeps}
use Rattle.holder_laws.proofs.Bytes.{book-is}
use Rattle.holder_laws.proofs.Demand as laws
use Rattle.holder_serve.specs.Made.{made, requested}
use Rattle.holder_serve.specs.declared.HolderOutcome.{HolderOutcome}
use Rattle.holder_serve.proofs.Ladders.{sound-made}
use Rattle.script_lines.specs.Script.{line_of}
use Rattle.script_lines.specs.declared.parse.Line.{Line}
use Rattle.script_lines.specs.declared.parse.Line.TheVariants as Say
use Rattle.script_answers.specs.Script.{state_after}
use Rattle.holder_lines.specs.Lines.{holder_line_of}
use Rattle.holder_lines.specs.declared.HolderLine.{HolderLine}
use Rattle.holder_lines.specs.declared.HolderLine.TheVariants as Held
use Rattle.holder_answers.specs.Answers.{holder_after, Sound}
use Rattle.holder_answers.proofs.Serving.{passes}
use Rattle.script_forms.specs.Forms.{opens, Desk, desk, open_desk, with_memory, leaves, SoundDesk}

module _ (n : ℕ) (small : n ≤ none) where
  -- ---- the register's calls

  -- as `obeys` of the allocator by value, with what a state of a book is in the open
  by-book : Obeys n (states n)
  unfolding state_of
  by-book = record {
    Of = λ b s. s ≡ state_of n b;
    begins = refl;
    answers = λ b s c h o. ap (λ (t : MemoryAllocator). voucher_of c (allocator.made n t c).answer) o ∙ made-voucher n small b c h;
    leaves = λ b s c h o. ap (λ (t : MemoryAllocator). (allocator.made n t c).state) o ∙ ap (λ (r : Outcome). r.state) (made_held n small b c h);
    shows = λ b s h o. ap (book_of n) o ∙ book-back n small b h;
    counts = λ b s h o. ap (λ (t : MemoryAllocator). t.free_size) o;
    sound = λ b s h o. subst (SoundState n) (sym o) (sound-held n small b h);
  }

  kept : (k : Holding MemoryAllocator) → SoundHolding (states n) entries k → Kept by-book k
  unfolding by-book
  kept k h = record { book = book_of n k.memory; good = h.0.book; of = sym h.0.state; register = h.1 }

  sound-again : (k : Holding MemoryAllocator) → Kept by-book k → SoundHolding (states n) entries k
  sound-again k κ = (
    by-book.sound κ.book k.memory κ.good κ.of,
    subst (λ (b : Book). SoundRegister b.chain k.register) (sym (book-is by-book k κ)) κ.register,
  )

  pub stepped : (c : Call) (s : HolderAllocator) → Sound n s → Sound n (made n s c).state
  stepped c s h =
      subst (λ (o : HolderOutcome). Sound n o.state) (sound-made n s c (passes n small s h))
      (sound-again (step (states n) c (holding_of s)).holding (step_keeps by-book c (holding_of s) (kept (holding_of s) h)))

  holder-sound : (s : HolderAllocator) (l : HolderLine) → Sound n s → Sound n (holder_after n s l)
  unfolding holder_after
  holder-sound s (Held.Asks q) h = stepped (requested q) s h
  holder-sound s (Held.Held w) h = h
  holder-sound s Held.List h = h
  holder-sound s Held.Bad h = h

  -- ---- document 01's

  after-sound : (s : MemoryAllocator) (l : Line) → SoundState n s → SoundState n (state_after n s l)
  unfolding state_after
  after-sound s (Say.Asks q) h = made-sound n small s h (call_of q)
  after-sound s Say.List h = h
  after-sound s Say.Bad h = h

  -- ---- either

  pub leaves-sound : (d : Desk) (l : List ℕ) → SoundDesk n d → SoundDesk n (leaves n d l)
  unfolding leaves
  leaves-sound d l h = go (eqb d.forms 2) (eqb d.forms 0 && opens l) whole-two whole_open
    where
      whole-two : eqb d.forms 2 ≡ true → eqb d.forms 1 ≡ false
      whole-two e = ap (λ (f : ℕ). eqb f 1) (eqb-true d.forms 2 e)

      whole_open : (eqb d.forms 0 && opens l) ≡ true → eqb d.forms 1 ≡ false
      whole_open e = ap (λ (f : ℕ). eqb f 1) (eqb-true d.forms 0 (left (eqb d.forms 0) (opens l) e))
        where
          left : (a b : Bool) → (a && b) ≡ true → a ≡ true
          left true b x = refl
          left false b x = x

      go : (a b : Bool) → (a ≡ true → eqb d.forms 1 ≡ false) → (b ≡ true → eqb d.forms 1 ≡ false)
          → SoundDesk n (cond a (desk d.forms (holder_after n d.state (holder_line_of l))) (cond b (desk 2 d.state) (desk 1 (with_memory (state_after n d.state.memory (line_of l)) d.state))))
      go true b f g = let w = holder-sound d.state (holder_line_of l) (h.whole (f refl)) in record { memory = w.0; whole = λ e. w }
      go false true f g = record { memory = h.memory; whole = λ e. h.whole (g refl) }
      go false false f g = record { memory = after-sound d.state.memory (line_of l) h.memory; whole = λ e. absurd (let x : ◌≡◌ {A = ℕ} 0 1 = cc in let v : ⊥ = omega arith in v) }

  -- nothing is free and nothing held
  pub open-sound : SoundDesk n (open_desk n)
  unfolding run
  open-sound = let w = (laws.demand (obeys n small) entries).always-sound [] in record { memory = w.0; whole = λ e. w }
