-- What a line comes to, by what it says. n is the number of records. Assumes nothing.
use mathlib.Core.Path.{◌≡◌, refl, sym, ap, ◌∙◌, subst}
use mathlib.Core.Bool.{Bool, true, ◌&&◌}
use mathlib.Core.List.{List}
use Prim.Native.Nat.{ℕ, ◌+◌, ◌*◌, ◌≤◌}
use native.Mathlib.Omega.{arith}
use lib.ListN.{length}
use Rattle.linked_lists.specs.Links.{none}
use Rattle.rules.specs.Rules.{Book}
use Rattle.rules_laws.proofs.Lists.{T_true}
use Rattle.memory_allocator.specs.Names.{book_of}
use Rattle.check_meaning.proofs.Exact.{sound-passes}
use Rattle.pool_state.specs.State.{Holds}
use Rattle.pool_state.specs.declared.MemoryAllocator.{MemoryAllocator}
use Rattle.pool_state.proofs.Book.{sound-holds}
use Rattle.holder_rules.specs.Register.{entries}
use Rattle.holder_rules.specs.Sound.{register_sound}
use Rattle.holder_rules.specs.declared.Entry.{Entry}
use Rattle.holder_rules.specs.declared.Register.{Register}
use Rattle.holder_words.specs.Words.{entries_in}
use Rattle.holder_rules.specs.States.{is_sound_lem}
use Rattle.holder_rules.specs.declared.HolderAllocator.{HolderAllocator}
use Rattle.holder_check.proofs.Exact.{sound←}
use Rattle.holder_serve.specs.Made.{HolderAnswer, requested, made}
use Rattle.holder_serve.specs.declared.HolderOutcome.{HolderOutcome}
use Rattle.holder_serve.specs.declared.HolderRequest.{HolderRequest}
use Rattle.holder_lists.specs.declared.Whose.{Whose}
use Rattle.script_texts.specs.Answers.{bad_text, Puts}
use Rattle.script_replies.specs.Replies.{line, PutsWithin}
use Rattle.script_lines.specs.declared.parse.Line.TheVariants as script
use Rattle.script_answers.specs.Script.{room, text_of, Says}
use Rattle.holder_replies.specs.Replies.{holder_reply}
use Rattle.holder_lines.specs.declared.HolderLine.{HolderLine}
use Rattle.holder_lines.specs.declared.HolderLine.TheVariants as Say
use Rattle.holder_answers.specs.Answers.{held_text, holder_text, holder_after, HolderSays, Sound, state_in_lem}

-- a sound state passes the check, and its allocator holds a book
module _ (n : ℕ) (small : n ≤ none) (s : HolderAllocator) (h : Sound n s) where
  pub passes : is_sound_lem n s ≡ true
  unfolding is_sound_lem
  passes =
      ap (λ (b : Bool). b && register_sound (book_of n s.memory).chain s.register.entries) (sound-passes n small s.memory h.0)
      ∙ T_true (register_sound (book_of n s.memory).chain s.register.entries) (sound← (book_of n s.memory).chain s.register.entries h.1)

  pub book-held : (b : Book) × Holds n b s.memory
  book-held = (_, sound-holds n s.memory h.0)

pub passes-as : (n : ℕ) → n ≤ none → (t s : HolderAllocator) → t ≡ s → Sound n s → is_sound_lem n t ≡ true
passes-as n small t s e h = ap (is_sound_lem n) e ∙ passes n small s h

-- ---- the fields and the words

pub gathered : (m : MemoryAllocator) (g : Register) (w : List ℕ) → g.entries ≡ entries_in w entries → record { memory = m; register = g } ≡ state_in_lem m w
gathered m g w e = ap (λ (l : List Entry). record { memory = m; register = record { entries = l } }) e

pub scattered : (s : HolderAllocator) (w : List ℕ) → entries_in w entries ≡ s.register.entries → state_in_lem s.memory w ≡ s
scattered s w e = ap (λ (l : List Entry). record { memory = s.memory; register = record { entries = l } }) e

-- the call is made, and the state that it leaves is stored
pub stored : (n : ℕ) (s t s' : HolderAllocator) (q : HolderRequest) (w : HolderOutcome) → t ≡ s → w ≡ made n t (requested q) → s' ≡ w.state → record { answer = w.answer; state = s' } ≡ made n s (requested q)
stored n s t s' q w d e f = ap (λ (x : HolderAllocator). record { answer = w.answer; state = x }) f ∙ e ∙ ap (λ (x : HolderAllocator). made n x (requested q)) d

module _ (n : ℕ) (s : HolderAllocator) (out : List ℕ) (at : ℕ) (s' : HolderAllocator) (r : ℕ) (out' : List ℕ) where
  pub call-says : (q : HolderRequest) (k : HolderAnswer) → record { answer = k; state = s' } ≡ made n s (requested q)
      → PutsWithin line (holder_reply q k) out at out' r → HolderSays n s (Say.Asks q) out at s' r out'
  unfolding holder_text holder_after
  call-says q k e p =
      let h = p.short in
      let w : PutsWithin (room n) (holder_reply q k) out at out' r = record { short = omega arith; puts = p.puts } in
      record { state = ap (λ (o : HolderOutcome). o.state) e; text = subst (λ (x : HolderAnswer). PutsWithin (room n) (holder_reply q x) out at out' r) (ap (λ (o : HolderOutcome). o.answer) e) w }

  -- the line is what the match found it to be
  pub line-is : (l k : HolderLine) → l ≡ k → HolderSays n s k out at s' r out' → HolderSays n s l out at s' r out'
  line-is l k e w = subst (λ (x : HolderLine). HolderSays n s x out at s' r out') (sym e) w

module _ (n : ℕ) (s : HolderAllocator) (out : List ℕ) (at r : ℕ) (out' : List ℕ) where
  pub held-says : (w : Whose) (t : HolderAllocator) → t ≡ s → PutsWithin (room n) (held_text n t w) out at out' r → HolderSays n s (Say.Held w) out at s r out'
  unfolding holder_text holder_after
  held-says w t e p = record { state = refl; text = subst (λ (x : HolderAllocator). PutsWithin (room n) (held_text n x w) out at out' r) e p }

  pub bad-says : Puts bad_text out at out' r → HolderSays n s Say.Bad out at s r out'
  unfolding holder_text holder_after
  bad-says p = record { state = refl; text = record { short = omega arith; puts = p } }

  pub list-says : (m : MemoryAllocator) → Says n m (text_of n s.memory script.List) out at s.memory r out' → HolderSays n s Say.List out at s r out'
  unfolding holder_text holder_after text_of
  list-says m p = record { state = refl; text = p.text }
