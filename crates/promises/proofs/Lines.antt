-- Demand 3 of the script's lines, and that hearing an input comes to its lines. n is the number of records. Assumes nothing.
use Prim.Native.Nat.{ℕ, ◌≤◌}
use mathlib.Core.Bool.{Bool, true, false, cond}
use mathlib.Core.List.{List, [], ◌∷◌, ◌++◌, append_assoc, append-nil}
use mathlib.Core.Path.{◌≡◌, refl, sym, ap, ◌∙◌}
use lib.Dec.{eqb}
use Rattle.linked_lists.specs.Links.{none}
use Rattle.linked_lists.proofs.Laws.{true≢false}
use Rattle.rules.specs.Rules.{empty, Call}
use Rattle.rules_engine.specs.Engine.{after, vouchers}
use Rattle.rules_engine.specs.Demand.{left}
use Rattle.rules_engine.proofs.Histories.{carried}
use Rattle.pool_state.specs.State.{state_of}
use Rattle.holder_rules.specs.States.{new_of}
use Rattle.holder_rules.specs.declared.HolderAllocator.{HolderAllocator}
use Rattle.holder_lines.specs.Lines.{holder_line_of}
use Rattle.holder_lines.specs.declared.HolderLine.{HolderLine}
use Rattle.holder_answers.specs.Answers.{holder_text, holder_after}
use Rattle.script_forms.specs.Forms.{same, opens, desk, open_desk, with_memory, says, leaves}
use Rattle.pool_state.specs.declared.MemoryAllocator.{MemoryAllocator}
use Rattle.calls.specs.Calls.{call_of}
use Rattle.memory_allocator.specs.States.{states}
use Rattle.memory_allocator.proofs.Demand.{demand}
use Rattle.script_lines.specs.Script.{line_of}
use Rattle.script_lines.specs.declared.parse.Line.{Line}
use Rattle.script_lines.specs.declared.parse.Line.TheVariants as Say
use Rattle.script_answers.specs.Script.{text_of, state_after}
use Rattle.script_chunks.specs.Input.{Told, silent, ends, joined, heard}
use Rattle.promises.specs.Clients.{left_by, kept_by, ClientDemand}
use Rattle.promises.specs.Lines.{line_renews, line_gives, line_client, lines_from, texts_of, input_left, input_kept, InputDemand}
use Rattle.promises.specs.HolderLines.{begins_register_lem, holders_line, holder_lines_from, holders_left, holder_texts}
use Rattle.promises.proofs.Clients.{Plays, client-demand}

-- ---- the lines

module _ (n : ℕ) (small : n ≤ none) where
  calls : Line → List Call
  calls (Say.Asks q) = call_of q ∷ []
  calls Say.List = []
  calls Say.Bad = []

  onward : (l : Line) (s : MemoryAllocator) → (state_after n s l ≡ after (states n) s (calls l)) × (line_gives n l s ≡ vouchers (states n) s (calls l))
  unfolding calls state_after after vouchers
  onward (Say.Asks q) s = (refl, refl)
  onward Say.List s = (refl, refl)
  onward Say.Bad s = (refl, refl)

  -- From the empty allocator, after any list of lines.
  pub lines-demand : ClientDemand (states n) (line_client n)
  lines-demand = client-demand (states n) (line_client n) (record {
    calls = calls;
    anew = λ l cs e. true≢false (sym e);
    onward = λ l cs e. onward l (left (states n) cs);
  }) (demand n small)

  -- After any input, byte by byte.
  pub input-demand : InputDemand n
  input-demand =
      carried (states n) (List Line) (List ℕ) (left_by (states n) (line_client n) (state_of n empty)) (kept_by (states n) (line_client n) (state_of n empty) [])
      (input_left n) (input_kept n) (lines_from []) (λ l. refl) (λ l. refl) lines-demand

-- ---- what is heard

module _ (n : ℕ) where
  abbrev told : ℕ → HolderAllocator → List ℕ → List ℕ → Told
  told f s p t = record { state = desk f s; part = p; text = t }

  -- from the state s and the text t on, u is what the lines ls come to
  abbrev pub Comes : HolderAllocator → List ℕ → Told → List Line → Type 0
  Comes s t u ls = (u.state.state.memory ≡ left_by (states n) (line_client n) s.memory ls) × (u.text ≡ t ++ texts_of n s.memory ls)

  -- a byte that ends the line, or does not
  module _ (f : ℕ) (s : HolderAllocator) (p t : List ℕ) (b : ℕ) (l : List ℕ) where
    abbrev lines : Bool → List Line
    lines c = cond c (line_of p ∷ lines_from [] l) (lines_from (p ++ (b ∷ [])) l)

    abbrev on : Bool → Told
    on c = heard n (cond c (ends n (told f s p t)) (joined (told f s p t) (b ∷ []))) l

    either : (c : Bool) → Comes s t (on true) (lines true) → Comes s t (on false) (lines false) → Comes s t (on c) (lines c)
    either true e f = e
    either false e f = f

  -- document 01's forms: the state and the text of the lines
  plain_lines : (s : HolderAllocator) (p t l : List ℕ) → Comes s t (heard n (told 1 s p t) l) (lines_from p l)
  unfolding heard ends joined lines_from left_by texts_of says leaves
  plain_lines s p t [] = (refl, sym (append-nil t))
  plain_lines s p t (b ∷ l) =
      let e = plain_lines (with_memory (state_after n s.memory (line_of p)) s) [] (t ++ text_of n s.memory (line_of p)) l in
      either 1 s p t b l (eqb b 10) (e.0, e.1 ∙ append_assoc t (text_of n s.memory (line_of p)) _) (plain_lines s (p ++ (b ∷ [])) t l)

  -- before the first line has ended, where it is not `holders`
  open-lines : (s : HolderAllocator) (p t l : List ℕ) → begins_register_lem p l ≡ false → Comes s t (heard n (told 0 s p t) l) (lines_from p l)
  unfolding heard ends joined lines_from left_by texts_of says leaves begins_register_lem
  open-lines s p t [] h = (refl, sym (append-nil t))
  open-lines s p t (b ∷ l) h = go (eqb b 10) h (λ k. open-lines s (p ++ (b ∷ [])) t l k)
    where
      go : (c : Bool) → cond c (opens p) (begins_register_lem (p ++ (b ∷ [])) l) ≡ false → (begins_register_lem (p ++ (b ∷ [])) l ≡ false → Comes s t (on 0 s p t b l false) (lines 0 s p t b l false)) → Comes s t (on 0 s p t b l c) (lines 0 s p t b l c)
      go true k f =
          let e = plain_lines (with_memory (state_after n s.memory (line_of p)) s) [] (t ++ text_of n s.memory (line_of p)) l in
          rw k (e.0, e.1 ∙ append_assoc t (text_of n s.memory (line_of p)) _)
      go false k f = f k

  pub heard-lines : (l : List ℕ) → begins_register_lem [] l ≡ false → Comes (new_of n) [] (heard n (silent (open_desk n)) l) (lines_from [] l)
  heard-lines l h = open-lines (new_of n) [] [] l h

  -- the register's forms
  abbrev Held : HolderAllocator → List ℕ → Told → List HolderLine → Type 0
  Held s t u ls = (u.state ≡ desk 2 (holders_left n s ls)) × (u.text ≡ t ++ holder_texts n s ls)

  register-lines : (s : HolderAllocator) (p t l : List ℕ) → Held s t (heard n (told 2 s p t) l) (holder_lines_from p l)
  unfolding heard ends joined holder_lines_from holders_left holder_texts says leaves
  register-lines s p t [] = (refl, sym (append-nil t))
  register-lines s p t (b ∷ l) =
      let e = register-lines (holder_after n s (holder_line_of p)) [] (t ++ holder_text n s (holder_line_of p)) l in
      go (eqb b 10) (e.0, e.1 ∙ append_assoc t (holder_text n s (holder_line_of p)) _) (register-lines s (p ++ (b ∷ [])) t l)
    where
      go : (c : Bool) → Held s t (heard n (ends n (told 2 s p t)) l) (holder_line_of p ∷ holder_lines_from [] l) → Held s t (heard n (joined (told 2 s p t) (b ∷ [])) l) (holder_lines_from (p ++ (b ∷ [])) l)
          → Held s t (heard n (cond c (ends n (told 2 s p t)) (joined (told 2 s p t) (b ∷ []))) l) (cond c (holder_line_of p ∷ holder_lines_from [] l) (holder_lines_from (p ++ (b ∷ [])) l))
      go true e f = e
      go false e f = f

  pub heard-holders : (l : List ℕ) → Held (new_of n) [] (heard n (silent (open_desk n)) (holders_line ++ l)) (holder_lines_from [] l)
  unfolding heard ends joined says leaves same
  heard-holders l = register-lines (new_of n) [] [] l
