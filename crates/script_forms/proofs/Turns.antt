-- A line in either forms. n is the number of records. Assumes nothing.
use mathlib.Core.Path.{◌≡◌, refl, sym, ap, ◌∙◌, subst}
use mathlib.Core.Logic.{◌≢◌}
use mathlib.Core.Bool.{Bool, true, false, ◌&&◌}
use mathlib.Core.List.{List, [], ◌++◌}
use Prim.Native.Nat.{ℕ, ◌+◌, ◌*◌, ◌≤◌}
use native.Mathlib.Omega.{arith}
use borrow.Author.Tests.{eq-eqb, ne_eqb, le-leb}
use lib.Dec.{eqb}
use lib.ListN.{length, take, drop, take-append-drop}
use Rattle.linked_lists.specs.Links.{none}
use Rattle.rules.specs.Rules.{Book}
use Rattle.pool_state.specs.State.{Holds}
use Rattle.pool_state.specs.declared.MemoryAllocator.{MemoryAllocator}
use Rattle.pool_state.proofs.Book.{sound-holds}
use Rattle.holder_rules.specs.declared.HolderAllocator.{HolderAllocator}
use Rattle.script_texts.proofs.Buffers.{put_all}
use Rattle.script_lines.specs.Script.{line_of}
use Rattle.script_answers.specs.Script.{room, roomy, Answers}
use Rattle.holder_lines.specs.Lines.{holder_line_of}
use Rattle.holder_answers.specs.Answers.{state_in_lem, HolderSays}
use Rattle.script_forms.specs.Forms.{opens, Desk, desk, says, leaves, Replies, SoundDesk}

module _ (n : ℕ) (f : ℕ) (s : HolderAllocator) (l out : List ℕ) (at : ℕ) where
  pub register-replies : f ≡ 2 → (s' : HolderAllocator) (r : ℕ) (out' : List ℕ) → HolderSays n s (holder_line_of l) out at s' r out' → Replies n (desk f s) l out at (desk f s') r out'
  unfolding says leaves
  register-replies e s' r out' w = let t = eq-eqb f 2 e in record { left = rw t (ap (desk f) w.state); text = rw t w.text }

  module _ (d : f ≢ 2) where
    pub opening-replies : (eqb f 0 && opens l) ≡ true → at + room n ≤ length out → Replies n (desk f s) l out at (desk 2 s) at out
    unfolding says leaves
    opening-replies e h =
        let t = ne_eqb f 2 d in
        let k : at + 0 ≡ at = omega arith in
        record {
          left = rw (t, e);
          text = rw (t, e) (record { short = omega arith; puts = put_all [] out at out at (omega arith) (sym (ap (λ (i : ℕ). take at out ++ drop i out) k ∙ take-append-drop at out)) (sym k) });
        }

    pub plain-replies : (eqb f 0 && opens l) ≡ false → at + room n ≤ length out → (m' : MemoryAllocator) (r : ℕ) (out' : List ℕ)
        → Answers n s.memory (line_of l) out at m' r out' → Replies n (desk f s) l out at (desk 1 (record { memory = m'; register = s.register })) r out'
    unfolding says leaves
    plain-replies e h m' r out' a =
        let t = ne_eqb f 2 d in
        let yes : roomy n out at ≡ true = le-leb (at + room n) (length out) h in
        record {
          left = rw (t, e) (ap (λ (m : MemoryAllocator). desk 1 (record { memory = m; register = s.register })) (rw yes at a.state));
          text = rw (t, e) (record { short = a.whole yes; puts = record { bytes = rw yes at a.bytes; next = rw yes at a.next } });
        }

pub memory-holds : (n : ℕ) (d : Desk) → SoundDesk n d → (b : Book) × Holds n b d.state.memory
memory-holds n d h = (_, sound-holds n d.state.memory h.memory)

-- the register's forms are not document 01's
pub not_plain : (f : ℕ) → f ≡ 2 → eqb f 1 ≡ false
not_plain f e = ap (λ (k : ℕ). eqb k 1) e
