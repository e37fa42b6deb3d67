-- What the parts of the program determine. Assumes nothing.
use Prim.Native.Nat.{ℕ}
use mathlib.Core.List.{List}
use mathlib.Core.Path.{◌≡◌, sym, ap, ◌∙◌, subst}
use lib.ListN.{length, take}
use Rattle.script_forms.specs.Forms.{Desk}
use Rattle.script_chunks.specs.Input.{Told, heard, between, Shows, Hears}
use Rattle.script_chunks.specs.declared.Reading.{Reading}
use Rattle.script_sessions.proofs.Books.{all-answered}
use Rattle.promises.specs.Program.{Alike, ProgramDetermined}

-- two readings that show one thing, in carries of one length
shown-alike : (t : Told) (m : Desk) (x : Reading) (carry out : List ℕ) (m' : Desk) (y : Reading) (carry' out' : List ℕ) → length carry ≡ length carry'
    → Shows t m x carry out → Shows t m' y carry' out' → Alike m x carry out m' y carry' out'
shown-alike t m x carry out m' y carry' out' e h k = record {
  state = h.state ∙ sym k.state;
  held = h.part.bytes ∙ ap (λ (i : ℕ). take i t.part) e ∙ sym k.part.bytes;
  text = h.text ∙ sym k.text;
}

module _ (n : ℕ) (t : Told) (m : Desk) (r : Reading) (carry chunk out : List ℕ) (shows : Shows t m r carry out) where
  -- what hearing up to the place i comes to
  abbrev up_to : ℕ → Told
  up_to i = heard n t (between r.from i chunk)

  same_place : (m' : Desk) (x : Reading) (carry' out' : List ℕ) (m'' : Desk) (y : Reading) (carry'' out'' : List ℕ)
      → Hears n m r carry chunk out m' x carry' out' → Hears n m r carry chunk out m'' y carry'' out'' → x.from ≡ y.from → Alike m' x carry' out' m'' y carry'' out''
  same_place m' x carry' out' m'' y carry'' out'' h k e =
      shown-alike (up_to y.from) m' x carry' out' m'' y carry'' out'' (h.steps.size ∙ sym k.steps.size)
      (subst (λ (i : ℕ). Shows (up_to i) m' x carry' out') e (h.steps.shows t shows)) (k.steps.shows t shows)

pub program-determined : (n : ℕ) → ProgramDetermined n
program-determined n = record {
  heard-alike = λ t m r carry chunk out m' x carry' out' m'' y carry'' out'' shows. same_place n t m r carry chunk out shows m' x carry' out' m'' y carry'' out'';
  closed-alike = λ t m r carry out m' at out' m'' at' out'' shows h k. (h.state t shows ∙ sym (k.state t shows), h.text t shows ∙ sym (k.text t shows));
  runs-alike = λ read handed handed' k m s carry chunk out k' m' s' carry' chunk' out' run run' e e'.
      all-answered n k read handed m s carry chunk out run e ∙ sym (all-answered n k' read handed' m' s' carry' chunk' out' run' e');
}
