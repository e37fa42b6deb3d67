-- Parts of a chunk, heard one after the other. Assumes nothing.
use mathlib.Core.Path.{◌≡◌, refl, sym, ◌∙◌}
use mathlib.Core.Bool.{true}
use mathlib.Core.List.{List}
use Prim.Native.Nat.{ℕ, ◌-◌, ◌<◌, ◌≤◌}
use native.Mathlib.Omega.{arith}
use lib.ListN.{length}
use Rattle.linked_lists.specs.Links.{none}
use Rattle.script_forms.specs.Forms.{Desk, SoundDesk}
use Rattle.script_answers.specs.Script.{roomy}
use Rattle.script_chunks.specs.Input.{Told, heard, between, kept, Shows, Steps, Hears, Ready}
use Rattle.script_chunks.specs.declared.Reading.{Reading}
use Rattle.script_chunks.proofs.Hearing.{heard-append, between_split}
use Rattle.script_chunks.proofs.Answering.{roomy-within}
use Rattle.script_chunks.proofs.Soundness.{steps-sound}

-- the chunk is heard from the place of r to that of r', or not at all
pub record Goes (n : ℕ) (s : Desk) (r : Reading) (carry chunk out : List ℕ) (s' : Desk) (r' : Reading) (carry' out' : List ℕ) : Type 0 where
  pub onward : r.from ≤ r'.from
  pub within : r'.from ≤ length chunk
  pub out-size : length out' ≡ length out
  pub steps : Steps (λ (t : Told). heard n t (between r.from r'.from chunk)) r'.from s r carry out s' r' carry' out'

module _ (n : ℕ) (chunk : List ℕ) where
  pub goes_none : (s : Desk) (r : Reading) (carry out : List ℕ) → r.held ≤ length carry → r.at ≤ length out → r.from ≤ length chunk → Goes n s r carry chunk out s r carry out
  unfolding heard
  goes_none s r carry out h k w =
      let e : r.from - r.from ≡ 0 = omega arith in
      record { onward = omega arith; within = w; out-size = refl; steps = record { place = refl; size = refl; held = h; room = k; shows = λ t z. rw e z } }

  module _ (s : Desk) (r : Reading) (carry out : List ℕ) (s' : Desk) (r' : Reading) (carry' out' : List ℕ) (h : Hears n s r carry chunk out s' r' carry' out') where
    pub hears-goes : length out' ≡ length out → Goes n s r carry chunk out s' r' carry' out'
    hears-goes e = let on = h.onward in record { onward = omega arith; within = h.within; out-size = e; steps = h.steps }

    pub hears-sound : n ≤ none → Ready n r carry out → SoundDesk n s → SoundDesk n s'
    hears-sound small g e = steps-sound n small (between r.from r'.from chunk) r'.from s r carry out s' r' carry' out' g.held (roomy-within n out r.at g.room) e h.steps

  module _ (s : Desk) (r : Reading) (carry out : List ℕ) (s' : Desk) (r' : Reading) (carry' out' : List ℕ) (s'' : Desk) (r'' : Reading) (carry'' out'' : List ℕ) where
    pub goes_on : Goes n s r carry chunk out s' r' carry' out' → Goes n s' r' carry' chunk out' s'' r'' carry'' out'' → Goes n s r carry chunk out s'' r'' carry'' out''
    goes_on g h =
        let x = g.onward in
        let y = h.onward in
        let size = g.steps.size in
        let within = h.steps.held in
        let at = h.steps.room in
        let osize = g.out-size in
        record {
          onward = omega arith;
          within = h.within;
          out-size = h.out-size ∙ g.out-size;
          steps = record {
            place = refl;
            size = h.steps.size ∙ g.steps.size;
            held = omega arith;
            room = omega arith;
            shows = λ t z.
                let e : heard n t (between r.from r''.from chunk) ≡ heard n (heard n t (between r.from r'.from chunk)) (between r'.from r''.from chunk)
                = rw (between_split r.from r'.from r''.from chunk x y) (heard-append n t (between r.from r'.from chunk) (between r'.from r''.from chunk)) in
                rw e (h.steps.shows (heard n t (between r.from r'.from chunk)) (g.steps.shows t z));
          };
        }

    pub hears-on : Hears n s r carry chunk out s' r' carry' out' → length out' ≡ length out → Goes n s' r' carry' chunk out' s'' r'' carry'' out'' → Hears n s r carry chunk out s'' r'' carry'' out''
    hears-on g e h =
        let x = g.onward in
        let y = h.onward in
        record { onward = omega arith; within = h.within; steps = (goes_on (hears-goes s r carry out s' r' carry' out' g e) h).steps }

-- where there is room again, the next line may be answered
pub ready-again : (n : ℕ) (r : Reading) (carry out : List ℕ) → kept ≤ length carry → r.held ≤ length carry → roomy n out r.at ≡ true → Ready n r carry out
ready-again n r carry out c h e = record { carries = c; held = h; room = e }
