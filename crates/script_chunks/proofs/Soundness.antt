-- What is heard leaves a sound desk sound. n is the number of records. Assumes nothing.
use mathlib.Core.Path.{◌≡◌, refl, sym, subst}
use mathlib.Core.Bool.{Bool, true, false, cond}
use mathlib.Core.List.{List, [], ◌∷◌}
use Prim.Native.Nat.{ℕ, ◌≤◌}
use lib.Dec.{eqb}
use lib.ListN.{length, take}
use lib.Seq.{length-take-le, take_all}
use native.Mathlib.Omega.{arith}
use Rattle.linked_lists.specs.Links.{none}
use Rattle.script_forms.specs.Forms.{Desk, SoundDesk}
use Rattle.script_forms.proofs.Soundness.{leaves-sound}
use Rattle.script_chunks.specs.Input.{Told, ends, joined, heard, Shows, Steps}
use Rattle.script_chunks.specs.declared.Reading.{Reading}

module _ (n : ℕ) (small : n ≤ none) where
  pub heard-sound : (t : Told) (l : List ℕ) → SoundDesk n t.state → SoundDesk n (heard n t l).state
  unfolding heard ends joined
  heard-sound t [] h = h
  heard-sound t (b ∷ l) h = go (eqb b 10) (heard-sound (ends n t) l (leaves-sound n small t.state t.part h)) (heard-sound (joined t (b ∷ [])) l h)
    where
      go : (c : Bool) → SoundDesk n (heard n (ends n t) l).state → SoundDesk n (heard n (joined t (b ∷ [])) l).state → SoundDesk n (heard n (cond c (ends n t) (joined t (b ∷ []))) l).state
      go true e f = e
      go false e f = f

  -- a step that hears bytes
  pub steps-sound : (l : List ℕ) (to : ℕ) (s : Desk) (r : Reading) (carry out : List ℕ) (s' : Desk) (r' : Reading) (carry' out' : List ℕ)
      → r.held ≤ length carry → r.at ≤ length out → SoundDesk n s → Steps (λ (t : Told). heard n t l) to s r carry out s' r' carry' out' → SoundDesk n s'
  steps-sound l to s r carry out s' r' carry' out' h k e w =
      let t : Told = record { state = s; part = take r.held carry; text = take r.at out } in
      let short = length-take-le r.held carry h in
      let z : Shows t s r carry out = record { state = refl; part = record { within = h; bytes = sym (take_all (length carry) (take r.held carry) (omega arith)) }; room = k; text = refl } in
      subst (SoundDesk n) (sym (w.shows t z).state) (heard-sound t l e)
