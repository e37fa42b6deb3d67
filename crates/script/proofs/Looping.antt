-- Turns, one after the other. Assumes nothing.
use Rattle.std.proofs.Common.{◌≡◌, ℕ, ◌+◌, ◌≤◌, true, false, List, [], ◌⊎◌, refl, ◌∙◌, length, arith}
use native.Mathlib.Numerals.{add-one}
use Rattle.linked_lists.specs.Links.{none}
use Rattle.script_forms.specs.Forms.{Desk, open_desk, SoundDesk}
use Rattle.script_answers.specs.Script.{room}
use Rattle.script_chunks.specs.Input.{kept}
use Rattle.script_sessions.specs.Sessions.{begin, goes_on_lem, Prepared, Turned, Run, starts, turns}
use Rattle.script_sessions.specs.declared.Session.{Session}
use Rattle.script_sessions.proofs.Turns.{prepared-on}
use Rattle.script_sessions.proofs.Books.{run_sound}
use Rattle.script.specs.Program.{enough, Over}

-- so many turns are taken
pub record Going (n : ℕ) (carry₀ chunk₀ out₀ : List ℕ) (m : Desk) (s : Session) (carry chunk out : List ℕ) (taken : ℕ) : Type 0 where
  pub read : List ℕ
  pub handed : List ℕ
  pub run : Run n taken read handed m s carry chunk out
  pub prepared : Prepared n s carry chunk out
  pub carry-size : length carry ≡ length carry₀
  pub chunk-size : length chunk ≡ length chunk₀
  pub out-size : length out ≡ length out₀

module _ (n : ℕ) (carry₀ chunk₀ out₀ : List ℕ) where
  pub going-none : (m : Desk) (s : Session) → m ≡ open_desk n → s ≡ begin → kept ≤ length carry₀ → room n ≤ length out₀ → Going n carry₀ chunk₀ out₀ m s carry₀ chunk₀ out₀ 0
  going-none m s i e h k =
      rw (i, e) (record {
        read = [];
        handed = [];
        run = starts carry₀ chunk₀ out₀;
        prepared = record { carries = h; held = omega arith; space = k; count = omega arith };
        carry-size = refl;
        chunk-size = refl;
        out-size = refl;
      })

  module _ (m : Desk) (s : Session) (carry chunk out : List ℕ) (taken : ℕ) (g : Going n carry₀ chunk₀ out₀ m s carry chunk out taken) where
    -- where a turn follows, the state is sound
    pub going-sound : n ≤ none → goes_on_lem s ≡ true → SoundDesk n m
    going-sound small on = run_sound n small taken g.read g.handed m s carry chunk out g.run on

    pub going_on : (m' : Desk) (s' : Session) (carry' chunk' out' : List ℕ) → goes_on_lem s ≡ true
        → length carry' ≡ length carry → length chunk' ≡ length chunk → length out' ≡ length out → Turned n m s carry chunk out m' s' carry' chunk' out'
        → Going n carry₀ chunk₀ out₀ m' s' carry' chunk' out' (taken + 1)
    going_on m' s' carry' chunk' out' on c d e w =
        rw (add-one taken) (record {
          read = _;
          handed = _;
          run = turns taken g.read g.handed m s carry chunk out m' s' carry' chunk' out' g.run on w;
          prepared = prepared-on n m s carry chunk out g.prepared m' s' carry' chunk' out' c d e w;
          carry-size = c ∙ g.carry-size;
          chunk-size = d ∙ g.chunk-size;
          out-size = e ∙ g.out-size;
        })

    pub over : (goes_on_lem s ≡ false) ⊎ (taken ≡ enough) → Over n s carry chunk out
    over h = record { taken = taken; read = g.read; handed = g.handed; state = m; run = g.run; over = h }
