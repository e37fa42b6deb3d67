-- A turn, and what it needs. Assumes nothing.
use mathlib.Core.Path.{◌≡◌, refl, sym, ap, ◌∙◌}
use mathlib.Core.Bool.{Bool, true, false}
use mathlib.Core.List.{List}
use Prim.Native.Nat.{ℕ, ◌+◌, ◌<◌, ◌≤◌}
use native.Mathlib.Omega.{arith}
use borrow.Author.Tests.{le-leb}
use lib.ListN.{length}
use Rattle.script_forms.specs.Forms.{Desk}
use Rattle.script_answers.specs.Script.{room}
use Rattle.script_chunks.specs.Input.{kept, Ready}
use Rattle.script_chunks.specs.declared.Reading.{Reading}
use Rattle.script_sessions.specs.Sessions.{fresh, restart, Prepared, Took, Turned, answered, took, closed}
use Rattle.script_sessions.specs.declared.Session.{Session}

pub true-false : {A : Type 0} → ◌≡◌ {A = Bool} true false → A
true-false e = absurd (let z : ◌≡◌ {A = ℕ} 0 1 = cc in let v : ⊥ = omega arith in v)

pub ready-fresh : (n : ℕ) (s : Session) (carry chunk out : List ℕ) (from : ℕ) → Prepared n s carry chunk out → Ready n (fresh s.reading from) carry out
ready-fresh n s carry chunk out from p = let w = p.space in record { carries = p.carries; held = p.held; room = le-leb (0 + room n) (length out) (omega arith) }

module _ (n : ℕ) (m : Desk) (s : Session) (carry chunk out : List ℕ) where
  module _ (chunk' out' : List ℕ) (heard : s.count ≤ s.reading.from) where
    pub took-some : (k : ℕ) → 0 < k → k ≤ length chunk' → (s' : Session) → s' ≡ restart s k false → Turned n m s carry chunk out m s' carry chunk' out'
    took-some k h w s' e = rw e (took heard refl refl (record { reading = refl; within = w; some = λ x. h; none = λ x. true-false (sym x); ended = refl }))

    pub took-none : (s' : Session) → s' ≡ restart s 0 true → Turned n m s carry chunk out m s' carry chunk' out'
    took-none s' e = rw e (took heard refl refl (record { reading = refl; within = omega arith; some = λ x. true-false x; none = λ x. refl; ended = refl }))

  module _ (p : Prepared n s carry chunk out) (m' : Desk) (s' : Session) (carry' chunk' out' : List ℕ)
      (c : length carry' ≡ length carry) (d : length chunk' ≡ length chunk) (e : length out' ≡ length out) where
    next : s'.reading.held ≤ length carry → s'.count ≤ length chunk → Prepared n s' carry' chunk' out'
    next h k =
        let x = p.carries in
        let y = p.space in
        record { carries = omega arith; held = omega arith; space = omega arith; count = omega arith }

    pub prepared-on : Turned n m s carry chunk out m' s' carry' chunk' out' → Prepared n s' carry' chunk' out'
    prepared-on (answered h f a) = let k = p.count in let x = a.count in next a.hears.steps.held (omega arith)
    prepared-on (took h e f a) = let k = ap (λ (r : Reading). r.held) a.reading in let x = p.held in let w = a.within in next (omega arith) (omega arith)
    prepared-on (closed h f a) = let k = a.held in let w = a.count in next (omega arith) (omega arith)
