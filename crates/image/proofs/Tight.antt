-- What the two contracts allow is one answer with one list of bytes, and one answer with one account. Assumes nothing.
use Rattle.std.specs.Prelude.{Ok, Err}
use mathlib.Core.Path.{◌≡◌, refl, ap}
use mathlib.Core.List.{List}
use Prim.Native.Nat.{ℕ}
use native.Mathlib.Omega.{arith}
use Rattle.account_state.specs.declared.Account.{Account}
use Rattle.image.specs.Writing.{number_of, Written, written, ImageAnswer}
use Rattle.image.specs.Reading.{Handed, handed}

one_answer : (a b : ImageAnswer) → number_of a ≡ number_of b → a ≡ b
one_answer (Ok _) (Ok _) e = refl
one_answer (Ok _) (Err _) e = absurd (omega arith)
one_answer (Err _) (Ok _) e = absurd (omega arith)
one_answer (Err _) (Err _) e = refl

pub one-writing : (a b : ImageAnswer) (l m : List ℕ) → written a l ≡ written b m → (a ≡ b) × (l ≡ m)
one-writing a b l m e = (one_answer a b (ap (λ (w : Written). w.number) e), ap (λ (w : Written). w.bytes) e)

pub one-reading : (a b : ImageAnswer) (s t : Account) → handed a s ≡ handed b t → (a ≡ b) × (s ≡ t)
one-reading a b s t e = (one_answer a b (ap (λ (h : Handed). h.number) e), ap (λ (h : Handed). h.state) e)
