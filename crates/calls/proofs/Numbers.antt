-- An answer and its numbers say the same. Assumes nothing.
use Prim.Native.Nat.{ℕ, zero, suc, ◌≤◌}
use mathlib.Core.Bool.{not}
use mathlib.Core.Logic.{◌≢◌}
use mathlib.Core.Path.{◌≡◌, refl}
use native.Mathlib.Omega.{arith}
use lib.IntN.{pos}
use lib.Signed.{lt_z}
use borrow.Author.Tests.{le-ltb}
use Rattle.rules.specs.Rules as rules
use Rattle.rules.specs.Rules.{Book, Call, voucher}
use Rattle.rules_laws.proofs.Outcomes.{Outcome, refusal, took, gave}
use Rattle.std.specs.Prelude.{Ok, Err}
use Rattle.calls.specs.Calls.{Answer, number_of, address_of, answer_of, voucher_of, is_accepted, signed_of, voucher_from}
use Rattle.calls.specs.declared.MemoryError.{MemoryError}
use Rattle.calls.specs.declared.MemoryError.TheVariants.{NoEntry, InvalidEntry, NoMemory, InvalidRequest}

-- an answer is that of its number and address
pub answer-is : (k : Answer) → k ≡ answer_of (number_of k) (address_of k)
answer-is (Ok a) = refl
answer-is (Err NoEntry) = refl
answer-is (Err InvalidEntry) = refl
answer-is (Err NoMemory) = refl
answer-is (Err InvalidRequest) = refl

-- a refusal's number is not 0
pub refusal-nonzero : (A : Type 0) (e : MemoryError) → number_of {A = A} (Err e) ≢ 0
refusal-nonzero A NoEntry q = absurd (let v : ⊥ = omega arith in v)
refusal-nonzero A InvalidEntry q = absurd (let v : ⊥ = omega arith in v)
refusal-nonzero A NoMemory q = absurd (let v : ⊥ = omega arith in v)
refusal-nonzero A InvalidRequest q = absurd (let v : ⊥ = omega arith in v)

-- the voucher of a signed answer is the answer's
pub signed-voucher : (c : Call) (k : Answer) → voucher_from c (signed_of k) ≡ voucher_of c k
signed-voucher c (Ok a) = refl
signed-voucher c (Err NoEntry) = refl
signed-voucher c (Err InvalidEntry) = refl
signed-voucher c (Err NoMemory) = refl
signed-voucher c (Err InvalidRequest) = refl

-- a number below 0 is a refusal's, and no other is
pub refusal-negative : (k : Answer) → lt_z (signed_of k) (pos 0) ≡ not (is_accepted k)
refusal-negative (Ok a) = le-ltb a.0 0 (omega arith)
refusal-negative (Err NoEntry) = refl
refusal-negative (Err InvalidEntry) = refl
refusal-negative (Err NoMemory) = refl
refusal-negative (Err InvalidRequest) = refl

-- ---- the numbers and addresses of the rules' answers are kept

kept : (c : Call) (k : ℕ) → k ≢ 0 → k ≤ 4 → voucher_of c (answer_of k 0) ≡ record { call = c; number = k; address = 0 }
kept c zero d h = absurd (d refl)
kept c (suc zero) d h = refl
kept c (suc (suc zero)) d h = refl
kept c (suc (suc (suc zero))) d h = refl
kept c (suc (suc (suc (suc zero)))) d h = refl
kept c (suc (suc (suc (suc (suc k))))) d h = absurd (let v : ⊥ = omega arith in v)

pub numbered : (n : ℕ) (b : Book) (c : Call) (w : rules.Answer) → Outcome n b c w → voucher_of c (answer_of w.number w.address) ≡ voucher c w
numbered n b c _ (refusal k h m) = kept c k h m
numbered n b c _ (took x r f h) = refl
numbered n b c _ (gave f h) = refl
