-- The call that a request stands for, document 01's number and address of an answer, and the one signed number for both. Assumes nothing.
use Rattle.std.specs.Prelude.{ℕ, suc, Bool, cond, eqb, ℤ, pos, negsuc, neg_ℤ, Result, Ok, Err}
use Rattle.rules.specs.Rules.{Call, Free, Allocate, Reserve, Voucher}
use Rattle.calls.specs.declared.Request.{Request}
use Rattle.calls.specs.declared.Request.TheVariants as asks
use Rattle.pool_state.specs.declared.Address.{Address}
use Rattle.calls.specs.declared.MemoryError.{MemoryError}
use Rattle.calls.specs.declared.MemoryError.TheVariants.{NoEntry, InvalidEntry, NoMemory, InvalidRequest}

abbrev pub call_of : Request → Call
call_of (asks.Allocate z o) = Allocate z o
call_of (asks.Reserve a z o) = Reserve a.0 z o
call_of (asks.Free a z) = Free a.0 z

abbrev pub Answer : Type 0
Answer = Result Address MemoryError

-- a number that is told, or the refusal
abbrev pub Counted : Type 0
Counted = Result ℕ MemoryError

-- of an answer, and of whatever else may be refused
abbrev pub number_of : {A : Type 0} → Result A MemoryError → ℕ
number_of (Ok a) = 0
number_of (Err NoEntry) = 1
number_of (Err InvalidEntry) = 2
number_of (Err NoMemory) = 3
number_of (Err InvalidRequest) = 4

abbrev pub address_of : Answer → ℕ
address_of (Ok a) = a.0
address_of (Err e) = 0

-- the answer with this number and address
abbrev pub answer_of : ℕ → ℕ → Answer
answer_of k a =
    cond (eqb k 0) (Ok (record { 0 = a }))
    (cond (eqb k 1) (Err NoEntry)
    (cond (eqb k 2) (Err InvalidEntry)
    (cond (eqb k 3) (Err NoMemory) (Err InvalidRequest))))

-- what is kept of a call and its answer
abbrev pub voucher_of : Call → Answer → Voucher
voucher_of c k = record { call = c; number = number_of k; address = address_of k }

-- ---- one signed number: the address, or minus the number of the refusal

abbrev pub is_accepted : Answer → Bool
is_accepted k = eqb (number_of k) 0

abbrev pub signed_of : Answer → ℤ
signed_of k = cond (is_accepted k) (pos (address_of k)) (neg_ℤ (pos (number_of k)))

-- the number and the address that it stands for
abbrev pub number_from : ℤ → ℕ
number_from (pos a) = 0
number_from (negsuc k) = suc k

abbrev pub address_from : ℤ → ℕ
address_from (pos a) = a
address_from (negsuc k) = 0

abbrev pub voucher_from : Call → ℤ → Voucher
voucher_from c i = record { call = c; number = number_from i; address = address_from i }
