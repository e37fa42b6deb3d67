-- What a call of the board or of a holder answers and leaves, for every state. n is the number of records. Assumes nothing.
use Rattle.std.specs.Prelude.{ℕ, cond, eqb, Result, Ok, Err}
use Rattle.memory_allocator.specs.Names as allocator
use Rattle.memory_allocator.specs.States.{states}
use Rattle.calls.specs.Calls as calls
use Rattle.calls.specs.declared.MemoryError.TheVariants.{InvalidEntry}
use Rattle.pool_state.specs.declared.Address.{Address}
use Rattle.pool_state.specs.declared.MemoryAllocator.{MemoryAllocator}
use Rattle.holder_rules.specs.Holders.{Holding, Answer, Call, Offer, By, Voucher, step}
use Rattle.holder_rules.specs.States.{holding_of, with_register, is_sound_lem}
use Rattle.holder_rules.specs.declared.HolderAllocator.{HolderAllocator}
use Rattle.holder_serve.specs.declared.HolderError.{HolderError}
use Rattle.holder_serve.specs.declared.HolderError.TheVariants.{Memory, NotYours, RegisterFull}
use Rattle.holder_serve.specs.declared.HolderOutcome.{HolderOutcome}
use Rattle.holder_serve.specs.declared.HolderRequest.{HolderRequest}
use Rattle.holder_serve.specs.declared.HolderRequest.TheVariants as asks

-- the call that a request stands for
abbrev pub requested : HolderRequest → Call
requested (asks.Offer a z) = Offer a.0 z
requested (asks.By h q) = By h.0 (allocator.call_of q)

abbrev pub HolderAnswer : Type 0
HolderAnswer = Result Address HolderError

-- the allocator's answer among them
abbrev pub of_memory : calls.Answer → HolderAnswer
of_memory (Ok a) = Ok a
of_memory (Err e) = Err (Memory e)

-- the number and the address of an answer
abbrev pub number_of : HolderAnswer → ℕ
number_of (Ok a) = 0
number_of (Err (Memory e)) = allocator.number_of {A = Address} (Err e)
number_of (Err NotYours) = 5
number_of (Err RegisterFull) = 6

abbrev pub address_of : HolderAnswer → ℕ
address_of (Ok a) = a.0
address_of (Err e) = 0

abbrev pub voucher_of : Call → HolderAnswer → Voucher
voucher_of c k = record { call = c; number = number_of k; address = address_of k }

-- the answer with this number and address
abbrev pub answer_of : ℕ → ℕ → HolderAnswer
answer_of k a =
    cond (eqb k 5) (Err NotYours)
    (cond (eqb k 6) (Err RegisterFull)
    (of_memory (calls.answer_of k a)))

-- an answer of the rules, with the state of its holding
abbrev pub held : Answer MemoryAllocator → HolderOutcome
held w = record { answer = answer_of w.number w.address; state = with_register w.holding }

-- a sound state is answered by the rule; an unsound one is InvalidEntry, and comes back as it was
unfoldable pub judged : ℕ → (Holding MemoryAllocator → Answer MemoryAllocator) → HolderAllocator → HolderOutcome
judged n rule s = cond (is_sound_lem n s) (held (rule (holding_of s))) (record { answer = Err (Memory InvalidEntry); state = s })

-- any call
abbrev pub made : ℕ → HolderAllocator → Call → HolderOutcome
made n s c = judged n (step (states n) c) s
