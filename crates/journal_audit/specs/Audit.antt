-- An audit: the calls of a journal are replayed by the rules, and each answer is compared. n is the number of records. Assumes nothing.
use Rattle.std.specs.Prelude.{ℕ, zero, suc, cond, List, eqb, length, drop}
use Rattle.rules.specs.Rules as rules
use Rattle.rules.specs.Rules.{Book, empty, step}
use Rattle.pool_state.specs.State.{state_of}
use Rattle.pool_state.specs.Sound.{book_of}
use Rattle.pool_state.specs.declared.MemoryAllocator.{MemoryAllocator}
use Rattle.calls.specs.Calls.{call_of, answer_of, signed_of}
use Rattle.calls.specs.declared.Request.{Request}
use Rattle.journal_blocks.specs.Bits.{bits_of}
use Rattle.journal_blocks.specs.Journal.{versioned, block_at}
use Rattle.journal_blocks.specs.declared.Block.{Block}
use Rattle.journal_blocks.specs.declared.Block.TheVariants as block
use Rattle.journal_audit.specs.declared.Stand.{Stand}
use Rattle.journal_audit.specs.declared.Stop.{Stop}
use Rattle.journal_audit.specs.declared.Stop.TheVariants as stop
use Rattle.journal_audit.specs.declared.Verdict.{Verdict}
use Rattle.journal_audit.specs.declared.Verdict.TheVariants.{Agrees, Differs, Truncated, UnknownCall, WrongLength, NoVersion}

-- what the rules answer to a request, in 64 bits
abbrev pub answer_bits_lem : rules.Answer → ℕ
answer_bits_lem w = bits_of (signed_of (answer_of w.number w.address))

abbrev pub replayed : ℕ → Book → Request → rules.Answer
replayed n b q = step n (call_of q) b

-- the state that the calls left which were made, and the number of those that have agreed
pub record Auditing : Type 0 where
  pub state : MemoryAllocator
  pub index : ℕ

-- where the audit stands, how many of the bytes were those of blocks that agreed, and why it stopped
pub record Audited : Type 0 where
  pub auditing : Auditing
  pub used : ℕ
  pub stop : Stop

-- in place: the lent fields are the state
abbrev pub audited : MemoryAllocator → Stand → Audited
audited s r = record { auditing = record { state = s; index = r.index }; used = r.used; stop = r.stop }

-- the audit stands at a place: so many calls have agreed, and the book is what the calls left
abbrev pub stands : ℕ → ℕ → ℕ → Book → Stop → Audited
stands n at i b s = record { auditing = record { state = state_of n b; index = i }; used = at; stop = s }

abbrev pub stands_at_lem : ℕ → ℕ → ℕ → Book → Audited
stands_at_lem n at i b = stands n at i b stop.More

-- a call that agrees is passed, and `rest` goes on behind it; the audit stops at the first of any other. One that differs was made, too
abbrev pub judged_by : ℕ → (ℕ → ℕ → Book → Audited) → ℕ → ℕ → Book → Block → Audited
judged_by n rest at i b (block.Call e next) =
    cond (eqb (answer_bits_lem (replayed n b e.request)) e.answer) (rest next (suc i) (replayed n b e.request).book) (stands n at i (replayed n b e.request).book stop.Differs)
judged_by n rest at i b block.End = stands n at i b stop.More
judged_by n rest at i b block.Truncated = stands n at i b stop.More
judged_by n rest at i b block.UnknownCall = stands n at i b stop.UnknownCall
judged_by n rest at i b block.WrongLength = stands n at i b stop.WrongLength

-- from a place on; the first number counts down, and as many as there are bytes from there on are enough
unfoldable pub audit_from_lem : ℕ → ℕ → List ℕ → ℕ → ℕ → Book → Audited
audit_from_lem n zero l at i b = stands n at i b stop.More
audit_from_lem n (suc k) l at i b = judged_by n (audit_from_lem n k l) at i b (block_at l at)

-- the blocks l, from where an audit stands
abbrev pub audited_on : ℕ → Auditing → List ℕ → Audited
audited_on n a l = audit_from_lem n (length l) l 0 a.index (book_of n a.state)

-- nothing is replayed yet
abbrev pub begun : ℕ → Auditing
begun n = record { state = state_of n empty; index = 0 }

-- after all blocks, of so many bytes: bytes that are left over are a block that is cut off. i calls have agreed, and t is the total
abbrev pub verdict_for : Stop → ℕ → ℕ → ℕ → ℕ → Verdict
verdict_for stop.More size used i t = cond (eqb used size) (Agrees t) (Truncated i)
verdict_for stop.Differs size used i t = Differs i
verdict_for stop.UnknownCall size used i t = UnknownCall i
verdict_for stop.WrongLength size used i t = WrongLength i

abbrev pub verdict_of_lem : ℕ → Audited → Verdict
verdict_of_lem size d = verdict_for d.stop size d.used d.auditing.index d.auditing.state.free_size

-- a whole journal
abbrev pub audit_of : ℕ → List ℕ → Verdict
audit_of n l = cond (versioned l) (verdict_of_lem (length (drop 1 l)) (audited_on n (begun n) (drop 1 l))) NoVersion
