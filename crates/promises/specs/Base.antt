-- What is promised of the rules, of the check of a state, and of the calls by value, sentence by sentence; `crates/promises/proofs/Base.antt` shows each.
-- n is the number of records. Assumes nothing.
use Rattle.std.specs.Prelude.{ℕ, ◌+◌, ◌-◌, ◌*◌, ◌^◌, ◌≤◌, ◌<◌, true, [], ◌∷◌, map, ◌≢◌, ◌↔◌, ◌≡◌, T}
use Rattle.rules.specs.Rules.{top, size_lists, Range, Book, total, list_number, down, up, full, Call, reserve}
use Rattle.rules.specs.Sound.{In, Sound}
use Rattle.rules_engine.specs.Demand.{Demand}
use Rattle.pool_state.specs.State.{state_of}
use Rattle.pool_state.specs.Sound.{book_of, SoundState}
use Rattle.pool_state.specs.declared.MemoryAllocator.{MemoryAllocator}
use Rattle.check_state.specs.IsSound.{is_sound_lem}
use Rattle.check_meaning.specs.Paragraph.{Sized, Paragraph}
use Rattle.calls.specs.Calls.{number_of}
use Rattle.core_serve.specs.Made.{made}
use Rattle.memory_allocator.specs.States.{states}

-- the document's words on list numbers, rounding, the widened reserve and used records
pub record Words : Type 0 where
  -- its figures
  pub list-numbers : map list_number (1 ∷ 4096 ∷ 4097 ∷ 8192 ∷ 4194304 ∷ 4194305 ∷ 9223372036854775808 ∷ []) ≡ 0 ∷ 0 ∷ 1 ∷ 1 ∷ 10 ∷ 11 ∷ 11 ∷ []
  -- the least k from 0 with size <= 4096 * 2^k, but never above the last list
  pub list-fits : (z : ℕ) → list_number z < size_lists - 1 → z ≤ 4096 * 2 ^ list_number z
  pub list-least : (z i : ℕ) → i < list_number z → 4096 * 2 ^ i < z
  -- the nearest multiple of 2^o on either side; what was below 2^63 stays so
  pub down-near : (o x : ℕ) → (down o x ≤ x) × (x < down o x + 2 ^ o)
  pub up-near : (o x : ℕ) → (x ≤ up o x) × (up o x < x + 2 ^ o)
  pub up_top : (o x : ℕ) → o ≤ 63 → x ≤ top → up o x ≤ top
  -- a reserve with an order is the plain reserve of the widened range
  pub widened : (n s z o : ℕ) (b : Book) → z ≢ 0 → o ≤ 63 → z ≤ total b → s + z ≤ top → reserve n s z o b ≡ reserve n (down o s) (up o (s + z) - down o s) 0 b
  -- all records are used: each has a range
  pub full-uses : (n : ℕ) (b : Book) → T (full n b) → (k : ℕ) → k < n → (q : Range) × In q b.chain × (k ≡ q.number)

-- a sound state is one of the document's paragraph; of a state whose arrays have the places that their types say, and no others can be made, the check says yes
-- exactly then, and it says yes to the state of every sound book; a sound state is that of the book that its links lead to, and of no other
pub record Checked (n : ℕ) : Type 0 where
  pub paragraph : (s : MemoryAllocator) → SoundState n s ↔ Paragraph n s
  pub exact : (s : MemoryAllocator) → Sized n s → (is_sound_lem n s ≡ true) ↔ SoundState n s
  pub book-passes : (b : Book) → Sound n b → is_sound_lem n (state_of n b) ≡ true
  pub book-back : (b : Book) → Sound n b → book_of n (state_of n b) ≡ b

-- the calls by value: a refused one hands back the identical state, whatever the state and the numbers; demand 3
pub record Called (n : ℕ) : Type 0 where
  pub refused-same : (s : MemoryAllocator) (c : Call) → Sized n s → number_of (made n s c).answer ≢ 0 → (made n s c).state ≡ s
  pub books-close : Demand (states n)
