-- What reading a list of bytes answers: a state with its register, and the lowest figure beside it. Assumes nothing.
use Rattle.std.specs.Prelude.{ℕ, Bool, cond, ◌&&◌, List, eqb, Ok, Err}
use Rattle.rules_lowest.specs.Lowest.{never}
use Rattle.account_state.specs.declared.Account.{Account}
use Rattle.image_parts.specs.Layout.{Layout}
use Rattle.image.specs.Reading as allocator
use Rattle.image.specs.Writing.{number_of, ImageAnswer, invalid}
use Rattle.holder_rules.specs.Holders.{both}
use Rattle.holder_rules.specs.States.{with_register, new_of, is_sound_lem}
use Rattle.holder_rules.specs.declared.Entry.{Entry}
use Rattle.holder_rules.specs.declared.HolderAllocator.{HolderAllocator}
use Rattle.holder_image.specs.Bytes.{register_in_lem, memory_in, headed}

-- what reading answers, and the state and the figure that it hands over
pub record Handed : Type 0 where
  pub number : ℕ
  pub state : HolderAllocator
  pub lowest : ℕ

abbrev pub handed : ImageAnswer → HolderAllocator → ℕ → Handed
handed k s low = record { number = number_of k; state = s; lowest = low }

abbrev pub accepted : HolderAllocator → ℕ → Handed
accepted s low = handed (Ok tt) s low

abbrev pub refused : Layout → Handed
refused f = handed (Err invalid) (new_of f.records) never

-- what reading the allocator's part answers, and the account that it hands over
abbrev pub memory_read : Layout → List ℕ → allocator.Handed
memory_read f l = allocator.reading_of f (memory_in l)

-- the allocator of this account, and this register
abbrev pub state_of : Account → List Entry → HolderAllocator
state_of a r = with_register (both a.ranges r)

-- the state in the bytes, and the figure
abbrev pub state_in_lem : Layout → List ℕ → HolderAllocator
state_in_lem f l = state_of (memory_read f l).state (register_in_lem l)

abbrev pub low_in_lem : Layout → List ℕ → ℕ
low_in_lem f l = (memory_read f l).state.lowest

-- the bytes are the image of a sound state: the head is right, the allocator's part is the image of a sound account, and the state in them is sound
unfoldable pub readable : Layout → List ℕ → Bool
readable f l = headed f l && (eqb (memory_read f l).number 0 && is_sound_lem f.records (state_in_lem f l))

unfoldable pub reading_of : Layout → List ℕ → Handed
reading_of f l = cond (readable f l) (accepted (state_in_lem f l) (low_in_lem f l)) (refused f)

-- ---- what the inner functions cite

-- the state of both is handed over if it is sound
abbrev pub judged : Layout → Account → List Entry → Handed
judged f a r = cond (is_sound_lem f.records (state_of a r)) (accepted (state_of a r) a.lowest) (refused f)
