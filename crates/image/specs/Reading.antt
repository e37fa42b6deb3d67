-- What reading a list of bytes answers. Assumes nothing.
use Rattle.std.specs.Prelude.{ℕ, cond, List, eqb, Ok, Err}
use Rattle.account_state.specs.Account.{account, opened}
use Rattle.account_state.specs.declared.Account.{Account}
use Rattle.image_parts.specs.Layout.{Layout, length_at, layout_of}
use Rattle.image_parts.specs.Read.{number_in}
use Rattle.pool_state.specs.Shown.{pool}
use Rattle.image_reading.specs.Reading.{account_in, readable, grown}
use Rattle.image.specs.Writing.{number_of, ImageAnswer, invalid}

-- what reading answers, and the account that it hands over
pub record Handed : Type 0 where
  pub number : ℕ
  pub state : Account

abbrev pub handed : ImageAnswer → Account → Handed
handed k a = record { number = number_of k; state = a }

abbrev pub accepted : Account → Handed
accepted a = handed (Ok tt) a

abbrev pub refused : Layout → Handed
refused f = handed (Err invalid) (opened f.records)

unfoldable pub reading_of : Layout → List ℕ → Handed
reading_of f l = cond (readable f l) (accepted (account_in f l)) (refused f)

-- ---- of any version

-- the layout of these bytes
abbrev pub layout_in : List ℕ → Layout
layout_in l = layout_of (number_in l 0 length_at)

-- what an image of this layout tells of an account: where it has no low figure, the total stands for it
abbrev pub told_by_lem : Layout → Account → Account
told_by_lem f a = account a.ranges (cond (eqb f.low 0) a.ranges.free_size a.lowest)

-- what was read with the records of a layout, with those of now: the same chain and shelf, the other records fresh
abbrev pub updated : Layout → Handed → Handed
updated f h = record { number = h.number; state = grown f.records pool h.state }

unfoldable pub reading_any : List ℕ → Handed
reading_any l = updated (layout_in l) (reading_of (layout_in l) l)
