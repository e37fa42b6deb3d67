-- The text of the answer to a call of the register, and of the held ranges in three arrays. Assumes nothing.
use Rattle.std.specs.Prelude.{ℕ, zero, suc, List, [], ◌∷◌, ◌++◌, get_or, Ok, Err}
use Rattle.calls.specs.declared.Request.{Request}
use Rattle.calls.specs.declared.Request.TheVariants.{Free}
use Rattle.script_texts.specs.Answers.{digits_of, no_text, range_text}
use Rattle.script_replies.specs.Replies.{reply_text}
use Rattle.holder_serve.specs.Made.{HolderAnswer}
use Rattle.holder_serve.specs.declared.HolderError.TheVariants.{Memory, NotYours, RegisterFull}
use Rattle.holder_serve.specs.declared.HolderRequest.{HolderRequest}
use Rattle.holder_serve.specs.declared.HolderRequest.TheVariants as asks

-- the allocator's request in it
abbrev pub below_of : HolderRequest → Request
below_of (asks.Offer a z) = Free a z
below_of (asks.By h q) = q

-- the allocator's answer to it, or `no` with 5 or 6
unfoldable pub holder_reply : HolderRequest → HolderAnswer → List ℕ
holder_reply q (Ok a) = reply_text (below_of q) (Ok a)
holder_reply q (Err (Memory e)) = reply_text (below_of q) (Err e)
holder_reply q (Err NotYours) = no_text 5
holder_reply q (Err RegisterFull) = no_text 6

-- ---- lists

-- `held`, the number of ranges and of bytes
abbrev pub head_text : ℕ → ℕ → List ℕ
head_text count bytes = (104 ∷ 101 ∷ 108 ∷ 100 ∷ 32 ∷ []) ++ range_text count bytes

-- a range's holder, start and last byte
abbrev pub row_text : ℕ → ℕ → ℕ → List ℕ
row_text h s l = digits_of h ++ ((32 ∷ []) ++ range_text s l)

-- no line of a list is longer, whatever the numbers are
abbrev pub row : ℕ
row = 64

-- the first k ranges
unfoldable pub rows : ℕ → List ℕ → List ℕ → List ℕ → List ℕ
rows zero holders starts lasts = []
rows (suc k) holders starts lasts = rows k holders starts lasts ++ row_text (get_or holders k 0) (get_or starts k 0) (get_or lasts k 0)

unfoldable pub held_table : ℕ → ℕ → List ℕ → List ℕ → List ℕ → List ℕ
held_table count bytes holders starts lasts = head_text count bytes ++ rows count holders starts lasts
