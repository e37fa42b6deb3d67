-- How long a block is, and how it is laid out. Assumes nothing.
use Prim.Native.Nat.{ℕ, ◌+◌, ◌*◌}
use mathlib.Core.List.{List, [], ◌∷◌, ◌++◌}
use mathlib.Core.Path.{◌≡◌, sym, subst}
use lib.ListN.{length, length-append}
use native.Mathlib.Omega.{arith}
use Rattle.bytes_be.proofs.Laws.{length-be}
use Rattle.image_parts.proofs.Parts.{length-joined}
use Rattle.script_texts.specs.Answers.{Puts}
use Rattle.calls.specs.declared.Request.{Request}
use Rattle.journal_blocks.specs.Journal.{kind_of, numbers_of, word_bytes, laid_out, block_bytes}
use Rattle.journal_blocks.specs.declared.Entry.{Entry}

pub length-words : (words : List ℕ) → length (word_bytes words) ≡ 8 * length words
unfolding word_bytes
length-words words = length-joined 8 _ (λ k. length-be 8 _) (length words) 0

pub length-laid : (kind : ℕ) (words : List ℕ) → length (laid_out kind words) ≡ 3 + 8 * length words
unfolding laid_out
length-laid kind words = simp (length-append, length-be, length-words) (omega arith)

-- the block of the entry's own request
pub entry-put : (e : Entry) (q : Request) (l m : List ℕ) (at r : ℕ) → e.request ≡ q → Puts (laid_out (kind_of q) (numbers_of q ++ (e.answer ∷ []))) l at m r → Puts (block_bytes e) l at m r
entry-put e q l m at r is h = subst (λ (x : Request). Puts (laid_out (kind_of x) (numbers_of x ++ (e.answer ∷ []))) l at m r) (sym is) h
