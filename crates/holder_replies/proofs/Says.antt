-- The text of an answer, by what the match found it to be. Assumes nothing.
use mathlib.Core.Path.{◌≡◌, sym, ap, ◌∙◌, subst}
use mathlib.Core.List.{List}
use Prim.Native.Nat.{ℕ, ◌^◌, ◌<◌}
use native.Mathlib.Omega.{arith}
use Rattle.std.specs.Prelude.{Ok, Err}
use Rattle.calls.specs.Calls.{Answer}
use Rattle.calls.specs.declared.Request.{Request}
use Rattle.script_texts.specs.Answers.{no_text, Puts}
use Rattle.script_texts.proofs.Buffers.{at-most-48}
use Rattle.script_replies.specs.Replies.{line, reply_text, PutsWithin}
use Rattle.holder_serve.specs.Made.{HolderAnswer, of_memory}
use Rattle.holder_serve.specs.declared.HolderError.{HolderError}
use Rattle.holder_serve.specs.declared.HolderError.TheVariants.{NotYours, RegisterFull}
use Rattle.holder_serve.specs.declared.HolderRequest.{HolderRequest}
use Rattle.holder_replies.specs.Replies.{below_of, holder_reply}

-- which refusal it is
pub refused-as : (k : HolderAnswer) (e f : HolderError) → k ≡ Err e → e ≡ f → k ≡ Err f
refused-as k e f p q = subst (λ (x : HolderError). k ≡ Err x) q p

module _ (q : HolderRequest) (k : HolderAnswer) (out o : List ℕ) (at r : ℕ) where
  pub memory-says : (b : Request) (a : Answer) → k ≡ of_memory a → b ≡ below_of q → PutsWithin line (reply_text b a) out at o r → PutsWithin line (holder_reply q k) out at o r
  unfolding holder_reply
  memory-says b (Ok a) e f p =
      subst (λ (x : HolderAnswer). PutsWithin line (holder_reply q x) out at o r) (sym e) (subst (λ (x : Request). PutsWithin line (reply_text x (Ok a)) out at o r) f p)
  memory-says b (Err k) e f p =
      subst (λ (x : HolderAnswer). PutsWithin line (holder_reply q x) out at o r) (sym e) (subst (λ (x : Request). PutsWithin line (reply_text x (Err k)) out at o r) f p)

  pub no_says : (j : ℕ) → j < 2 ^ 64 → holder_reply q k ≡ no_text j → Puts (no_text j) out at o r → PutsWithin line (holder_reply q k) out at o r
  no_says j h e p = subst (λ (t : List ℕ). PutsWithin line t out at o r) (sym e) (record { short = (at-most-48 j 0 h (omega arith)).3; puts = p })

  pub not-yours : k ≡ Err NotYours → Puts (no_text 5) out at o r → PutsWithin line (holder_reply q k) out at o r
  unfolding holder_reply
  not-yours e p = no_says 5 (omega arith) (ap (holder_reply q) e) p

  pub register-full : k ≡ Err RegisterFull → Puts (no_text 6) out at o r → PutsWithin line (holder_reply q k) out at o r
  unfolding holder_reply
  register-full e p = no_says 6 (omega arith) (ap (holder_reply q) e) p
