-- Each contract allows one result: number, address, whole next state, and each byte, word and place of what is lent. A result is all that a contract speaks
-- of at exit; `docs/CONTRACTS.md` has, for each public call, the sentence here that its contract is an instance of. Assumes nothing.
use Rattle.std.specs.Prelude.{ℕ, Bool, List, ◌≡◌, ℤ}
use Rattle.rules.specs.Rules as rules
use Rattle.rules.specs.Rules.{Book}
use Rattle.pool_state.specs.declared.MemoryAllocator.{MemoryAllocator}
use Rattle.calls.specs.Calls.{Answer, Counted}
use Rattle.calls.specs.declared.Outcome.{Outcome}
use Rattle.core_accounts.specs.Accounts as accounts
use Rattle.holder_rules.specs.declared.HolderAllocator.{HolderAllocator}
use Rattle.holder_lists.specs.Accounts.{FreeLists}
use Rattle.holder_lists.specs.declared.Whose.{Whose}
use Rattle.holder_ranges.specs.Holdings as ranges
use Rattle.holder_images.specs.Reading as holding
use Rattle.holder_images.specs.declared.HolderReading.{HolderReading}
use Rattle.account_state.specs.declared.Account.{Account}
use Rattle.account_state.specs.declared.Entered.{Entered}
use Rattle.batch.specs.Lists.{Serves, Served}
use Rattle.image_parts.specs.Layout.{Layout}
use Rattle.image.specs.Reading.{Handed, handed}
use Rattle.image.specs.Writing.{Written, written, ImageAnswer}
use Rattle.image.specs.declared.Reading.{Reading}
use Rattle.image_calls.specs.Lists.{Returned, returned, BatchOver}
use Rattle.door_own.specs.Own.{Judged}
use Rattle.doors.specs.Lent.{Does}
use Rattle.door_accounts.specs.Accounts as shows
use Rattle.door_lists.specs.Lists.{Lists, Imports, Exports}
use Rattle.journal_calls.specs.Calls.{Left, left, Reports}
use Rattle.journal_audit.specs.Audit.{Audited, audited}
use Rattle.journal_audit.specs.declared.Stand.{Stand}
use Rattle.journal_audit.specs.declared.Verdict.{Verdict}
use Rattle.script_texts.specs.Answers.{Puts}
use Rattle.script_lines.specs.declared.parse.Line.{Line}
use Rattle.script_replies.specs.Replies.{PutsWithin}
use Rattle.script_answers.specs.Script.{Answers}
use Rattle.holder_lines.specs.declared.HolderLine.{HolderLine}
use Rattle.holder_answers.specs.Answers.{HolderSays}
use Rattle.script_forms.specs.Forms.{Desk, Replies}
use Rattle.mapper_marks.specs.Marking as marks
use Rattle.mapper_pages.specs.Pages.{Supply, supply}
use Rattle.mapper_stores.specs.Stores.{Held, held}
use Rattle.mapper.specs.Maps as maps

-- any two results that a contract allows coincide
abbrev pub Determined : {X : Type 0} → (X → Type 0) → Type 0
Determined {X} allows = (x y : X) → allows x → allows y → x ≡ y

pub record EachDetermined : Type 1 where
  -- one equation for what is returned, or for the one thing that is lent
  pub equation : {X : Type 0} (v : X) → Determined (λ (x : X). x ≡ v)
  -- a state that is lent in place: the answer, and the state behind the reference
  pub door-does : (core : MemoryAllocator → Outcome) (m : MemoryAllocator) → Determined (λ (x : Answer × MemoryAllocator). Does core x.0 m x.1)
  -- the listing, also where there is a register, and a list of calls
  pub listing : (n : ℕ) (s : MemoryAllocator) (starts lasts : List ℕ) → Determined (λ (x : Counted × List ℕ × List ℕ). accounts.Lists n s starts lasts x.0 x.1 x.2)
  pub free-listed : (n : ℕ) (s : HolderAllocator) (starts lasts : List ℕ) → Determined (λ (x : Counted × List ℕ × List ℕ). FreeLists n s starts lasts x.0 x.1 x.2)
  pub held-listed : (n : ℕ) (s : HolderAllocator) (w : Whose) (holders starts lasts : List ℕ) → Determined (λ (x : Counted × List ℕ × List ℕ × List ℕ). ranges.Lists n s w holders starts lasts x.0 x.1 x.2 x.3)
  pub list-served : (n : ℕ) (s : Account) (l : List ℕ) (old : List ℤ) → Determined (λ (x : Entered × List ℤ). Serves n s l old x.0 x.1)
  pub sound-list-served : (n : ℕ) (s : Account) (l : List ℕ) (old : List ℤ) → Determined (λ (x : Account × List ℤ). Served n s l old x.0 x.1)
  -- images
  pub image-read : (w : Handed) → Determined (λ (r : Reading). handed r.answer r.state ≡ w)
  pub holders-read : (w : holding.Handed) → Determined (λ (r : HolderReading). holding.handed r.answer r.state r.lowest ≡ w)
  pub image-written : (w : Written) → Determined (λ (x : ImageAnswer × List ℕ). written x.0 x.1 ≡ w)
  -- the C calls: the number, and every byte of the image; for a list every place too
  pub call-returned : (w : Returned) → Determined (λ (x : ℤ × List ℕ). returned x.0 x.1 ≡ w)
  pub batch-over : (f : Layout) (l calls : List ℕ) (old : List ℤ) → Determined (λ (x : ℤ × List ℕ × List ℤ). BatchOver f l calls old x.0 x.1 x.2)
  -- a state of one's own: the number, and the account that the eleven fields make up
  pub own-judged : (n : ℕ) (rule : Book → rules.Answer) (s : Account) → Determined (λ (x : ℤ × Account). Judged n rule x.0 s x.1)
  pub own-listed : (n : ℕ) (s : Account) (l : List ℕ) (old : List ℤ) → Determined (λ (x : ℤ × Account × List ℤ). Lists n s l old x.0 x.1 x.2)
  pub own-imported : (f : Layout) (l : List ℕ) (s : Account) → Determined (λ (x : ℤ × Account). Imports f l x.0 s x.1)
  pub own-exported : (f : Layout) (s : Account) (l : List ℕ) → Determined (λ (x : ℤ × List ℕ). Exports f s l x.0 x.1)
  -- a figure, and a listing as C has it: the number that is returned, and what the lent places hold
  pub figure-shown : (k : Counted) (old : ℕ) → Determined (λ (x : ℤ × ℕ). shows.Figures k old x.0 x.1)
  pub own-shown : (n : ℕ) (s : Account) (starts lasts : List ℕ) → Determined (λ (x : ℤ × List ℕ × List ℕ). shows.Lists n s starts lasts x.0 x.1 x.2)
  pub image-shown : (f : Layout) (l starts lasts : List ℕ) → Determined (λ (x : ℤ × List ℕ × List ℕ). shows.ListsBy f l starts lasts x.0 x.1 x.2)
  -- a text, or the bytes of a block, in a buffer
  pub text-put : (t l : List ℕ) (at : ℕ) → Determined (λ (x : List ℕ × ℕ). Puts t l at x.0 x.1)
  pub text-put-within : (most : ℕ) (t l : List ℕ) (at : ℕ) → Determined (λ (x : List ℕ × ℕ). PutsWithin most t l at x.0 x.1)
  -- the journal
  pub journal-left : (w : Left) → Determined (λ (x : ℤ × List ℕ). left x.0 x.1 ≡ w)
  pub journal-reported : (v : Verdict) (old : ℕ) → Determined (λ (x : ℤ × ℕ). Reports v old x.0 x.1)
  pub part-audited : (w : Audited) → Determined (λ (x : Stand × MemoryAllocator). audited x.1 x.0 ≡ w)
  -- a line of the script: the state, the next place, and every byte of the output
  pub line-answered : (n : ℕ) (s : MemoryAllocator) (l : Line) (out : List ℕ) (at : ℕ) → Determined (λ (x : MemoryAllocator × ℕ × List ℕ). Answers n s l out at x.0 x.1 x.2)
  -- a line in the register's forms, and in either
  pub holder-answered : (n : ℕ) (s : HolderAllocator) (l : HolderLine) (out : List ℕ) (at : ℕ) → Determined (λ (x : HolderAllocator × ℕ × List ℕ). HolderSays n s l out at x.0 x.1 x.2)
  pub any-answered : (n : ℕ) (d : Desk) (l out : List ℕ) (at : ℕ) → Determined (λ (x : Desk × ℕ × List ℕ). Replies n d l out at x.0 x.1 x.2)
  -- a mapping: the number, every byte of the image and every word of the arena; and its passes
  pub mapped : (w : maps.Left) → Determined (λ (x : ℤ × List ℕ × List ℕ). maps.left x.0 x.1 x.2 ≡ w)
  pub pages-asked : (w : Supply) → Determined (λ (x : Bool × List ℕ). supply x.0 x.1 ≡ w)
  pub words-stored : (w : Held) → Determined (λ (x : List ℕ × List ℕ). held x.0 x.1 ≡ w)
  pub pages-met : (w : marks.Run) → Determined (λ (x : Bool × ℕ × List Bool). marks.run x.0 x.1 x.2 ≡ w)
