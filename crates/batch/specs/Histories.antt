-- Lists of lists: lists of calls made on an engine, one list after the other, by a door that serves lists. What is kept of them is what
-- the caller has: the words, and the answers that stand in the places. Assumes nothing.
use Rattle.std.specs.Prelude.{ℕ, ◌*◌, cond, List, [], ◌∷◌, ◌++◌, ◌≡◌, ℤ, length, take, drop, Some, None}
use Rattle.rules.specs.Rules.{Call, Voucher}
use Rattle.rules_engine.specs.Engine.{Engine}
use Rattle.calls.specs.Calls.{call_of, voucher_from}
use Rattle.account_calls.specs.Engine.{accounts}
use Rattle.batch.specs.InWords.{asked, Asked}
use Rattle.batch.specs.Lists.{fitted, list_served, answered}

-- the two slices that are lent
pub record Batch : Type 0 where
  pub words : List ℕ
  pub places : List ℤ

-- what a door leaves in the second slice, and the state that it leaves
pub record Door (e : Engine) : Type 0 where
  pub answers : Batch → e.State → List ℤ
  pub next : Batch → e.State → e.State

-- the calls of a list; an unknown kind is none
unfoldable pub known : List Asked → List Call
known [] = []
known (Some q ∷ qs) = call_of q ∷ known qs
known (None ∷ qs) = known qs

-- their vouchers, each with the answer in its place
unfoldable pub kept : List Asked → List ℤ → List Voucher
kept [] is = []
kept (q ∷ qs) [] = []
kept (Some q ∷ qs) (i ∷ is) = voucher_from (call_of q) i ∷ kept qs is
kept (None ∷ qs) (i ∷ is) = kept qs is

-- of a list that does not fit, no call is made
abbrev pub calls_in : Batch → List Call
calls_in b = cond (fitted b.words (length b.places)) (known (asked b.words)) []

abbrev pub vouchers_in : Batch → List ℤ → List Voucher
vouchers_in b is = cond (fitted b.words (length b.places)) (kept (asked b.words) is) []

-- list after list: the state that they leave, and the vouchers
unfoldable pub after_lists : (e : Engine) → Door e → e.State → List Batch → e.State
after_lists e d s [] = s
after_lists e d s (b ∷ bs) = after_lists e d (d.next b s) bs

unfoldable pub vouchers_of_lists : (e : Engine) → Door e → e.State → List Batch → List Voucher
vouchers_of_lists e d s [] = []
vouchers_of_lists e d s (b ∷ bs) = vouchers_in b (d.answers b s) ++ vouchers_of_lists e d (d.next b s) bs

-- the door by value
abbrev pub account_door : (n : ℕ) → Door (accounts n)
account_door n = record {
  answers = λ b s. answered n s b.words b.places;
  next = λ b s. (list_served n s b.words (length b.places)).state;
}

-- ---- a list that is cut: the first k calls with the first k places, and the rest with the rest

abbrev pub front : ℕ → Batch → Batch
front k b = record { words = take (k * 4) b.words; places = take k b.places }

abbrev pub rest : ℕ → Batch → Batch
rest k b = record { words = drop (k * 4) b.words; places = drop k b.places }

-- the two parts, one after the other, leave the same state and the same answers in the same places
pub record CutAt (e : Engine) (d : Door e) (s : e.State) (b : Batch) (k : ℕ) : Type 0 where
  pub same-state : d.next b s ≡ d.next (rest k b) (d.next (front k b) s)
  pub same-answers : d.answers b s ≡ d.answers (front k b) s ++ d.answers (rest k b) (d.next (front k b) s)
