-- What is promised of lists of calls, by value and over an image; `crates/promises/proofs/ListPromises.antt` shows each. Assumes nothing.
use Rattle.std.specs.Prelude.{ℕ, ◌≤◌, true, List, [], ◌∷◌, ◌≡◌, length, Some}
use Rattle.rules_engine.specs.Engine.{Engine}
use Rattle.rules_engine.specs.Demand.{DemandOf}
use Rattle.rules_lowest.specs.Carried.{LowestOf}
use Rattle.account_state.specs.Account.{SoundAccount}
use Rattle.account_state.specs.declared.Account.{Account}
use Rattle.calls.specs.Calls.{call_of, signed_of}
use Rattle.calls.specs.declared.Request.{Request}
use Rattle.account_calls.specs.Made.{made}
use Rattle.account_calls.specs.Engine.{accounts, lowest_in}
use Rattle.pool_listing.specs.Listing.{written}
use Rattle.batch.specs.InWords.{asked}
use Rattle.batch.specs.Lists.{fitted}
use Rattle.batch.specs.Histories.{Batch, Door, after_lists, vouchers_of_lists, account_door, CutAt}
use Rattle.image_parts.specs.Layout.{Layout, image_size_lem}
use Rattle.image_writing.specs.Writing.{image_of}
use Rattle.c_over.specs.Images.{images, lowest_stored}
use Rattle.c_over.specs.Lists.{image_door}
use Rattle.promises.specs.Clients.{ClientDemand}
use Rattle.promises.specs.Lowest.{ClientLowest}
use Rattle.promises.specs.AllCalls.{any_client}

-- a list that fits may be cut between any two calls, in the state s
abbrev pub Cuts : (e : Engine) → Door e → e.State → Type 0
Cuts e d s = (b : Batch) (k : ℕ) → fitted b.words (length b.places) ≡ true → k ≤ length (asked b.words) → CutAt e d s b k

-- demand 3 of lists of lists
abbrev pub ListsClose : (e : Engine) → Door e → Type 0
ListsClose e d = DemandOf e (List Batch) (after_lists e d e.new) (vouchers_of_lists e d e.new)

-- the lowest figure, counted from what is kept of them
abbrev pub ListsLowest : (e : Engine) → Door e → (e.State → ℕ) → Type 0
ListsLowest e d low = LowestOf e low (List Batch) (after_lists e d e.new) (vouchers_of_lists e d e.new)

pub record ListPromises (n : ℕ) : Type 0 where
  pub cuts : (s : Account) → SoundAccount n s → Cuts (accounts n) (account_door n) s
  -- a list of one call is that call
  pub one_left : (s : Account) → SoundAccount n s → (b : Batch) → fitted b.words (length b.places) ≡ true → (q : Request) → asked b.words ≡ Some q ∷ []
      → (account_door n).next b s ≡ (made n s (call_of q)).state
  pub one_answer : (s : Account) → SoundAccount n s → (b : Batch) → fitted b.words (length b.places) ≡ true → (q : Request) → asked b.words ≡ Some q ∷ []
      → (account_door n).answers b s ≡ written (signed_of (made n s (call_of q)).answer ∷ []) b.places
  pub lists-close : ListsClose (accounts n) (account_door n)
  pub lists-lowest : ListsLowest (accounts n) (account_door n) lowest_in

pub record ImageListPromises (f : Layout) : Type 0 where
  pub cuts : (l : List ℕ) (s : Account) → SoundAccount f.records s → Cuts (images f l) (image_door f l) (image_of f s)
  pub lists-close : (l : List ℕ) → length l ≡ image_size_lem f → ListsClose (images f l) (image_door f l)
  -- and of all C calls, lists and page calls among them, from the last `new` on
  pub all-close : (l : List ℕ) → length l ≡ image_size_lem f → ClientDemand (images f l) (any_client f l)
  pub all-lowest : (l : List ℕ) → length l ≡ image_size_lem f → ClientLowest (images f l) (any_client f l) (lowest_stored f)
