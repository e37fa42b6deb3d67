-- A page that is not to be had is refused with 3, or with 1. Assumes nothing.
use mathlib.Core.Path.{◌≡◌, refl, sym, ◌∙◌, ap, subst}
use mathlib.Core.Logic.{◌⊎◌, inl, inr}
use mathlib.Core.Bool.{Bool, true, false, not}
use mathlib.Core.List.{List}
use mathlib.Core.Option.{Option, none, some}
use Prim.Native.Nat.{ℕ, zero, suc}
use lib.Dec.{T, ltb}
use lib.IntN.{ℤ, pos, negsuc}
use lib.Signed.{lt_z}
use Rattle.rules.specs.Rules.{Range, Book, Answer, total, any, find, fit, fits, serves, full, refuse, allocate_from, allocate, step}
use Rattle.rules_laws.proofs.Lists.{if}
use Rattle.pool_state.specs.Shown.{pool}
use Rattle.calls.specs.Calls.{answer_of, signed_of, number_from}
use Rattle.c_over.specs.CCalls.{Returned, finished}
use Rattle.mapper_pages.specs.Pages.{page_from, supply, asked, taken}
use Rattle.mapper_supply.proofs.Taking.{one}
use Rattle.mapper_supply.proofs.Reading.{Reads, door, read_next}
use Rattle.mapper_supply.proofs.Pages.{below-zero, refused-same, still-refused}

-- ---- a page from a book

abbrev Numbered : Answer → Type 0
Numbered w = (w.number ≡ 0) ⊎ ((w.number ≡ 3) ⊎ (w.number ≡ 1))

module _ (n : ℕ) (b : Book) where
  from-a-range : (o : Option Range) → Numbered (allocate_from n 4096 12 b o)
  unfolding allocate_from
  from-a-range none = inr (inr refl)
  from-a-range (some r) = inl refl

  page-number : Numbered (step n one b)
  unfolding refuse allocate step
  page-number =
      if (ltb (total b) 4096) Numbered (λ t. inr (inl refl))
      (λ t. if (not (any (λ r. fits (fit 4096 12 r)) b.shelf)) Numbered (λ u. inr (inl refl))
      (λ u. from-a-range (find (λ r. serves (not (full n b)) (fit 4096 12 r)) b.shelf)))

-- ---- over an image

abbrev pub Wanting : ℤ → Type 0
Wanting i = (i ≡ negsuc 2) ⊎ (i ≡ negsuc 0)

signed-want : (w : Answer) (i : ℤ) → i ≡ signed_of (answer_of w.number w.address) → lt_z i (pos 0) ≡ true → Numbered w → Wanting i
signed-want w i e t (inl z) = absurd (below-zero i t (ap number_from (e ∙ ap (λ (k : ℕ). signed_of (answer_of k w.address)) z)))
signed-want w i e t (inr (inl z)) = inl (e ∙ ap (λ (k : ℕ). signed_of (answer_of k w.address)) z)
signed-want w i e t (inr (inr z)) = inr (e ∙ ap (λ (k : ℕ). signed_of (answer_of k w.address)) z)

module _ (b : Book) (m : List ℕ) (r : Reads b m) where
  door-want : lt_z (page_from m).number (pos 0) ≡ true → Wanting (page_from m).number
  unfolding finished
  door-want t = signed-want (step pool one b) (page_from m).number (ap (λ (x : Returned). x.number) (door b m r)) t (page-number pool b)

  -- whatever the door answers, what it leaves reads as the state of a sound book
  read-on : (c : Book) × Reads c (page_from m).bytes
  read-on = go (lt_z (page_from m).number (pos 0)) refl
    where
      go : (t : Bool) → lt_z (page_from m).number (pos 0) ≡ t → (c : Book) × Reads c (page_from m).bytes
      go true e = (b, subst (Reads b) (sym (refused-same m e)) r)
      go false e = ((step pool one b).book, read_next b m r e)

-- ---- one after another

read_asked : (c : Bool) (m : List ℕ) → (b : Book) × Reads b m → (b : Book) × Reads b (asked (supply c m)).bytes
unfolding asked
read_asked true m w = read-on w.0 m w.1
read_asked false m w = w

read_taken : (n : ℕ) (l : List ℕ) → (b : Book) × Reads b l → (b : Book) × Reads b (taken n (supply true l)).bytes
unfolding taken
read_taken zero l w = w
read_taken (suc n) l w = read_asked (taken n (supply true l)).enough (taken n (supply true l)).bytes (read_taken n l w)

pub want-numbers : (n : ℕ) (b : Book) (l : List ℕ) → Reads b l → T (not (taken n (supply true l)).enough) → Wanting (page_from (taken n (supply true l)).bytes).number
want-numbers n b l r t = let w = read_taken n l (b, r) in door-want w.0 (taken n (supply true l)).bytes w.1 (still-refused n l t)
