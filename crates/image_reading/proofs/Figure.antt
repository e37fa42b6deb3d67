-- What the ranges and the figure in the bytes tell of the whole. Assumes nothing.
use mathlib.Core.Path.{◌≡◌, refl, sym, ◌∙◌, ap}
use mathlib.Core.Bool.{Bool, true, false, cond, ◌&&◌}
use mathlib.Core.List.{List}
use Prim.Native.Nat.{ℕ, ◌≤◌}
use lib.Dec.{eqb}
use lib.ListN.{length}
use Rattle.linked_lists.specs.Links.{none}
use Rattle.rules_lowest.specs.Lowest.{low_sound}
use Rattle.pool_state.specs.State.{state_of}
use Rattle.pool_state.specs.declared.MemoryAllocator.{MemoryAllocator}
use Rattle.check_state.specs.IsSound as ranges
use Rattle.account_state.specs.Account.{account}
use Rattle.image_parts.specs.Layout.{Layout, word, low_at, image_size_lem}
use Rattle.image_parts.specs.Read.{number_in}
use Rattle.image_parts.proofs.Loops.{both}
use Rattle.image_reading.specs.Reading.{state_in_lem, low_in_lem, framed, readable, holds_ranges, grown_ranges, ReadsAccount}
use Rattle.image_reading.proofs.Whole.{whole-state, framed-sized}

regroup : (a b c : Bool) → (a && (b && c)) ≡ ((a && b) && c)
regroup true b c = refl
regroup false b c = refl

module _ (f : Layout) (l : List ℕ) where
  abbrev n : ℕ
  n = f.records

  -- the ranges first, then the figure
  parted : readable f l ≡ (holds_ranges f l && low_sound (state_in_lem f l).free_size (low_in_lem f l))
  parted = regroup (framed f l) (ranges.is_sound_lem n (state_in_lem f l)) _

  pub ranges-sized : holds_ranges f l ≡ true → length l ≡ image_size_lem f
  ranges-sized e = framed-sized f l (both (framed f l) _ e).0

  pub no-ranges : holds_ranges f l ≡ false → false ≡ readable f l
  no-ranges off = sym (parted ∙ ap (λ (t : Bool). t && low_sound (state_in_lem f l).free_size (low_in_lem f l)) off)

  -- what is readable holds ranges
  pub readable-ranges : readable f l ≡ true → holds_ranges f l ≡ true
  readable-ranges e = (both (holds_ranges f l) _ (sym parted ∙ e)).0

  module _ (few : n ≤ none) (on : holds_ranges f l ≡ true) (m : ℕ) (s : MemoryAllocator) (is : s ≡ grown_ranges n m (state_in_lem f l)) where
    -- the total of the ranges that were read is the one in the bytes
    total_kept : s.free_size ≡ (state_in_lem f l).free_size
    unfolding state_of
    total_kept = ap (λ (x : MemoryAllocator). x.free_size) is ∙ ap (λ (x : MemoryAllocator). x.free_size) (whole-state f l few on)

    pub figure-decides : (low : ℕ) → low ≡ cond (eqb f.low 0) s.free_size (number_in l (low_at f) word) → (t : Bool) → t ≡ low_sound s.free_size low → ReadsAccount m f l t (account s low)
    unfolding state_in_lem
    figure-decides low e t told =
        let e' : low ≡ low_in_lem f l = e ∙ ap (λ (x : ℕ). cond (eqb f.low 0) x (number_in l (low_at f) word)) total_kept in
        let here : t ≡ low_sound (state_in_lem f l).free_size (low_in_lem f l) = told ∙ (λ z. low_sound (total_kept z) (e' z)) in
        record {
          told = here ∙ ap (λ (x : Bool). x && low_sound (state_in_lem f l).free_size (low_in_lem f l)) (sym on) ∙ sym parted;
          state = λ yes. (λ z. account (is z) (e' z));
        }
