-- What the searches of std answer along the entries. Assumes nothing.
use mathlib.Core.Path.{◌≡◌, refl, sym, ap, ◌∙◌}
use mathlib.Core.Bool.{Bool, true, false, cond, ◌&&◌, ◌||◌}
use mathlib.Core.List.{List, [], ◌∷◌}
use Prim.Native.Nat.{ℕ, suc, ◌+◌}
use native.Mathlib.Numerals.{add-one}
use lib.Dec.{ltb}
use lib.ListN.{length}
use Rattle.std.specs.Prelude.{Option, Some, None}
use Rattle.std.specs.List.{position_from, position_or_len, list_any}
use Rattle.std.specs.Option.{option_map, MatchOption, IsSomeAnd}
use Rattle.std.proofs.lemmas.Iterator.Adapters.{position_from-zero}
use Rattle.rules.specs.Rules.{Range, any}
use Rattle.holder_rules.specs.Register.{used, range_of, held}
use Rattle.holder_rules.specs.declared.Entry.{Entry}
use Rattle.holder_rules.specs.declared.EntryIndex.{EntryIndex}
use Rattle.holder_entries.specs.Places.{first_from}

abbrev index : ℕ → EntryIndex
index i = record { 0 = i }

first-is : (p : Entry → Bool) (i : ℕ) (l : List Entry) → option_map index (position_from p i l) ≡ first_from p i l
unfolding first_from
first-is p i [] = refl
first-is p i (e ∷ l) = go (p e) ∙ ap (λ (w : Option EntryIndex). cond (p e) (Some (index i)) w) (ap (λ (k : ℕ). option_map index (position_from p k l)) (add-one i) ∙ first-is p (suc i) l)
  where
    go : (b : Bool) → option_map index (cond b (Some i) (position_from p (i + 1) l)) ≡ cond b (Some (index i)) (option_map index (position_from p (i + 1) l))
    go true = refl
    go false = refl

mapped : (F : ℕ → EntryIndex → Type 0) → ((x : ℕ) (y : EntryIndex) → F x y → y ≡ index x) → (r : Option ℕ) (w : Option EntryIndex) → MatchOption r (w ≡ None) (λ x. IsSomeAnd w (F x)) → w ≡ option_map index r
mapped F f None w h = h
mapped F f (Some x) None h = absurd h
mapped F f (Some x) (Some y) h = ap (λ (i : EntryIndex). Some i) (f x y h)

-- what `position` answers, as an index
pub first-found : (p : Entry → Bool) (l : List Entry) (r : Option ℕ) → r ≡ cond (ltb (position_or_len p l) (length l)) (Some (position_or_len p l)) None
    → (F : ℕ → EntryIndex → Type 0) → ((x : ℕ) (y : EntryIndex) → F x y → y ≡ index x) → (w : Option EntryIndex) → MatchOption r (w ≡ None) (λ x. IsSomeAnd w (F x)) → w ≡ first_from p 0 l
first-found p l r e F f w m = mapped F f r w m ∙ ap (option_map index) (e ∙ position_from-zero p l) ∙ first-is p 0 l

pub any_is : (p : Range → Bool) (l : List Entry) → list_any (λ e. used e && p (range_of e)) l ≡ any p (held l)
unfolding held any
any_is p [] = refl
any_is p (e ∷ l) = ap (λ (b : Bool). (used e && p (range_of e)) || b) (any_is p l) ∙ go (used e)
  where
    go : (u : Bool) → ((u && p (range_of e)) || any p (held l)) ≡ any p (cond u (range_of e ∷ held l) (held l))
    go true = refl
    go false = refl
