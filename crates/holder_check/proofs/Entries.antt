-- The tests of an entry and of the register, in the steps in which code makes them. Assumes nothing.
use mathlib.Core.Path.{◌≡◌, refl, sym, ap, ◌∙◌, subst}
use mathlib.Core.Bool.{Bool, true, false, cond, not, ◌&&◌}
use mathlib.Core.List.{List}
use Prim.Native.Nat.{ℕ, suc, ◌+◌, ◌-◌, ◌≤◌, ◌<◌}
use native.Mathlib.Omega.{arith}
use native.Mathlib.Numerals.{add-one}
use lib.Dec.{T, leb, ltb, eqb, ltb→lt, leb→le}
use lib.ListN.{length, get_or, drop, drop_of_length-le}
use lib.Seq.{drop-cons}
use Rattle.rules.specs.Rules.{top, Range, any, meets}
use Rattle.rules_laws.proofs.Lists.{and_l, and_r}
use Rattle.holder_rules.specs.Register.{known, blank, used, held}
use Rattle.holder_rules.specs.Sound.{is_good_lem, avoids, is_apart, register_sound}
use Rattle.holder_rules.specs.declared.Entry.{Entry}

-- ---- a used entry that is good: it has a byte, and ends below 2^63

pub good-bounds : (e : Entry) → used e ≡ true → is_good_lem e ≡ true → (e.start.0 ≤ e.last.0) × (e.last.0 < top)
unfolding is_good_lem
good-bounds e u g =
    let inside = ap (λ (b : Bool). cond b (known e.holder.0 && (leb e.start.0 e.last.0 && ltb e.last.0 top)) (eqb e.start.0 0 && eqb e.last.0 0)) u in
    let k = and_r (known e.holder.0) (leb e.start.0 e.last.0 && ltb e.last.0 top) (subst T (sym (sym inside ∙ g)) tt) in
    (leb→le e.start.0 e.last.0 (and_l (leb e.start.0 e.last.0) (ltb e.last.0 top) k), ltb→lt e.last.0 top (and_r (leb e.start.0 e.last.0) (ltb e.last.0 top) k))

-- ---- a good entry beside the free ranges f and the entries l behind it

module _ (f : List Range) (e : Entry) (l : List Entry) (g : is_good_lem e ≡ true) where
  apart : (u : Bool) → used e ≡ u → (is_good_lem e && is_apart f e l) ≡ cond u (avoids e f && avoids e (held l)) true
  unfolding is_apart
  apart u h = ap (λ (b : Bool). b && is_apart f e l) g ∙ ap (λ (b : Bool). cond b (avoids e f && avoids e (held l)) true) h

  pub unused-sound : used e ≡ false → true ≡ (is_good_lem e && is_apart f e l)
  unused-sound u = sym (apart false u)

  module _ (u : used e ≡ true) where
    pub meets-free : any (meets e.start.0 (suc e.last.0)) f ≡ true → false ≡ (is_good_lem e && is_apart f e l)
    meets-free m = sym (apart true u ∙ ap (λ (b : Bool). not b && avoids e (held l)) m)

    pub last-test : any (meets e.start.0 (suc e.last.0)) f ≡ false → (z : ℕ) → z ≡ e.last.0 - e.start.0 + 1 → (b : Bool) → b ≡ any (meets e.start.0 (e.start.0 + z)) (held l) → not b ≡ (is_good_lem e && is_apart f e l)
    last-test m z q b k =
        let sized : e.start.0 + z ≡ suc e.last.0 = (let h = good-bounds e u g in omega arith) in
        sym (apart true u ∙ ap (λ (x : Bool). not x && avoids e (held l)) m ∙ ap not (ap (λ (y : ℕ). any (meets e.start.0 y) (held l)) (sym sized) ∙ sym k))

-- ---- the register from number i on

module _ (f : List Range) (l : List Entry) (i : ℕ) (h : i < length l) where
  register-is : register_sound f (drop i l) ≡ ((is_good_lem (get_or l i blank) && is_apart f (get_or l i blank) (drop (i + 1) l)) && register_sound f (drop (i + 1) l))
  unfolding register_sound
  register-is = ap (register_sound f) (drop-cons l i blank h) ∙ go (is_good_lem (get_or l i blank)) ∙ ap (λ (k : ℕ). (is_good_lem (get_or l i blank) && is_apart f (get_or l i blank) (drop k l)) && register_sound f (drop k l)) (sym (add-one i))
    where
      go : (b : Bool) → (b && (is_apart f (get_or l i blank) (drop (suc i) l) && register_sound f (drop (suc i) l))) ≡ ((b && is_apart f (get_or l i blank) (drop (suc i) l)) && register_sound f (drop (suc i) l))
      go true = refl
      go false = refl

  pub entry-unsound : (is_good_lem (get_or l i blank) && is_apart f (get_or l i blank) (drop (i + 1) l)) ≡ false → register_sound f (drop i l) ≡ false
  entry-unsound e = register-is ∙ ap (λ (b : Bool). b && register_sound f (drop (i + 1) l)) e

  pub entry-sound : (is_good_lem (get_or l i blank) && is_apart f (get_or l i blank) (drop (i + 1) l)) ≡ true → register_sound f (drop i l) ≡ register_sound f (drop (i + 1) l)
  entry-sound e = register-is ∙ ap (λ (b : Bool). b && register_sound f (drop (i + 1) l)) e

pub all_sound : (f : List Range) (l : List Entry) (i : ℕ) → length l ≤ i → register_sound f (drop i l) ≡ true
unfolding register_sound
all_sound f l i h = ap (register_sound f) (drop_of_length-le l h)
