-- A map that answers 0 was refused by no line, and had every page that it wanted. Assumes nothing.
use mathlib.Core.Path.{◌≡◌, refl, sym, ◌∙◌, ap}
use mathlib.Core.Bool.{Bool, true, false, not, cond}
use mathlib.Core.List.{List}
use Prim.Native.Nat.{ℕ, ◌/◌}
use native.Mathlib.Omega.{arith}
use lib.Dec.{T, eqb}
use lib.IntN.{ℤ, pos, negsuc}
use lib.Signed.{lt_z}
use lib.ListN.{length}
use Rattle.linked_lists.proofs.Laws.{true≢false}
use Rattle.calls.specs.Calls.{number_from}
use Rattle.image_parts.specs.Layout.{current, image_size_lem}
use Rattle.mapper_rules.specs.Numbers.{bad_numbers_lem}
use Rattle.mapper_laws.specs.declared.Mapping.{Mapping}
use Rattle.mapper_laws.specs.Mapping.{mapping_of}
use Rattle.mapper_pages.specs.Pages.{page_from, supply, taken, wants_in}
use Rattle.mapper_tables.specs.declared.Top.{Top}
use Rattle.mapper_lies.specs.Lies.{top_of, lies}
use Rattle.mapper_supply.proofs.Pages.{still-refused}
use Rattle.mapper.specs.Maps.{Left, left, refuse, in_the_way, tried, stored, finished, map_over}

no_number : (k : ℕ) → negsuc k ≡ pos 0 → ⊥
no_number k e = let z = ap number_from e in let y : ⊥ = omega arith in y

-- a line that was passed
record Passed (c : Bool) (here below : Left) : Type 0 where
  not-it : T (not c)
  as-below : here ≡ below

passed : (c : Bool) (k : ℕ) (l A : List ℕ) (below : Left) → (refuse c (negsuc k) l A below).number ≡ pos 0 → Passed c (refuse c (negsuc k) l A below) below
unfolding refuse
passed true k l A below e = absurd (no_number k e)
passed false k l A below e = record { not-it = tt; as-below = refl }

module _ (q : Mapping) (b : ℕ) (t : Top) (l A : List ℕ) where
  abbrev n : ℕ
  n = wants_in q b A false t.height 0 t.word t.entries

  abbrev all : Left
  all = left (pos 0) (stored q b t l A).bytes (stored q b t l A).arena

  had : (finished q b t l A).number ≡ pos 0 → Passed (not (taken n (supply true l)).enough) (finished q b t l A) all
  unfolding finished tried
  had = go (taken n (supply true l)).enough (still-refused n l)
    where
      short : ℤ
      short = (page_from (taken n (supply true l)).bytes).number

      go : (c : Bool) → (T (not c) → lt_z short (pos 0) ≡ true) → (cond c all (left short l A)).number ≡ pos 0 → Passed (not c) (cond c all (left short l A)) all
      go true f e = record { not-it = tt; as-below = refl }
      go false f e = absurd (true≢false (sym (f tt) ∙ ap (λ (i : ℤ). lt_z i (pos 0)) e))

module _ (base vttbr vtcr output input size : ℕ) (readable writable : Bool) (l A : List ℕ) where
  abbrev q : Mapping
  q = mapping_of output input size readable writable

  abbrev b : ℕ
  b = base / 8

  abbrev t : Top
  t = top_of vttbr vtcr

  abbrev whole : Left
  whole = map_over base vttbr vtcr output input size readable writable l A

  pub record Accepted : Type 0 where
    pub numbers : T (not (bad_numbers_lem base vttbr vtcr output input size))
    pub lying : T (not (not (lies base t l A)))
    pub clear : T (not (in_the_way q b t A))
    pub enough : T (not (not (taken (n q b t l A) (supply true l)).enough))
    pub left_is : whole ≡ all q b t l A

  pub accepted : whole.number ≡ pos 0 → Accepted
  unfolding map_over
  accepted e =
      let last = finished q b t l A in
      let way = refuse (in_the_way q b t A) (negsuc 3) l A last in
      let lie = refuse (not (lies base t l A)) (negsuc 1) l A way in
      let bad = refuse (bad_numbers_lem base vttbr vtcr output input size) (negsuc 3) l A lie in
      let p1 = passed (not (eqb (length l) (image_size_lem current))) 1 l A bad e in
      let e1 = ap (λ (x : Left). x.number) (sym p1.as-below) ∙ e in
      let p2 = passed (bad_numbers_lem base vttbr vtcr output input size) 3 l A lie e1 in
      let e2 = ap (λ (x : Left). x.number) (sym p2.as-below) ∙ e1 in
      let p3 = passed (not (lies base t l A)) 1 l A way e2 in
      let e3 = ap (λ (x : Left). x.number) (sym p3.as-below) ∙ e2 in
      let p4 = passed (in_the_way q b t A) 3 l A last e3 in
      let e4 = ap (λ (x : Left). x.number) (sym p4.as-below) ∙ e3 in
      let p5 = had q b t l A e4 in
      record {
        numbers = p2.not-it;
        lying = p3.not-it;
        clear = p4.not-it;
        enough = p5.not-it;
        left_is = p1.as-below ∙ p2.as-below ∙ p3.as-below ∙ p4.as-below ∙ p5.as-below;
      }
