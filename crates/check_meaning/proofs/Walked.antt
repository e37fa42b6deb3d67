-- A walk that ends meets a doubly linked list, in order; and a walk along every such list ends.
use Prim.Native.Nat.{ℕ, zero, suc, ◌+◌, ◌-◌, ◌<◌, ◌≤◌, zero-le}
use mathlib.Core.Bool.{Bool, true, false, cond}
use mathlib.Core.List.{List, [], ◌∷◌}
use mathlib.Core.Path.{◌≡◌, refl, sym, ap, ◌∙◌}
use native.Mathlib.Omega.{arith}
use native.Mathlib.Nat.{zero-add}
use borrow.Author.Tests.{eqb-true}
use lib.Dec.{eqb}
use lib.ListN.{length, get_or}
use Rattle.linked_lists.specs.Links.{none, has}
use Rattle.linked_lists.proofs.Laws.{true≢false}
use Rattle.linked_lists.proofs.Check.{linked-listed}
use Rattle.check_links.specs.Walk.{walk}
use Rattle.check_meaning.specs.Paragraph.{Leads, Back, InOrder, Meets}
use Rattle.std.specs.Prelude.{Option, Some, None}
use Rattle.check_links.proofs.Walk.{walk_ends, walk-goes}
use Rattle.check_meaning.proofs.Orders.{has_first, each, rest, leads-linked, listed-once}

-- what the test of a step tells: a record of These whose link back is the one before, and at least the bound
pub record Tests (n : ℕ) (prev : List ℕ) (from past : ℕ → ℕ) (These : ℕ → Type 0) (R : ℕ → ℕ → Type 0) (step : ℕ → ℕ → ℕ → Bool) : Type 0 where
  pub told : (q low x : ℕ) → step q low x ≡ true → (x < n) × These x × (get_or prev x 0 ≡ q) × (low ≤ from x)
  pub shown : (q low x : ℕ) → x < n → These x → get_or prev x 0 ≡ q → low ≤ from x → step q low x ≡ true
  pub rises : (x : ℕ) → x < n → These x → from x ≤ past x
  pub ahead : (x y : ℕ) → past x ≤ from y → R x y
  pub behind : (x y : ℕ) → R x y → past x ≤ from y

module _ {n : ℕ} (small : n ≤ none) (next : List ℕ) {prev : List ℕ} {from past : ℕ → ℕ} {These : ℕ → Type 0} {R : ℕ → ℕ → Type 0}
    {step : ℕ → ℕ → ℕ → Bool} (t : Tests n prev from past These R step) where
  abbrev N : ℕ → ℕ
  N i = get_or next i 0

  abbrev go : ℕ → ℕ → ℕ → ℕ → Option ℕ
  go = walk N past step

  -- ---- what a walk meets

  pub record Met (q low i f g : ℕ) : Type 0 where
    pub list : List ℕ
    pub leads : Leads next i list
    pub back : Back prev q list
    pub these : (x : ℕ) → has x list ≡ true → (x < n) × These x
    pub least : (x : ℕ) → has x list ≡ true → low ≤ from x
    pub order : InOrder R list
    pub long : length list + g ≡ f

  met-none : (q low i f g : ℕ) → i ≡ none → Some f ≡ Some g → Met q low i f g
  met-none q low i f g e h =
      let k : f ≡ g = cc in
      record { list = []; leads = e; back = tt; these = λ x m. true≢false (sym m); least = λ x m. true≢false (sym m); order = tt; long = omega arith }

  not-none : {A : Type 0} (g : ℕ) → None ≡ Some g → A
  not-none g h = let z : ◌≡◌ {A = ℕ} 0 1 = cc in absurd (let k : ⊥ = omega arith in k)

  pub walk_meets : (f g q low i : ℕ) → go f q low i ≡ Some g → Met q low i f g
  unfolding walk
  walk_meets zero g q low i = split (eqb i none) refl
    where
      split : (a : Bool) → eqb i none ≡ a → cond a (Some 0) None ≡ Some g → Met q low i 0 g
      split true ea h = met-none q low i 0 g (eqb-true i none ea) h
      split false ea h = not-none g h
  walk_meets (suc f) g q low i = split (walk_meets f g i (past i) (N i)) (eqb i none) (step q low i) refl refl
    where
      split : (go f i (past i) (N i) ≡ Some g → Met i (past i) (N i) f g) → (a b : Bool) → eqb i none ≡ a → step q low i ≡ b
          → cond a (Some (suc f)) (cond b (go f i (past i) (N i)) None) ≡ Some g → Met q low i (suc f) g
      split ih true b ea eb h = met-none q low i (suc f) g (eqb-true i none ea) h
      split ih false false ea eb h = not-none g h
      split ih false true ea eb h =
          let r = ih h in
          let w = t.told q low i eb in
          let up = t.rises i w.0 w.1 in
          record {
            list = i ∷ r.list;
            leads = (refl, r.leads);
            back = (w.2, r.back);
            these = each (λ x. (x < n) × These x) i r.list (w.0, w.1) r.these;
            least = each (λ x. low ≤ from x) i r.list w.3 (λ x m. omega (arith, r.least x m, w.3));
            order = (λ y m. t.ahead i y (r.least y m), r.order);
            long = omega (arith, r.long);
          }

  -- all of These are met, so exactly these
  pub met_all : (i f g : ℕ) (m : Met none 0 i f g) → ((x : ℕ) → x < n → These x → has x m.list ≡ true) → Meets n These R next prev i
  met_all i f g m h = record {
    list = m.list;
    leads = m.leads;
    exactly = λ x. (m.these x, λ w. h x w.0 w.1);
    once = listed-once n m.list (linked-listed n small N (λ j. get_or prev j 0) m.list (leads-linked n next prev none i m.list m.leads m.back (λ x k. (m.these x k).0)));
    order = m.order;
    reverse = m.back;
  }

  -- ---- a walk along a list

  list-walk : (xs : List ℕ) (g q low i : ℕ) → Leads next i xs → Back prev q xs → ((x : ℕ) → has x xs ≡ true → (x < n) × These x)
      → ((x : ℕ) → has x xs ≡ true → low ≤ from x) → InOrder R xs → go (length xs + g) q low i ≡ Some g
  list-walk [] g q low i l b m a o = walk_ends N past step (0 + g) q low i l ∙ ap Some (zero-add g)
  list-walk (x ∷ xs) g q low i l b m a o =
      let w = m x (has_first x xs) in
      let bx = w.0 in
      let e : (length (x ∷ xs) + g) - 1 ≡ length xs + g = omega arith in
      rw l.0
      (walk-goes N past step (length (x ∷ xs) + g) q low x (past x) (omega arith) (omega arith) (t.shown q low x w.0 w.1 b.0 (a x (has_first x xs))) refl
      ∙ ap (λ (f : ℕ). go f x (past x) (N x)) e
      ∙ list-walk xs g x (past x) (N x) l.1 b.1 (rest x xs m) (λ y k. t.behind x y (o.0 y k)) o.1)

  pub meets-walk : (i g : ℕ) (m : Meets n These R next prev i) → go (length m.list + g) none 0 i ≡ Some g
  meets-walk i g m = list-walk m.list g none 0 i m.leads m.reverse (λ x k. (m.exactly x).0 k) (λ x k. zero-le) m.order
