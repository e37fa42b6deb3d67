-- A loop that lays pieces of one width side by side, and passes over those that stand already. Assumes nothing.
use mathlib.Core.Path.{◌≡◌, refl, sym, ◌∙◌, ap}
use mathlib.Core.Bool.{Bool, true, false, not, ◌&&◌}
use mathlib.Core.List.{List, ◌++◌, append_assoc}
use mathlib.Core.Logic.{◌≢◌}
use Prim.Native.Nat.{ℕ, suc, ◌+◌, ◌-◌, ◌*◌, ◌≤◌, ◌<◌}
use native.Mathlib.Nat.{mul-add, mul-one, mul-le-mul_left}
use native.Mathlib.Numerals.{add-one}
use native.Mathlib.Omega.{arith}
use lib.Dec.{eqb}
use lib.ListN.{length, take, drop, get_or, length-append, length-take}
use lib.Seq.{take-add, drop-drop, drop_at, get_or-drop}
use borrow.Author.Tests.{eq-eqb}
use borrow.Rule.Slice.PartMut.{put_mid}
use Rattle.linked_lists.proofs.Laws.{true≢false}
use Rattle.image_parts.specs.Written.{joined}
use Rattle.image_parts.proofs.Loops.{Laying, lay-start, lay-next, lay-end}

-- the pieces before the i-th are laid, and from it on the list is as it was
pub record Renewing (piece : ℕ → List ℕ) (a w n i : ℕ) (xs₀ xs : List ℕ) : Type 0 where
  pub laid : Laying piece a w n i (take a xs₀) xs
  pub rest : drop (a + w * i) xs ≡ drop (a + w * i) xs₀

module _ (piece : ℕ → List ℕ) (a w n : ℕ) (xs₀ : List ℕ) where
  pub renew-start : length xs₀ ≡ a + w * n → Renewing piece a w n 0 xs₀ xs₀
  renew-start h = record { laid = lay-start piece a w n xs₀ h; rest = refl }

  module _ (i : ℕ) (xs : List ℕ) (g : Renewing piece a w n i xs₀ xs) where
    -- what is read of the part that is to come is what stood there
    pub as_it_was : (j : ℕ) → get_or xs (a + w * i + j) 0 ≡ get_or xs₀ (a + w * i + j) 0
    as_it_was j = sym (get_or-drop (a + w * i) xs j 0) ∙ ap (λ (l : List ℕ). get_or l j 0) g.rest ∙ get_or-drop (a + w * i) xs₀ j 0

    next-at : a + w * (i + 1) ≡ a + w * i + w
    next-at = let p = mul-add w i 1 in let q = mul-one w in omega arith

    rest-on : drop (a + w * i + w) xs ≡ drop (a + w * i + w) xs₀
    rest-on = sym (drop-drop w (a + w * i) xs) ∙ ap (drop w) g.rest ∙ drop-drop w (a + w * i) xs₀

    pub renew-pass : i < n → take w (drop (a + w * i) xs₀) ≡ piece i → Renewing piece a w n (i + 1) xs₀ xs
    unfolding joined
    renew-pass b stands =
        let m : n - i ≡ suc (n - (i + 1)) = omega arith in
        let front : take (a + w * (i + 1)) xs ≡ take (a + w * i) xs ++ piece i = rw (next-at, take-add (a + w * i) w xs, g.rest, stands) in
        let past : take (a + w * i) xs ++ joined (n - i) i piece ≡ take (a + w * i) xs ++ (piece i ++ joined (n - (i + 1)) (i + 1) piece) = rw (m, add-one) in
        record {
          laid = record { within = omega arith; sized = g.laid.sized; whole = rw (front, append_assoc) (sym past ∙ g.laid.whole) };
          rest = rw next-at rest-on;
        }

    module _ (y : List ℕ) (at k : ℕ) (ea : at ≡ a + w * i) (ek : k ≡ w) (b : i < n) (ly : length (piece i) ≡ w) (e : y ≡ piece i) where
      room : at + k ≤ length xs
      room = let p : w * (i + 1) ≤ w * n = mul-le-mul_left w (omega arith) in let q = next-at in let s = g.laid.sized in omega arith

      put_rest : drop (at + k) (put_mid at k xs y) ≡ drop (at + k) xs
      put_rest =
          let r = room in
          let l : length y ≡ k = ap length e ∙ ly ∙ sym ek in
          let lf : length (take at xs ++ y) ≡ at + k = simp (length-append, length-take) (omega arith) in
          let past = drop k (drop at xs) in
          ap (drop (at + k)) (sym (append_assoc (take at xs) y past)) ∙ drop_at (take at xs ++ y) past (at + k) lf ∙ drop-drop k at xs

      pub renew-next : Renewing piece a w n (i + 1) xs₀ (put_mid at k xs y)
      renew-next =
          let here : at + k ≡ a + w * i + w = omega arith in
          record {
            laid = lay-next piece a w n i (take a xs₀) xs y at k ea ek b ly e g.laid;
            rest = rw next-at ((rw here at put_rest) ∙ rest-on);
          }

  pub renew-end : (i : ℕ) (xs : List ℕ) → n ≤ i → Renewing piece a w n i xs₀ xs → xs ≡ take a xs₀ ++ joined n 0 piece
  renew-end i xs b g = lay-end piece a w n i (take a xs₀) xs b g.laid

-- ---- when a piece stands

pub record Passed (anew on : Bool) (flag : ℕ) : Type 0 where
  pub kept : anew ≡ false
  pub off : on ≡ false
  pub unmarked : flag ≢ 1

pub passed : (anew on : Bool) (flag : ℕ) (r : Bool) → r ≡ (not anew && (not on && not (eqb flag 1))) → r ≡ true → Passed anew on flag
passed true on flag r e t = true≢false (sym t ∙ e)
passed false true flag r e t = true≢false (sym t ∙ e)
passed false false flag r e t = record { kept = refl; off = refl; unmarked = λ h. true≢false (sym t ∙ e ∙ ap not (eq-eqb flag 1 h)) }
