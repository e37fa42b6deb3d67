-- Whether a piece overlaps a range of the chain, from the ranges on either side of its place. Assumes nothing.
use Prim.Native.Nat.{ℕ, ◌<◌, ◌≤◌}
use mathlib.Core.Bool.{Bool, true, false, ◌&&◌}
use mathlib.Core.Logic.{◌≢◌, inl, inr, ⊎_elim}
use mathlib.Core.List.{List}
use mathlib.Core.Path.{◌≡◌, sym, ap, ◌∙◌, subst}
use lib.ListN.{get_or}
use lib.Dec.{T, leb, ltb, leb→le, ltb→lt, le→leb, lt→ltb}
use native.Mathlib.Omega.{arith}
use Rattle.linked_lists.specs.Links as links
use Rattle.linked_lists.proofs.Laws.{same?, true≢false}
use Rattle.rules.specs.Rules.{Range, any, meets}
use Rattle.rules.specs.Sound.{In}
use Rattle.rules_laws.proofs.Lists.{and_l, and_r, and_i, same_test, any→, any←, T_true}
use Rattle.pool_state.specs.Shown.{at}
use Rattle.pool_chain.specs.Chain.{Placed}
use Rattle.pool_chain.proofs.Neighbours.{below, none_below, above, none_above}

-- what a test of a record says, where it passes
indexed : (i n : ℕ) (w : Bool) → T (ltb i n && w) → (i < n) × T w
indexed i n w h = (ltb→lt i n (and_l (ltb i n) w h), and_r (ltb i n) w h)

module _ (n : ℕ) (small : n ≤ links.none) (c : List Range) (start end : List ℕ) (x y a t : ℕ) (some_byte : a < t) (p : Placed n c start end x y a) where
  stand-at : (i : ℕ) (r : Range) → i ≡ r.number → In r c → (i < n) × (get_or start i 0 ≡ r.start) × (get_or end i 0 ≡ r.last)
  stand-at i r e m =
      let q : at start end i ≡ r = rw e (p.stand r m) in
      (rw e (p.good r m).known, ap (λ (z : Range). z.start) q, ap (λ (z : Range). z.last) q)

  met : (r : Range) → In r c → r.start < t → a ≤ r.last → T (any (meets a t) c)
  met r m h g = any← (meets a t) c r m (and_i (ltb r.start t) (leb a r.last) (lt→ltb r.start t h) (le→leb a r.last g))

  index : (i : ℕ) → i < n → i ≢ links.none
  index i h e = let v : ⊥ = omega arith in v

  -- the range below reaches into the piece
  pub low-overlaps : (ltb x n && leb a (get_or end x 0)) ≡ true → true ≡ any (meets a t) c
  low-overlaps e =
      let w = indexed x n (leb a (get_or end x 0)) (subst T (sym e) tt) in
      let b = below n small c p.good p.apart a x y p.gap (index x w.0) in
      let s = stand-at x b.range b.number b.member in
      let h = leb→le a (get_or end x 0) w.1 in
      sym (T_true (any (meets a t) c) (met b.range b.member (let z = b.starts in omega arith) (let z = s.2 in omega arith)))

  -- else a range that overlaps the piece starts in it
  starts-in : (ltb x n && leb a (get_or end x 0)) ≡ false → (q : Range) → In q c → a ≤ q.last → a ≤ q.start
  starts-in e q m h = ⊎_elim
      (λ (d : x ≡ links.none). none_below n small c p.good p.apart a x y p.gap d q m)
      (λ (d : x ≢ links.none).
      let b = below n small c p.good p.apart a x y p.gap d in
      let s = stand-at x b.range b.number b.member in
      elim (b.others q m) [
        | inl f ↦ let i : get_or end x 0 ≡ q.last = s.2 ∙ ap (λ (z : Range). z.last) (sym f) in
            true≢false (sym (T_true (ltb x n && leb a (get_or end x 0)) (and_i (ltb x n) (leb a (get_or end x 0)) (lt→ltb x n s.0) (le→leb a (get_or end x 0) (omega arith)))) ∙ e)
        | inr f ↦ elim f [
          | inl g ↦ absurd (let z = b.starts in let v : ⊥ = omega arith in v)
          | inr g ↦ g
        ]
      ])
      (same? x links.none)

  pub high-overlaps : (ltb x n && leb a (get_or end x 0)) ≡ false → (ltb y n && ltb (get_or start y 0) t) ≡ any (meets a t) c
  high-overlaps e = same_test (ltb y n && ltb (get_or start y 0) t) (any (meets a t) c)
      (λ h. let w = indexed y n (ltb (get_or start y 0) t) h in
      let u = above n small c p.good p.apart a x y p.gap (index y w.0) in
      let s = stand-at y u.range u.number u.member in
      let i = s.1 in let j = ltb→lt (get_or start y 0) t w.1 in let g = (p.good u.range u.member).proper in let k = u.starts in
      met u.range u.member (omega arith) (omega arith))
      (λ h. let w = any→ (meets a t) c h in
      let q = w.0 in
      let i = ltb→lt q.start t (and_l (ltb q.start t) (leb a q.last) w.2) in
      let j = starts-in e q w.1 (leb→le a q.last (and_r (ltb q.start t) (leb a q.last) w.2)) in
      ⊎_elim
      (λ (d : y ≡ links.none). absurd (let z = none_above n small c p.good p.apart a x y p.gap d q w.1 in let v : ⊥ = omega arith in v))
      (λ (d : y ≢ links.none).
      let u = above n small c p.good p.apart a x y p.gap d in
      let s = stand-at y u.range u.number u.member in
      let k = s.1 in let g = (p.good u.range u.member).proper in
      and_i (ltb y n) (ltb (get_or start y 0) t) (lt→ltb y n s.0) (lt→ltb (get_or start y 0) t (elim (u.others q w.1) [
        | inl f ↦ let z : q.start ≡ u.range.start = ap (λ (r : Range). r.start) f in omega arith
        | inr f ↦ elim f [ inl z ↦ omega arith | inr z ↦ absurd (let v : ⊥ = omega arith in v) ]
      ])))
      (same? y links.none))
