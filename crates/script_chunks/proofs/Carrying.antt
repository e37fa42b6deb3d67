-- The line that is held: the first bytes of it, in the first places of the carry. Assumes nothing.
use mathlib.Core.Path.{◌≡◌, refl, sym, ap, ◌∙◌}
use mathlib.Core.Bool.{Bool, true, false}
use mathlib.Core.List.{List, [], ◌∷◌, ◌++◌, append_assoc, append-nil}
use Prim.Native.Nat.{ℕ, zero, suc, ◌+◌, ◌-◌, ◌≤◌, min}
use native.Mathlib.Omega.{arith}
use lib.ListN.{length, take, drop, length-take, length-drop, length-append}
use lib.Dec.{ltb}
use borrow.Author.Tests.{ltb-true, ltb-false}
use lib.Seq.{length-take-le, take-take, take_all, take_at, take-append-add, drop-drop}
use borrow.Rule.Slice.PartMut.{put_mid}
use Rattle.script_chunks.specs.Input.{between, Holds, Joins}

-- ---- what is held is enough

take-cap : (m : ℕ) (p q : List ℕ) → take m (take m p ++ q) ≡ take m (p ++ q)
take-cap zero p q = refl
take-cap (suc m) [] q = refl
take-cap (suc m) (x ∷ p) q = ap (λ (l : List ℕ). x ∷ l) (take-cap m p q)

pub carried : (p l carry carry' : List ℕ) (held r : ℕ) → Holds p carry held → Joins l carry held carry' r → Holds (p ++ l) carry' r
carried p l carry carry' held r h j =
    record {
      within = rw j.size j.within;
      bytes = j.bytes ∙ rw (h.bytes, j.size) (take-cap (length carry) p l);
    }

-- ---- the bytes that join it

-- the first of a list's first places
take-less : (m k n : ℕ) (l : List ℕ) → n ≡ min k m → take m (take k l) ≡ take n l
take-less m k n l e = go (ltb m k) refl
  where
    go : (t : Bool) → ltb m k ≡ t → take m (take k l) ≡ take n l
    go true is = let low = ltb-true m k is in let q : n ≡ m = omega arith in take-take m k l (omega arith) ∙ ap (λ (i : ℕ). take i l) (sym q)
    go false is =
        let high = ltb-false m k is in
        let q : n ≡ k = omega arith in
        take_all m (take k l) (simp length-take (omega arith)) ∙ ap (λ (i : ℕ). take i l) (sym q)

-- as many bytes as there are, and as there is room for, are put behind those that are held
pub joins-copied : (chunk carry carry' : List ℕ) (held from to n : ℕ) → held ≤ length carry → from ≤ to → to ≤ length chunk → n ≡ min (to - from) (length carry - held)
    → carry' ≡ take held carry ++ (take n (drop from chunk) ++ drop (held + n) carry) → Joins (between from to chunk) carry held carry' (held + n)
joins-copied chunk carry carry' held from to n h g k is e =
    let first : List ℕ = take held carry in
    let copied : List ℕ = take n (drop from chunk) in
    let size-first : length first ≡ held = length-take-le held carry h in
    let size-copied : length copied ≡ n = simp (length-take, length-drop) (omega arith) in
    let both : length (first ++ copied) ≡ held + n = length-append first copied ∙ omega arith in
    let room : length carry ≡ length first + (length carry - held) = omega arith in
    let kept : take (length carry) (first ++ between from to chunk) ≡ first ++ copied =
    ap (λ (i : ℕ). take i (first ++ between from to chunk)) room ∙ take-append-add first (between from to chunk) (length carry - held)
    ∙ ap (λ (l : List ℕ). first ++ l) (take-less (length carry - held) (to - from) n (drop from chunk) is) in
    record {
      size = rw e (simp (length-append, length-take, length-drop) (omega arith));
      within = omega arith;
      bytes = rw e (rw (← append_assoc first copied (drop (held + n) carry)) (take_at (first ++ copied) (drop (held + n) carry) (held + n) both)) ∙ sym kept;
    }

-- the same, as the copy leaves the carry
pub joins-put : (chunk carry y : List ℕ) (held from to n : ℕ) → held ≤ length carry → from ≤ to → to ≤ length chunk → n ≡ min (to - from) (length carry - held)
    → y ≡ take (from + n - from) (drop from chunk) → Joins (between from to chunk) carry held (put_mid held (held + n - held) carry y) (held + n)
joins-put chunk carry y held from to n h g k is e =
    let size : from + n - from ≡ n = omega arith in
    let past : held + (held + n - held) ≡ held + n = omega arith in
    let after : drop (held + n - held) (drop held carry) ≡ drop (held + n) carry = drop-drop (held + n - held) held carry ∙ ap (λ (i : ℕ). drop i carry) past in
    joins-copied chunk carry (put_mid held (held + n - held) carry y) held from to n h g k is (rw (after, e, size))
