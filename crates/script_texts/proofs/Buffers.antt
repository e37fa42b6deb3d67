-- Laws of texts that are written one after another.
-- Assumes nothing.
use mathlib.Core.Path.{◌≡◌, refl, sym, ◌∙◌, ap}
use borrow.Rule.Slice.PartMut.{put_mid}
use mathlib.Core.Bool.{Bool, true, false, not}
use mathlib.Core.List.{List, [], ◌∷◌, ◌++◌, append_assoc, append-nil}
use Prim.Native.Nat.{ℕ, ◌+◌, ◌-◌, ◌^◌, ◌≤◌, ◌<◌}
use native.Mathlib.Omega.{arith}
use lib.ListN.{length, take, drop, length-append, length-take, length-drop}
use lib.Seq.{take-length, drop-length, take_at, drop_at, drop-drop}
use lib.Dec.{leb}
use borrow.Author.Tests.{le-leb, lt-leb, leb-true, leb-false, not-true, not-false}
use Rattle.script_texts.specs.Answers.{digits_of, ending, ok_text, bad_text, ok_at, no_text, range_text, list_text, written, past, Puts}
use Rattle.script_texts.proofs.Decimal.{at-most-twenty}

pub same-room : (size at need : ℕ) → need ≤ size → leb at (size - need) ≡ leb (at + need) size
same-room size at need h = by-test (leb at (size - need)) refl
  where
    by-test : (t : Bool) → leb at (size - need) ≡ t → t ≡ leb (at + need) size
    by-test true e = sym (le-leb (at + need) size (omega (arith, leb-true at (size - need) e)))
    by-test false e = sym (lt-leb (at + need) size (omega (arith, leb-false at (size - need) e)))

module _ (t l : List ℕ) (at : ℕ) where
  pub put_all : (m : List ℕ) (r : ℕ) → at + length t ≤ length l → m ≡ take at l ++ (t ++ drop (at + length t) l) → r ≡ at + length t → Puts t l at m r
  unfolding written past
  put_all m r h e n = record { bytes = rw (le-leb _ _ h) e; next = rw (le-leb _ _ h) n }

  pub put-none : length l < at + length t → Puts t l at l at
  unfolding written past
  put-none h = record { bytes = rw (lt-leb _ _ h); next = rw (lt-leb _ _ h) }

  pub all-bytes : (m : List ℕ) (r : ℕ) → at + length t ≤ length l → Puts t l at m r → m ≡ take at l ++ (t ++ drop (at + length t) l)
  unfolding written
  all-bytes m r h p = p.bytes ∙ rw (le-leb _ _ h)

  pub all-next : (m : List ℕ) (r : ℕ) → at + length t ≤ length l → Puts t l at m r → r ≡ at + length t
  unfolding past
  all-next m r h p = p.next ∙ rw (le-leb _ _ h)

-- what the test for room says of a text t of `need` bytes
module _ (t l : List ℕ) (at need : ℕ) (room : Bool) (is : room ≡ leb (at + need) (length l)) (size : length t ≡ need) where
  pub no_room : not room ≡ true → Puts t l at l at
  no_room h = put-none t l at (rw size (leb-false (at + need) (length l) (sym is ∙ not-true room h)))

  pub with-room : not room ≡ false → at + length t ≤ length l
  with-room h = rw size (leb-true (at + need) (length l) (sym is ∙ not-false room h))

-- a part that is lent and comes back as the text
pub put-part : (t l y : List ℕ) (at w : ℕ) → w ≡ length t → at + length t ≤ length l → y ≡ t → Puts t l at (put_mid at (at + w - at) l y) (at + w)
put-part t l y at w size h e =
    let k : at + (at + w - at) ≡ at + length t = omega arith in
    let after : drop (at + w - at) (drop at l) ≡ drop (at + length t) l = drop-drop (at + w - at) at l ∙ ap (λ (n : ℕ). drop n l) k in
    put_all t l at (put_mid at (at + w - at) l y) (at + w) h (rw (after, e)) (ap (λ (n : ℕ). at + n) size)

-- a text that is copied over a part as long as it
pub copied : (t l : List ℕ) (at : ℕ) → at + length t ≤ length l → take (length t) t ++ drop (length t) (take (at + length t - at) (drop at l)) ≡ t
copied t l at h =
    let part : List ℕ = take (at + length t - at) (drop at l) in
    let n : length part ≡ length t = simp (length-take, length-drop) (omega arith) in
    let over : drop (length t) part ≡ [] = ap (λ (k : ℕ). drop k part) (sym n) ∙ drop-length part in
    rw (take-length t, over) (append-nil t)

pub put_then : (s t l m k : List ℕ) (at a b : ℕ) → at + length (s ++ t) ≤ length l → Puts s l at m a → Puts t m a k b → Puts (s ++ t) l at k b
put_then s t l m k at a b h p q =
    let ls : length (s ++ t) ≡ length s + length t = length-append s t in
    let front : List ℕ = take at l ++ s in
    let rest : List ℕ = drop (at + length s) l in
    let is : m ≡ front ++ rest = all-bytes s l at m a (omega arith) p ∙ sym (append_assoc (take at l) s rest) in
    let a-is : a ≡ at + length s = all-next s l at m a (omega arith) p in
    let lf : length front ≡ a = simp (length-append, length-take) (omega arith) in
    let lr : length rest ≡ length l - (at + length s) = length-drop (at + length s) l in
    let lm : length m ≡ length l = ap length is ∙ length-append front rest ∙ omega arith in
    let kept : take a m ≡ front = ap (take a) is ∙ take_at front rest a lf in
    let ends : at + length s + length t ≡ at + length (s ++ t) = omega arith in
    let after : drop (a + length t) m ≡ drop (at + length (s ++ t)) l =
    sym (drop-drop (length t) a m) ∙ ap (λ (x : List ℕ). drop (length t) (drop a x)) is ∙ ap (drop (length t)) (drop_at front rest a lf)
    ∙ drop-drop (length t) (at + length s) l ∙ ap (λ (n : ℕ). drop n l) ends in
    put_all (s ++ t) l at k b h
    (all-bytes t m a k b (omega arith) q ∙ rw (kept, after) (simp append_assoc))
    (all-next t m a k b (omega arith) q ∙ omega arith)

pub put_three : (s t u l m k o : List ℕ) (at a b d : ℕ) → at + length (s ++ (t ++ u)) ≤ length l → Puts s l at m a → Puts t m a k b → Puts u k b o d → Puts (s ++ (t ++ u)) l at o d
put_three s t u l m k o at a b d h p q r =
    let e : (s ++ t) ++ u ≡ s ++ (t ++ u) = append_assoc s t u in
    let g : at + length ((s ++ t) ++ u) ≤ length l = rw e h in
    let n : length ((s ++ t) ++ u) ≡ length (s ++ t) + length u = length-append (s ++ t) u in
    rw e at (put_then (s ++ t) u l k o at b d g (put_then s t l m k at a b (omega arith) p q) r)

-- ---- the lengths of the texts: none is more than 48 bytes

pub length-ending : (n : ℕ) → length (ending n) ≡ length (digits_of n) + 1
unfolding ending
length-ending n = length-append (digits_of n) (10 ∷ [])

length-range : (s l : ℕ) → length (range_text s l) ≡ length (digits_of s) + length (digits_of l) + 2
length-range s l = length-append (digits_of s) (32 ∷ ending l) ∙ omega (arith, length-ending l)

pub length-word : (w : List ℕ) (n : ℕ) → length (w ++ ending n) ≡ length w + length (digits_of n) + 1
length-word w n = length-append w (ending n) ∙ omega (arith, length-ending n)

pub length-pair : (w : List ℕ) (m n : ℕ) → length (w ++ range_text m n) ≡ length w + length (digits_of m) + length (digits_of n) + 2
length-pair w m n = length-append w (range_text m n) ∙ omega (arith, length-range m n)

pub at-most-48 : (a b : ℕ) → a < 2 ^ 64 → b < 2 ^ 64 → (length ok_text ≤ 48) × (length bad_text ≤ 48) × (length (ok_at a) ≤ 48) × (length (no_text a) ≤ 48) × (length (range_text a b) ≤ 48) × (length (list_text a b) ≤ 48)
at-most-48 a b h g =
    let e = length-ending a in
    let r = length-range a b in
    let p = at-most-twenty a h in
    let q = at-most-twenty b g in
    (omega arith, omega arith, omega arith, omega arith, omega arith, omega arith)
