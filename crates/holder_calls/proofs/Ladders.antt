-- The ladders of refusals over an image, in the steps in which code takes them. f is the layout, l the image, i what the allocator's C call returns on its bytes m, and m'
-- what it leaves of them. Assumes nothing.
use Prim.Native.Nat.{ℕ, suc, ◌+◌}
use mathlib.Core.Bool.{Bool, true, false, not}
use mathlib.Core.List.{List, []}
use mathlib.Core.Logic.{◌≢◌}
use mathlib.Core.Path.{◌≡◌, refl, sym, ap, ◌∙◌, subst}
use native.Mathlib.Omega.{arith}
use lib.Dec.{T, ltb→lt}
use lib.IntN.{ℤ, pos, negsuc}
use lib.Signed.{lt_z}
use borrow.Author.Tests.{ne_eqb}
use Rattle.std.specs.Prelude.{Err}
use Rattle.rules.specs.Rules as rules
use Rattle.rules_engine.specs.Engine.{Engine}
use Rattle.rules.specs.Rules.{any, meets, Free}
use Rattle.linked_lists.proofs.Laws.{true≢false}
use Rattle.calls.specs.Calls.{number_from, voucher_from, signed_of}
use Rattle.calls.specs.declared.MemoryError.TheVariants.{InvalidEntry}
use Rattle.image_parts.specs.Layout.{Layout}
use Rattle.c_over.specs.CCalls as allocator
use Rattle.c_over.specs.CCalls.{Returned, returned}
use Rattle.c_over.specs.Images.{images}
use Rattle.holder_rules.specs.Register.{known, held, full, enter, yours, leave}
use Rattle.holder_rules.specs.Holders.{Holding, both, Answer, refused, refuse, unless_refused, unless_other, offer, give_back_lem, piece, take_as, take, asked, Call, By, step}
use Rattle.holder_rules.specs.declared.Entry.{Entry}
use Rattle.holder_image.specs.Bytes.{bytes_of_lem, memory_in, register_in_lem, holding_in, headed}
use Rattle.holder_calls.specs.Calls.{finished, sound_in_lem, over, call_over_lem}

-- the engine whose calls are the allocator's C calls
abbrev E : Layout → Engine
E f = images f []

-- ---- numbers

not-pos : (a : ℕ) → lt_z (pos a) (pos 0) ≡ true → ⊥
not-pos a n = let v = ltb→lt a 0 (subst T (sym n) tt) in let z : ⊥ = omega arith in z

number-4 : (i : ℤ) → number_from i ≡ 4 → i ≡ negsuc 3
number-4 (pos a) e = absurd (let v : ⊥ = omega arith in v)
number-4 (negsuc j) e = ap negsuc (let v : j ≡ 3 = omega arith in v)

module _ (f : Layout) (l : List ℕ) (c : rules.Call) (k : Holding (List ℕ)) where
  some_number : (j : ℕ) → suc j ≢ 0
  some_number j e = absurd (let v : ⊥ = omega arith in v)

  refused-number : (j : ℕ) → returned (negsuc j) l ≡ finished f (refused (suc j) k) l
  unfolding finished
  refused-number j = rw (ne_eqb (suc j) 0 (some_number j))

  -- ---- a free below the register: 4, then 5, then the allocator's own answer
  module _ (q : Bool) (k' : Holding (List ℕ)) where
    abbrev Told : ℤ → Returned
    Told i = finished f (unless_other (voucher_from c i) q k k') l

    four : (i : ℤ) → i ≡ negsuc 3 → returned i l ≡ Told i
    unfolding unless_other refuse finished
    four i e = subst (λ (j : ℤ). returned j l ≡ Told j) (sym e) refl

    five : (i : ℤ) → i ≢ negsuc 3 → q ≡ true → returned (negsuc 4) l ≡ Told i
    unfolding unless_other refuse finished
    five i d t = rw (ne_eqb (number_from i) 4 (λ e. d (number-4 i e)), t)

    other : (i : ℤ) → i ≢ negsuc 3 → q ≡ false → lt_z i (pos 0) ≡ true → returned i l ≡ Told i
    unfolding unless_other unless_refused refuse
    other (pos a) d t n = absurd (not-pos a n)
    other (negsuc j) d t n =
        let w : refused (suc j) k ≡ unless_other (voucher_from c (negsuc j)) q k k' = rw (ne_eqb (suc j) 4 (λ e. d (number-4 (negsuc j) e)), t, ne_eqb (suc j) 0 (some_number j)) in
        refused-number j ∙ ap (λ (x : Answer (List ℕ)). finished f x l) w

    done : (i : ℤ) → q ≡ false → lt_z i (pos 0) ≡ false → (l' : List ℕ) → l' ≡ bytes_of_lem f k' → returned i l' ≡ Told i
    unfolding unless_other unless_refused refuse finished
    done (pos a) t n l' e = rw (t, e)
    done (negsuc j) t n l' e = true≢false n

  -- ---- a take
  module _ (h : ℕ) (m' : List ℕ) where
    abbrev Taken : ℤ → Returned
    Taken i = finished f (take_as (voucher_from c i) m' h c k) l

    take-not : (i : ℤ) → lt_z i (pos 0) ≡ true → returned i l ≡ Taken i
    unfolding take_as unless_refused refuse
    take-not (pos a) n = absurd (not-pos a n)
    take-not (negsuc j) n =
        let w : refused (suc j) k ≡ take_as (voucher_from c (negsuc j)) m' h c k = rw (ne_eqb (suc j) 0 (some_number j)) in
        refused-number j ∙ ap (λ (x : Answer (List ℕ)). finished f x l) w

    take-six : (i : ℤ) → lt_z i (pos 0) ≡ false → full k.register ≡ true → returned (negsuc 5) l ≡ Taken i
    unfolding take_as unless_refused refuse finished
    take-six (pos a) n t = rw t
    take-six (negsuc j) n t = true≢false n

    take_done : (i : ℤ) → lt_z i (pos 0) ≡ false → full k.register ≡ false → (r : List Entry) → r ≡ enter (piece h c (voucher_from c i).address) k.register → (l' : List ℕ) → l' ≡ bytes_of_lem f (both m' r) → returned i l' ≡ Taken i
    unfolding take_as unless_refused refuse finished
    take_done (pos a) n t r e l' d = rw (t, d, e)
    take_done (negsuc j) n t r e l' d = true≢false n

-- ---- the same of the register's calls, where i and m' are what the C call made of m

module _ (f : Layout) (l m m' : List ℕ) (r : List Entry) (i : ℤ) where
  abbrev k : Holding (List ℕ)
  k = both m r

  module _ (s z : ℕ) (e : returned i m' ≡ allocator.call_over_lem f (Free s z) m) where
    -- in the ladder of the offer and of the free
    abbrev Ladder : Bool → List Entry → Returned
    Ladder q r' = finished f (unless_other ((E f).answer (Free s z) m) q k (both ((E f).next (Free s z) m) r')) l

    told : (q : Bool) (r' : List Entry) (x : Returned) → x ≡ finished f (unless_other (voucher_from (Free s z) i) q k (both m' r')) l → x ≡ Ladder q r'
    told q r' x g = g ∙ ap (λ (y : Returned). finished f (unless_other (voucher_from (Free s z) y.number) q k (both y.bytes r')) l) e

    pub free-four : (q : Bool) (r' : List Entry) → i ≡ negsuc 3 → returned i l ≡ Ladder q r'
    free-four q r' d = told q r' _ (four f l (Free s z) k q (both m' r') i d)

    pub free-five : (q : Bool) (r' : List Entry) → i ≢ negsuc 3 → q ≡ true → returned (negsuc 4) l ≡ Ladder q r'
    free-five q r' d t = told q r' _ (five f l (Free s z) k q (both m' r') i d t)

    pub free_other : (q : Bool) (r' : List Entry) → i ≢ negsuc 3 → q ≡ false → lt_z i (pos 0) ≡ true → returned i l ≡ Ladder q r'
    free_other q r' d t n = told q r' _ (other f l (Free s z) k q (both m' r') i d t n)

    pub free-done : (q : Bool) (r' r'' : List Entry) → q ≡ false → lt_z i (pos 0) ≡ false → (l' : List ℕ) → l' ≡ bytes_of_lem f (both m' r'') → r'' ≡ r' → returned i l' ≡ Ladder q r'
    free-done q r' r'' t n l' d g = told q r' _ (done f l (Free s z) k q (both m' r') i t n l' (d ∙ ap (λ (x : List Entry). bytes_of_lem f (both m' x)) g))

  module _ (h : ℕ) (c : rules.Call) (e : returned i m' ≡ allocator.call_over_lem f c m) where
    taken : (x : Returned) → x ≡ finished f (take_as (voucher_from c i) m' h c k) l → x ≡ finished f (take (E f) h c k) l
    unfolding take
    taken x g = g ∙ ap (λ (y : Returned). finished f (take_as (voucher_from c y.number) y.bytes h c k) l) e

    pub take-refused : lt_z i (pos 0) ≡ true → returned i l ≡ finished f (take (E f) h c k) l
    take-refused n = taken _ (take-not f l c k h m' i n)

    pub take-full : lt_z i (pos 0) ≡ false → full r ≡ true → returned (negsuc 5) l ≡ finished f (take (E f) h c k) l
    take-full n t = taken _ (take-six f l c k h m' i n t)

    pub take-entered : lt_z i (pos 0) ≡ false → full r ≡ false → (r' : List Entry) → r' ≡ enter (piece h c (voucher_from c i).address) r → (l' : List ℕ) → l' ≡ bytes_of_lem f (both m' r') → returned i l' ≡ finished f (take (E f) h c k) l
    take-entered n t r' g l' d = taken _ (take_done f l c k h m' i n t r' g l' d)

-- ---- in the words of the contracts: the register in hand is the one in the image

module _ (f : Layout) (l : List ℕ) (r : List Entry) (g : r ≡ register_in_lem l) where
  pub offered-is : (s z : ℕ) (x : Returned)
      → x ≡ finished f (unless_other ((E f).answer (Free s z) (memory_in l)) (any (meets s (s + z)) (held r)) (both (memory_in l) r) (both ((E f).next (Free s z) (memory_in l)) r)) l
      → x ≡ finished f (offer (E f) s z (holding_in l)) l
  unfolding offer
  offered-is s z x e = e ∙ ap (λ (q : List Entry). finished f (offer (E f) s z (both (memory_in l) q)) l) g

  pub given_is : (h s z : ℕ) (x : Returned)
      → x ≡ finished f (unless_other ((E f).answer (Free s z) (memory_in l)) (not (any (yours h s z) (held r))) (both (memory_in l) r) (both ((E f).next (Free s z) (memory_in l)) (leave h s z r))) l
      → x ≡ finished f (give_back_lem (E f) h s z (holding_in l)) l
  unfolding give_back_lem
  given_is h s z x e = e ∙ ap (λ (q : List Entry). finished f (give_back_lem (E f) h s z (both (memory_in l) q)) l) g

  pub taken_is : (h : ℕ) (c : rules.Call) (x : Returned) → x ≡ finished f (take (E f) h c (both (memory_in l) r)) l → x ≡ finished f (take (E f) h c (holding_in l)) l
  taken_is h c x e = e ∙ ap (λ (q : List Entry). finished f (take (E f) h c (both (memory_in l) q)) l) g

-- ---- a holder's number

module _ (f : Layout) (l : List ℕ) (k : Holding (List ℕ)) (h : ℕ) (c : rules.Call) where
  pub no-holder : known h ≡ false → returned (negsuc 3) l ≡ finished f (step (E f) (By h c) k) l
  unfolding step refuse finished
  no-holder t = rw t

  pub by-holder : known h ≡ true → finished f (asked (E f) h c k) l ≡ finished f (step (E f) (By h c) k) l
  unfolding step refuse
  by-holder t = rw t

-- ---- an image that does not serve, and one that does

module _ (f : Layout) (l : List ℕ) (c : Call) where
  pub not-headed : headed f l ≡ false → returned (signed_of (Err InvalidEntry)) l ≡ call_over_lem f c l
  unfolding call_over_lem over
  not-headed e = rw e

  pub not_sound : headed f l ≡ true → sound_in_lem f (memory_in l) (register_in_lem l) ≡ false → returned (signed_of (Err InvalidEntry)) l ≡ call_over_lem f c l
  unfolding call_over_lem over
  not_sound h e = rw (h, e)

  pub sound-served : headed f l ≡ true → sound_in_lem f (memory_in l) (register_in_lem l) ≡ true → finished f (step (E f) c (holding_in l)) l ≡ call_over_lem f c l
  unfolding call_over_lem over
  sound-served h e = rw (h, e)
