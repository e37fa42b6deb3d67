-- What the register makes of the allocator's answer, on each way through the code. Assumes nothing.
use Prim.Native.Nat.{ℕ, ◌+◌}
use mathlib.Core.Bool.{Bool, true, false, not}
use mathlib.Core.List.{List, [], ◌++◌}
use mathlib.Core.Logic.{◌≢◌}
use mathlib.Core.Path.{◌≡◌, refl, sym, ap, ◌∙◌, subst}
use native.Mathlib.Omega.{arith}
use lib.IntN.{ℤ, pos, negsuc}
use lib.Signed.{lt_z}
use lib.ListN.{length, set, take, length-append}
use lib.Seq.{take_at}
use Rattle.rules.specs.Rules as rules
use lib.Dec.{T}
use Rattle.rules.specs.Rules.{any, meets, frees, Free}
use Rattle.linked_lists.proofs.Laws.{true≢false}
use Rattle.calls.specs.Calls.{voucher_from}
use Rattle.image_parts.specs.Layout.{Layout}
use Rattle.c_over.specs.CCalls as allocator
use Rattle.c_over.specs.CCalls.{returned}
use Rattle.c_over.specs.Images.{images}
use Rattle.holder_rules.specs.Register.{entries, known, held, full, enter, yours, leave}
use Rattle.holder_rules.specs.Holders.{Answer, both, offer, give_back_lem, piece, take as takes, asked, By, step}
use Rattle.holder_rules.specs.declared.Entry.{Entry}
use Rattle.holder_image.specs.Layout.{memory_at}
use Rattle.linked_lists.proofs.Laws.{length-tab}
use Rattle.holder_image.specs.Bytes.{front_bytes_lem, bytes_of_lem, memory_in, entry_at_lem, register_in_lem, holding_in}
use Rattle.holder_image.proofs.Rounds.{length-bytes, memory-back, bytes-again}
use Rattle.holder_calls.specs.Calls.{finished, Serves, Asks, Settles}
use Rattle.holder_calls.proofs.Ladders.{offered-is, given_is, taken_is, free-four, free-five, free_other, free-done, take-refused, take-full, take-entered, no-holder, by-holder}

-- the register of an image has its entries
pub register-sized : (l : List ℕ) (r : List Entry) → r ≡ register_in_lem l → length r ≡ entries
unfolding register_in_lem
register-sized l r e = ap length e ∙ length-tab entries 0 (entry_at_lem l)

pub served-length : (f : Layout) (l : List ℕ) (r : List Entry) → Serves f l r → length r ≡ entries
served-length f l r s = register-sized l r s.register

front_length : (f : Layout) (r : List Entry) → length (front_bytes_lem f r) ≡ memory_at
unfolding bytes_of_lem
front_length f r = let e = length-bytes f r [] in let a = length-append (front_bytes_lem f r) [] in omega arith

-- the same of another word for what it comes to
pub same-settled : (f : Layout) (c : rules.Call) (w w' : Answer (List ℕ)) (l : List ℕ) (i x : ℤ) (l' : List ℕ) → finished f w l ≡ finished f w' l → Settles f c w l i x l' → Settles f c w' l i x l'
same-settled f c w w' l i x l' e s = record { outcome = s.outcome ∙ e; answer = s.answer; memory = s.memory }

-- and of another for the answer
pub same_answer : (f : Layout) (c : rules.Call) (w : Answer (List ℕ)) (l : List ℕ) (i i' x : ℤ) (l' : List ℕ) → i ≡ i' → Settles f c w l i x l' → Settles f c w l i' x l'
same_answer f c w l i i' x l' e s = subst (λ (j : ℤ). Settles f c w l j x l') e s

-- a call that frees nothing takes
pub takes-settled : (f : Layout) (l : List ℕ) (i x : ℤ) (l' : List ℕ) (h : ℕ) (c : rules.Call) → T (not (frees c)) → Settles f c (takes (images f []) h c (holding_in l)) l i x l' → Settles f c (asked (images f []) h c (holding_in l)) l i x l'
unfolding asked
takes-settled f l i x l' h (rules.Free s z) t g = absurd t
takes-settled f l i x l' h (rules.Allocate z o) t g = g
takes-settled f l i x l' h (rules.Reserve s z o) t g = g

pub unsettled : (f : Layout) (c : rules.Call) (w : Answer (List ℕ)) (l : List ℕ) (i x : ℤ) → lt_z x (pos 0) ≡ true → returned x l ≡ finished f w l → Settles f c w l i x l
unsettled f c w l i x t g = record { outcome = rw t g; answer = λ n. true≢false (sym t ∙ n); memory = refl }

module _ (f : Layout) (c : rules.Call) (l : List ℕ) (r : List Entry) (i : ℤ) (a : Asks f c l r i) where
  -- what the allocator leaves of its bytes
  abbrev left : List ℕ
  left = (allocator.call_over_lem f c (memory_in l)).bytes

  pub called : returned i left ≡ allocator.call_over_lem f c (memory_in l)
  called = let p = a.answer in (λ j. returned (p j) left)

  settled : (w : Answer (List ℕ)) → lt_z i (pos 0) ≡ false → (s : List Entry) (l' : List ℕ) → l' ≡ bytes_of_lem f (both (memory_in l) s) → returned i (bytes_of_lem f (both left s)) ≡ finished f w l → Settles f c w l i i l'
  unfolding bytes_of_lem
  settled w n s l' e g = record {
    outcome = rw n (ap (λ (x : List ℕ). returned i (take memory_at x ++ left)) e ∙ ap (λ (x : List ℕ). returned i (x ++ left)) (take_at (front_bytes_lem f s) (memory_in l) memory_at (front_length f s)) ∙ g);
    answer = λ _. refl;
    memory = ap memory_in e ∙ memory-back f s (memory_in l);
  }

  -- the image as it is, with the register in hand
  unchanged : l ≡ bytes_of_lem f (both (memory_in l) r)
  unchanged = sym (bytes-again f l a.serves.bytes a.serves.front) ∙ ap (λ (q : List Entry). bytes_of_lem f (both (memory_in l) q)) (sym a.serves.register)

negative : (i : ℤ) → i ≡ negsuc 3 → lt_z i (pos 0) ≡ true
negative i e = ap (λ (x : ℤ). lt_z x (pos 0)) e

-- ---- an offer

module _ (f : Layout) (l : List ℕ) (r : List Entry) (i : ℤ) (s z : ℕ) (a : Asks f (Free s z) l r i) where
  abbrev overlaps : Bool
  overlaps = any (meets s (s + z)) (held r)

  abbrev Offered : ℤ → Type 0
  Offered x = Settles f (Free s z) (offer (images f []) s z (holding_in l)) l i x l

  pub offer-four : i ≡ negsuc 3 → Offered i
  offer-four d = unsettled f _ _ l i i (negative i d) (offered-is f l r a.serves.register s z _ (free-four f l (memory_in l) _ r i s z (called f (Free s z) l r i a) overlaps r d))

  pub offer-five : i ≢ negsuc 3 → overlaps ≡ true → Offered (negsuc 4)
  offer-five d t = unsettled f _ _ l i (negsuc 4) refl (offered-is f l r a.serves.register s z _ (free-five f l (memory_in l) _ r i s z (called f (Free s z) l r i a) overlaps r d t))

  pub offer-answered : i ≢ negsuc 3 → overlaps ≡ false → Offered i
  offer-answered d t = go (lt_z i (pos 0)) refl
    where
      go : (b : Bool) → lt_z i (pos 0) ≡ b → Offered i
      go true n = unsettled f _ _ l i i n (offered-is f l r a.serves.register s z _ (free_other f l (memory_in l) _ r i s z (called f (Free s z) l r i a) overlaps r d t n))
      go false n = settled f (Free s z) l r i a _ n r l (unchanged f (Free s z) l r i a) (offered-is f l r a.serves.register s z _ (free-done f l (memory_in l) _ r i s z (called f (Free s z) l r i a) overlaps r r t n _ refl refl))

  -- ---- a free

  module _ (h : ℕ) where
    abbrev given : Bool
    given = any (yours h s z) (held r)

    abbrev Given : ℤ → List ℕ → Type 0
    Given x l' = Settles f (Free s z) (give_back_lem (images f []) h s z (holding_in l)) l i x l'

    pub give-four : i ≡ negsuc 3 → Given i l
    give-four d = unsettled f _ _ l i i (negative i d) (given_is f l r a.serves.register h s z _ (free-four f l (memory_in l) _ r i s z (called f (Free s z) l r i a) (not given) (leave h s z r) d))

    pub give-five : i ≢ negsuc 3 → given ≡ false → Given (negsuc 4) l
    give-five d t = unsettled f _ _ l i (negsuc 4) refl (given_is f l r a.serves.register h s z _ (free-five f l (memory_in l) _ r i s z (called f (Free s z) l r i a) (not given) (leave h s z r) d (ap not t)))

    pub give-other : i ≢ negsuc 3 → given ≡ true → lt_z i (pos 0) ≡ true → Given i l
    give-other d t n = unsettled f _ _ l i i n (given_is f l r a.serves.register h s z _ (free_other f l (memory_in l) _ r i s z (called f (Free s z) l r i a) (not given) (leave h s z r) d (ap not t) n))

    pub give-done : given ≡ true → lt_z i (pos 0) ≡ false → (k : ℕ) (e : Entry) → set r k e ≡ leave h s z r → (l' : List ℕ) → l' ≡ bytes_of_lem f (both (memory_in l) (set (register_in_lem l) k e)) → Given i l'
    give-done t n k e p l' g =
        settled f (Free s z) l r i a _ n (set (register_in_lem l) k e) l' g
        (given_is f l r a.serves.register h s z _ (free-done f l (memory_in l) _ r i s z (called f (Free s z) l r i a) (not given) (leave h s z r) _ (ap not t) n _ refl (ap (λ (q : List Entry). set q k e) (sym a.serves.register) ∙ p)))

-- ---- a take

module _ (f : Layout) (l : List ℕ) (r : List Entry) (i : ℤ) (h : ℕ) (c : rules.Call) (a : Asks f c l r i) where
  abbrev Taken : ℤ → List ℕ → Type 0
  Taken x l' = Settles f c (takes (images f []) h c (holding_in l)) l i x l'

  pub take-other : lt_z i (pos 0) ≡ true → Taken i l
  take-other n = unsettled f _ _ l i i n (taken_is f l r a.serves.register h c _ (take-refused f l (memory_in l) _ r i h c (called f c l r i a) n))

  pub take-six : lt_z i (pos 0) ≡ false → full r ≡ true → Taken (negsuc 5) l
  take-six n t = unsettled f _ _ l i (negsuc 5) refl (taken_is f l r a.serves.register h c _ (take-full f l (memory_in l) _ r i h c (called f c l r i a) n t))

  pub take_done : lt_z i (pos 0) ≡ false → full r ≡ false → (k : ℕ) (e : Entry) → set r k e ≡ enter (piece h c (voucher_from c i).address) r → (l' : List ℕ) → l' ≡ bytes_of_lem f (both (memory_in l) (set (register_in_lem l) k e)) → Taken i l'
  take_done n t k e p l' g =
      settled f c l r i a _ n (set (register_in_lem l) k e) l' g
      (taken_is f l r a.serves.register h c _ (take-entered f l (memory_in l) _ r i h c (called f c l r i a) n t (set (register_in_lem l) k e) (ap (λ (q : List Entry). set q k e) (sym a.serves.register) ∙ p) _ refl))

-- ---- a holder's call, and any

module _ (f : Layout) (l : List ℕ) (i x : ℤ) (l' : List ℕ) where
  pub by-settled : (h : ℕ) (c : rules.Call) → known h ≡ true → Settles f c (asked (images f []) h c (holding_in l)) l i x l' → Settles f c (step (images f []) (By h c) (holding_in l)) l i x l'
  by-settled h c t s = same-settled f c _ _ l i x l' (by-holder f l (holding_in l) h c t) s

  pub not_known : (h : ℕ) (c : rules.Call) → known h ≡ false → Settles f c (step (images f []) (By h c) (holding_in l)) l i (negsuc 3) l
  not_known h c t = unsettled f c _ l i (negsuc 3) refl (no-holder f l (holding_in l) h c t)
