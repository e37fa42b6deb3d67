-- The C calls from an empty image on are the register's calls above the allocator's C calls. Assumes nothing.
use Prim.Native.Nat.{ℕ, zero, suc, ◌^◌, ◌<◌}
use mathlib.Core.Bool.{Bool, true, false}
use mathlib.Core.List.{List, [], ◌∷◌}
use mathlib.Core.Path.{◌≡◌, refl, ap, ◌∙◌}
use native.Mathlib.Omega.{arith}
use lib.Dec.{eqb}
use lib.ListN.{length, get_or, length-drop}
use borrow.Author.Tests.{eq-eqb, ne_eqb, eqb-true}
use Rattle.rules.specs.Rules.{Free, Allocate, Reserve}
use Rattle.rules_laws.proofs.Lists.{T_true}
use Rattle.rules_engine.specs.Engine.{Engine}
use Rattle.image_parts.specs.Layout.{Layout, Figured, length_size, image_size_lem}
use Rattle.image_parts.proofs.Loops as loops
use Rattle.image_reading.specs.Reading.{framed, readable}
use Rattle.image.specs.Writing.{Image}
use Rattle.image.specs.Reading.{reading_of}
use Rattle.image.proofs.Rounds.{image-accepted}
use Rattle.c_over.specs.CCalls.{Returned}
use Rattle.c_over.specs.Images.{images}
use Rattle.c_over.proofs.Demand.{obeys}
use Rattle.holder_rules.specs.Register.{entries, blank, blanks}
use Rattle.holder_rules.specs.Holders.{Holding, both, nothing, Answer, offer, give_back_lem, take, asked, Call, Offer, By, step, voucher, run, trail}
use Rattle.holder_rules.specs.Sound.{register_sound}
use Rattle.holder_laws.proofs.Demand as laws
use Rattle.holder_laws.proofs.Outcomes.{Kept, Comes, refusal, offers, gives_back, takes, comes}
use Rattle.holder_laws.proofs.Keeps.{step_keeps}
use Rattle.holder_laws.proofs.Entries.{length-replace}
use Rattle.holder_check.proofs.Exact.{sound←}
use Rattle.holder_image.specs.Layout.{memory_at, whole_size, rest_of}
use Rattle.holder_image.specs.Bytes.{bytes_of_lem, memory_in, register_in_lem, holding_in, headed}
use Rattle.holder_image.proofs.Fitting.{sound-fits}
use Rattle.holder_image.proofs.Rounds.{Fits, holding-back, memory-back, register-back, headed-back}
use Rattle.holder_calls.specs.Calls.{finished, sound_in_lem, over, call_over_lem, new_over}
use Rattle.holder_calls.specs.Doors.{after, voucher_from, vouchers, AtDoor}

-- what an engine begins with is not looked at
same_step : (f : Layout) (l m : List ℕ) (c : Call) (k : Holding (List ℕ)) → step (images f l) c k ≡ step (images f m) c k
unfolding step offer asked give_back_lem take
same_step f l m (Offer s z) k = refl
same_step f l m (By h (Free s z)) k = refl
same_step f l m (By h (Allocate z o)) k = refl
same_step f l m (By h (Reserve s z o)) k = refl

-- ---- the register keeps its entries

length-blanks : (m : ℕ) → length (blanks m) ≡ m
unfolding blanks
length-blanks zero = refl
length-blanks (suc m) = ap suc (length-blanks m)

-- an image has its length
read_length : (f : Layout) (m : List ℕ) → (reading_of f m).number ≡ 0 → length m ≡ image_size_lem f
unfolding reading_of framed
read_length f m e = eqb-true (length m) (image_size_lem f) (loops.both (eqb (length m) (image_size_lem f)) _ (loops.both (framed f m) _ (go (readable f m) refl e)).0).0
  where
    go : (b : Bool) → readable f m ≡ b → (reading_of f m).number ≡ 0 → readable f m ≡ true
    go true d e = d
    go false d e = absurd (let n : (reading_of f m).number ≡ 2 = rw d in let v : ⊥ = omega arith in v)

module _ (f : Layout) (full : Figured f) (small : rest_of f < 256 ^ length_size) (l : List ℕ) (sized : length l ≡ image_size_lem f) where
  abbrev e : Engine
  e = images f l

  -- one call, on the image of a sound holding
  module _ (k : Holding (List ℕ)) (κ : Kept (obeys f full l sized) k) (len : length k.register ≡ entries) where
    image : Image f k.memory
    image = (obeys f full l sized).sound κ.book k.memory κ.good κ.of

    reads : (reading_of f k.memory).number ≡ 0
    reads = image-accepted f full.lawful k.memory image

    fits : (i : ℕ) → i < entries → Fits (get_or k.register i blank)
    fits i b = sound-fits k.register κ.register.sound i (omega arith)

    back : holding_in (bytes_of_lem f k) ≡ k
    back = holding-back f k.register k.memory len fits

    is-sound : sound_in_lem f k.memory k.register ≡ true
    unfolding sound_in_lem
    is-sound =
        let s = T_true (register_sound κ.book.chain k.register) (sound← κ.book.chain k.register κ.register) in
        let c = (obeys f full l sized).shows κ.book k.memory κ.good κ.of in
        rw (eq-eqb (reading_of f k.memory).number 0 reads, c) s

    serves-it : (headed f (bytes_of_lem f k) ≡ true) × (sound_in_lem f (memory_in (bytes_of_lem f k)) (register_in_lem (bytes_of_lem f k)) ≡ true)
    serves-it = (
      headed-back f k.register k.memory (read_length f k.memory reads) small,
      (let p = memory-back f k.register k.memory in let q = register-back f k.register k.memory len fits in (λ i. sound_in_lem f (p i) (q i))) ∙ is-sound,
    )

    called : (c : Call) → call_over_lem f c (bytes_of_lem f k) ≡ finished f (step e c k) (bytes_of_lem f k)
    unfolding call_over_lem over
    called c = rw (serves-it.0, serves-it.1) (ap (λ (h : Holding (List ℕ)). finished f (step (images f []) c h) (bytes_of_lem f k)) back ∙ ap (λ (w : Answer (List ℕ)). finished f w (bytes_of_lem f k)) (same_step f [] l c k))

    -- what it returns is its number and address, and it leaves the image of what it left
    returns : (c : Call) (w : Answer (List ℕ)) → Comes (obeys f full l sized) k κ.book c w
        → (voucher_from c (finished f w (bytes_of_lem f k)).number ≡ voucher c w) × ((finished f w (bytes_of_lem f k)).bytes ≡ bytes_of_lem f w.holding) × (length w.holding.register ≡ entries)
    unfolding finished
    returns c _ (refusal _ zero d) = absurd (d refl)
    returns c _ (refusal _ (suc j) d) = (rw (ne_eqb (suc j) 0 d), rw (ne_eqb (suc j) 0 d), len)
    returns _ _ (offers s z a t) = (refl, refl, len)
    returns _ _ (gives_back h s z t a u) = (refl, refl, length-replace _ _ k.register ∙ len)
    returns _ _ (takes h c x r t n a y u) = (refl, refl, length-replace _ _ k.register ∙ len)

    told : (c : Call) → (voucher_from c (call_over_lem f c (bytes_of_lem f k)).number ≡ voucher c (step e c k)) × ((call_over_lem f c (bytes_of_lem f k)).bytes ≡ bytes_of_lem f (step e c k).holding) × (length (step e c k).holding.register ≡ entries)
    told c =
        let r = returns c (step e c k) (comes (obeys f full l sized) k κ c) in
        (ap (λ (x : Returned). voucher_from c x.number) (called c) ∙ r.0, ap (λ (x : Returned). x.bytes) (called c) ∙ r.1, r.2)

  left_is : (k : Holding (List ℕ)) → Kept (obeys f full l sized) k → length k.register ≡ entries → (cs : List Call) → after f (bytes_of_lem f k) cs ≡ bytes_of_lem f (run e k cs)
  unfolding after run
  left_is k κ n [] = refl
  left_is k κ n (c ∷ cs) = let t = told k κ n c in ap (λ (x : List ℕ). after f x cs) t.1 ∙ left_is (step e c k).holding (step_keeps (obeys f full l sized) c k κ) t.2 cs

  kept-is : (k : Holding (List ℕ)) → Kept (obeys f full l sized) k → length k.register ≡ entries → (cs : List Call) → vouchers f (bytes_of_lem f k) cs ≡ trail e k cs
  unfolding vouchers trail
  kept-is k κ n [] = refl
  kept-is k κ n (c ∷ cs) =
      let t = told k κ n c in
      let first = t.0 in
      let others = ap (λ (x : List ℕ). vouchers f x cs) t.1 ∙ kept-is (step e c k).holding (step_keeps (obeys f full l sized) c k κ) t.2 cs in
      (λ i. first i ∷ others i)

-- Demands 2 and 3 of the C calls, from what the call that begins an image leaves of any bytes of its length.
pub at-door : (f : Layout) (full : Figured f) → rest_of f < 256 ^ length_size → (l : List ℕ) → length l ≡ whole_size f → AtDoor f l
unfolding new_over
at-door f full small l h =
    let sized : length (memory_in l) ≡ image_size_lem f = length-drop memory_at l ∙ omega arith in
    let o = obeys f full (memory_in l) sized in
    let new : (new_over f l).bytes ≡ bytes_of_lem f (nothing (images f (memory_in l)) entries) = rw (eq-eqb (length l) (whole_size f) h) in
    record {
      left = λ cs. ap (λ (x : List ℕ). after f x cs) new ∙ left_is f full small (memory_in l) sized (nothing (images f (memory_in l)) entries) (laws.nothing-kept o entries) (length-blanks entries) cs;
      kept = λ cs. ap (λ (x : List ℕ). vouchers f x cs) new ∙ kept-is f full small (memory_in l) sized (nothing (images f (memory_in l)) entries) (laws.nothing-kept o entries) (length-blanks entries) cs;
      demand = laws.demand o entries;
    }
