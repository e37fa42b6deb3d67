-- The document's words on list numbers, rounding, the widened reserve and used records, as facts of the definitions. Assumes nothing.
use mathlib.Core.Path.{◌≡◌, refl, sym, ◌∙◌, ap, subst}
use mathlib.Core.Logic.{◌≢◌, inl, inr, ◌↔◌}
use mathlib.Core.Bool.{Bool}
use mathlib.Core.List.{[], ◌∷◌, map}
use Prim.Native.Nat.{ℕ, zero, suc, ◌+◌, ◌-◌, ◌*◌, ◌/◌, ◌^◌, ◌≤◌, ◌<◌}
use native.Mathlib.Omega.{arith}
use native.Mathlib.Nat.{div-add-mod', mod-lt, div-lt_iff_lt-mul, mul-le-mul_right, pow-le-pow_right}
use lib.Pow.{pow_pos, pow-add}
use lib.Dec.{T, leb, ltb, eqb, leb→le, nleb→lt, ltb→lt, nltb→le, eqb→eq, eqb_refl, lit≤}
use Rattle.rules.specs.Rules.{top, size_lists, Range, Book, total, any, find, least, list_number, down, up, unused, full, contains, Answer, refuse, refused, reserve_from, reserve}
use Rattle.rules.specs.Sound.{In}
use Rattle.rules_laws.proofs.Lists.{if, T-no, T-or-not, T_true, neq, any→, any←, named, lowest-least}
use Rattle.rules_laws.proofs.Outcomes.{down_le, le_up}
use Rattle.rules_laws.proofs.HandBack.{pass}

-- ---- list numbers

-- document 01's figures
pub list-numbers : map list_number (1 ∷ 4096 ∷ 4097 ∷ 8192 ∷ 4194304 ∷ 4194305 ∷ 9223372036854775808 ∷ []) ≡ 0 ∷ 0 ∷ 1 ∷ 1 ∷ 10 ∷ 11 ∷ 11 ∷ []
unfolding list_number least
list-numbers = refl

pub least_fits : (k j z : ℕ) → least k j z < j + k → z ≤ 4096 * 2 ^ least k j z
unfolding least
least_fits zero j z = λ h. absurd (omega arith)
least_fits (suc k) j z = if (leb z (4096 * 2 ^ j)) (λ x. x < j + suc k → z ≤ 4096 * 2 ^ x) (λ t h. leb→le z (4096 * 2 ^ j) t) (λ t h. least_fits k (suc j) z (omega arith))

pub least-no-less : (k j z i : ℕ) → j ≤ i → i < least k j z → 4096 * 2 ^ i < z
unfolding least
least-no-less zero j z i h = λ g. absurd (omega arith)
least-no-less (suc k) j z i h = if (leb z (4096 * 2 ^ j)) (λ x. i < x → 4096 * 2 ^ i < z) (λ t g. absurd (omega arith))
    (λ t g. elim (T-or-not (eqb j i)) [
      | inl e ↦ subst (λ (y : ℕ). 4096 * 2 ^ y < z) (eqb→eq j i e) (nleb→lt z (4096 * 2 ^ j) t)
      | inr e ↦ let d = neq j i e in least-no-less k (suc j) z i (omega arith) g
    ])

-- the least k from 0 with size <= 4096 * 2^k, but never above the last list
pub list-number-fits : (z : ℕ) → list_number z < size_lists - 1 → z ≤ 4096 * 2 ^ list_number z
unfolding list_number
list-number-fits z h = least_fits (size_lists - 1) 0 z h

pub list-number-least : (z i : ℕ) → i < list_number z → 4096 * 2 ^ i < z
unfolding list_number
list-number-least z i h = least-no-less (size_lists - 1) 0 z i (omega arith) h

-- both at once: the number is k or less exactly where the size is within list k's
pub list-number-within : (z k : ℕ) → k < size_lists - 1 → (list_number z ≤ k) ↔ (z ≤ 4096 * 2 ^ k)
list-number-within z k h = (
  λ g. elim (T-or-not (eqb (list_number z) k)) [
    | inl e ↦ let q = eqb→eq (list_number z) k e in subst (λ (i : ℕ). z ≤ 4096 * 2 ^ i) q (list-number-fits z (omega arith))
    | inr e ↦ let d = neq (list_number z) k e in
        let p : 2 ^ list_number z ≤ 2 ^ k = pow-le-pow_right {n = 2} (lit≤ tt) {i = list_number z} {j = k} g in
        let f = list-number-fits z (omega arith) in omega arith
  ],
  λ g. elim (T-or-not (leb (list_number z) k)) [
    | inl t ↦ leb→le (list_number z) k t
    | inr t ↦ absurd (let f = list-number-least z k (nleb→lt (list_number z) k t) in let x : ⊥ = omega arith in x)
  ],
)

-- ---- rounding: the nearest multiple of 2 ^ o on either side

pub down-near : (o x : ℕ) → x < down o x + 2 ^ o
unfolding down
down-near o x = omega (arith, div-add-mod' x (2 ^ o), mod-lt x (pow_pos o))

pub up-near : (o x : ℕ) → up o x < x + 2 ^ o
unfolding up
up-near o x = omega (arith, div-add-mod' (x + (2 ^ o - 1)) (2 ^ o), pow_pos o)

-- a multiple of 2 ^ o at or past x is at or past up o x
pub up_least : (o x m : ℕ) → x ≤ m * 2 ^ o → up o x ≤ m * 2 ^ o
unfolding up
up_least o x m h = mul-le-mul_right (2 ^ o) (let q : (x + (2 ^ o - 1)) / 2 ^ o < suc m = (div-lt_iff_lt-mul (pow_pos o)).1 (omega (arith, pow_pos o)) in omega arith)

pub up-zero : (o : ℕ) → up o 0 ≡ 0
up-zero o = omega (arith, up_least o 0 0 (omega arith))

pub up_top : (o x : ℕ) → o ≤ 63 → x ≤ top → up o x ≤ top
up_top o x h g =
    let e : 2 ^ (63 - o) * 2 ^ o ≡ top = sym (pow-add 2 (63 - o) o) ∙ ap (λ (k : ℕ). 2 ^ k) (let k : (63 - o) + o ≡ 63 = omega arith in k) in
    subst (λ (y : ℕ). up o x ≤ y) e (up_least o x (2 ^ (63 - o)) (subst (λ (y : ℕ). x ≤ y) (sym e) g))

-- ---- a reserve with an order is the plain reserve of the widened range

pub down-plain : (x : ℕ) → down 0 x ≡ x
unfolding down
down-plain x = omega arith

pub up-plain : (x : ℕ) → up 0 x ≡ x
unfolding up
up-plain x = omega arith

hit : (q : Bool) (k : ℕ) (b : Book) (w : Answer) → T q → refuse q k b w ≡ refused k b
unfolding refuse
hit q k b w h = rw (T_true q h)

-- the lines below the first four
abbrev core : ℕ → Book → ℕ → ℕ → Answer
core n b a t = refuse (ltb (total b) (t - a)) 3 b (reserve_from n a t b (find (contains a t) b.chain))

past-four : (n s z o : ℕ) (b : Book) → z ≢ 0 → o ≤ 63 → z ≤ total b → s + z ≤ top → reserve n s z o b ≡ core n b (down o s) (up o (s + z))
unfolding reserve
past-four n s z o b h g j i =
    pass (eqb z 0) 4 b _ (λ t. h (eqb→eq z 0 t))
    ∙ (pass (ltb 63 o) 4 b _ (λ t. omega (arith, ltb→lt 63 o t))
    ∙ (pass (ltb (total b) z) 3 b _ (λ t. omega (arith, ltb→lt (total b) z t))
    ∙ pass (ltb top (s + z)) 4 b _ (λ t. omega (arith, ltb→lt top (s + z) t))))

pub widened : (n s z o : ℕ) (b : Book) → z ≢ 0 → o ≤ 63 → z ≤ total b → s + z ≤ top → reserve n s z o b ≡ reserve n (down o s) (up o (s + z) - down o s) 0 b
unfolding reserve
widened n s z o b h g j i =
    let a = down o s in let t = up o (s + z) in let lo = down_le o s in let hi = le_up o (s + z) in
    let some_byte : t - a ≢ 0 = omega arith in let end : a + (t - a) ≡ t = omega arith in let high : t ≤ top = up_top o (s + z) g i in
    past-four n s z o b h g j i ∙ elim (T-or-not (ltb (total b) (t - a))) [
      | inl y ↦ hit (ltb (total b) (t - a)) 3 b _ y ∙ sym (
          pass (eqb (t - a) 0) 4 b _ (λ e. some_byte (eqb→eq (t - a) 0 e))
          ∙ (pass (ltb 63 0) 4 b _ (λ e. e) ∙ hit (ltb (total b) (t - a)) 3 b _ y))
      | inr y ↦ sym (past-four n a (t - a) 0 b some_byte (omega arith) (nltb→le (total b) (t - a) y) (omega arith)
          ∙ (ap (λ (x : ℕ). core n b x (up 0 (a + (t - a)))) (down-plain a) ∙ ap (λ (x : ℕ). core n b a x) (up-plain (a + (t - a)) ∙ end)))
    ]

-- ---- all records are used

pub full-uses : (n : ℕ) (b : Book) → T (full n b) → (k : ℕ) → k < n → (q : Range) × In q b.chain × (k ≡ q.number)
unfolding unused
full-uses n b t k h = elim (T-or-not (any (named k) b.chain)) [
  | inl y ↦ let w = any→ (named k) b.chain y in (w.0, w.1, eqb→eq k w.0.number w.2)
  | inr y ↦ absurd (omega (
    arith,
    leb→le n (unused n b) t,
    lowest-least n 0 k b.chain (omega arith)
        (λ q i e. T-no (any (named k) b.chain) y (any← (named k) b.chain q i (subst (λ (x : ℕ). T (eqb k x)) e (eqb_refl k)))),
  ))
]
