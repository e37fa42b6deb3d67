-- What registers that are not refused come to, by computation over every T0SZ and every SL0. Assumes nothing.
use mathlib.Core.Path.{◌≡◌, sym, ◌∙◌, ap}
use mathlib.Core.Logic.{inl, inr}
use mathlib.Core.Bool.{Bool, true, false, not, cond, ◌&&◌, ◌||◌}
use Prim.Native.Nat.{ℕ, zero, suc, ◌-◌, ◌*◌, ◌/◌, ◌%◌, ◌^◌, ◌≤◌, ◌<◌}
use native.Mathlib.Omega.{arith}
use native.Mathlib.Nat.{mod-lt, mul-mod_left, mul_assoc}
use lib.Dec.{T, leb, ltb, eqb, leb→le, eqb→eq, lit<}
use Rattle.rules_laws.proofs.Lists.{and_l, and_r, T-or-not, neq}
use Rattle.mapper_rules.specs.Walk.{span, input_top, top_height, top_table, sl0, t0sz}
use Rattle.mapper_rules.specs.Numbers.{bad_level_lem, top_entries, top_bytes_lem, bad_registers_lem}
use Rattle.mapper_laws.proofs.Spans.{multiple}
use Rattle.mapper_laws.proofs.Tests.{not-or-l, not-or-r, not-not}

-- the test holds of all numbers below n
unfoldable pub every : ℕ → (ℕ → Bool) → Bool
every zero f = true
every (suc n) f = f n && every n f

pub of-every : (n : ℕ) (f : ℕ → Bool) → T (every n f) → (j : ℕ) → j < n → T (f j)
unfolding every
of-every zero f t j h = absurd (let z : ⊥ = omega arith in z)
of-every (suc n) f t j h = elim (T-or-not (eqb j n)) [
  | inl e ↦ rw (eqb→eq j n e) (and_l (f n) (every n f) t)
  | inr e ↦ let d = neq j n e in of-every n f (and_r (f n) (every n f) t) j (omega arith)
]

-- of the registers' two fields: a test that holds of all their values holds of each VTCR_EL2
pub of_fields : (f : ℕ → ℕ → Bool) → T (every 4 (λ sl. every 64 (f sl))) → (vtcr : ℕ) → T (f (sl0 vtcr) (t0sz vtcr))
of_fields f all vtcr =
    let l : sl0 vtcr < 4 = mod-lt (vtcr / 64) (lit< tt) in
    let r : t0sz vtcr < 64 = mod-lt vtcr (lit< tt) in
    of-every 64 (f (sl0 vtcr)) (of-every 4 (λ sl. every 64 (f sl)) all (sl0 vtcr) l) (t0sz vtcr) r

-- by SL0 and T0SZ: the entries of the top table, and its bytes
abbrev pub entries : ℕ → ℕ → ℕ
entries sl t = 2 ^ (64 - t) / span (suc sl)

abbrev pub sized : ℕ → ℕ → ℕ
sized sl t = cond (ltb (8 * entries sl t) 4096) 4096 (8 * entries sl t)

-- the inputs are those of whole entries; the table is whole pages; and it has all its entries
abbrev exact : ℕ → ℕ → Bool
exact sl t = eqb (entries sl t * span (suc sl)) (2 ^ (64 - t)) && (eqb (sized sl t % 4096) 0 && leb (8 * entries sl t) (sized sl t))

all-exact : T (every 4 (λ sl. every 64 (λ t. bad_level_lem sl t || exact sl t)))
unfolding every bad_level_lem span
all-exact = tt

right : (a b : Bool) → T (a || b) → T (not a) → T b
right true b t s = absurd s
right false b t s = t

pub record Top (vttbr vtcr : ℕ) : Type 0 where
  pub inputs : top_entries vtcr * span (top_height vtcr) ≡ input_top vtcr
  pub pages : top_bytes_lem vtcr % 4096 ≡ 0
  pub holds : 8 * top_entries vtcr ≤ top_bytes_lem vtcr
  pub begins : top_table vttbr % 4096 ≡ 0

-- a multiple of a multiple
twice : (a b m : ℕ) → a % b ≡ 0 → b % m ≡ 0 → a % m ≡ 0
twice a b m e f =
    ap (λ (y : ℕ). y % m) (sym (multiple a b e) ∙ ap (λ (y : ℕ). a / b * y) (sym (multiple b m f)) ∙ sym (mul_assoc (a / b) (b / m) m)) ∙ mul-mod_left (a / b * (b / m)) m

pub top-of : (vttbr vtcr : ℕ) → T (not (bad_registers_lem vttbr vtcr)) → Top vttbr vtcr
unfolding bad_registers_lem top_bytes_lem
top-of vttbr vtcr good =
    let sl = sl0 vtcr in
    let t = t0sz vtcr in
    let aligned = not (eqb (top_table vttbr % sized sl t) 0) in
    let g = right (bad_level_lem sl t) (exact sl t) (of_fields (λ sl t. bad_level_lem sl t || exact sl t) all-exact vtcr) (not-or-l (bad_level_lem sl t) aligned good) in
    let a = eqb (entries sl t * span (suc sl)) (2 ^ (64 - t)) in
    let b = eqb (sized sl t % 4096) 0 in
    let d = leb (8 * entries sl t) (sized sl t) in
    let whole = eqb→eq (sized sl t % 4096) 0 (and_l b d (and_r a (b && d) g)) in
    record {
      inputs = eqb→eq (entries sl t * span (suc sl)) (2 ^ (64 - t)) (and_l a (b && d) g);
      pages = whole;
      holds = leb→le (8 * entries sl t) (sized sl t) (and_r b d (and_r a (b && d) g));
      begins = twice (top_table vttbr) (sized sl t) 4096
          (eqb→eq (top_table vttbr % sized sl t) 0 (not-not (eqb (top_table vttbr % sized sl t) 0) (not-or-r (bad_level_lem sl t) aligned good))) whole;
    }
