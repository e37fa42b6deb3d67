-- Registers that are not refused name a top table that is not too large, by computation over every T0SZ and every SL0. Assumes nothing.
use mathlib.Core.Path.{◌≡◌, refl, sym, ◌∙◌, ap}
use mathlib.Core.Bool.{Bool, true, false, not, cond, ◌&&◌, ◌||◌}
use Prim.Native.Nat.{ℕ, suc, ◌+◌, ◌-◌, ◌*◌, ◌/◌, ◌%◌, ◌^◌, ◌≤◌, ◌<◌}
use native.Mathlib.Omega.{arith}
use native.Mathlib.Nat.{mod-lt, mod-eq_of_lt, one-mul}
use lib.Dec.{T, leb, ltb, eqb, leb→le, eqb→eq, lit<}
use borrow.Author.Tests.{lt-ltb, le-ltb, ltb-false}
use Rattle.rules_laws.proofs.Lists.{and_l, and_r}
use Rattle.mapper_rules.specs.Walk.{span, top_height, top_table, sl0, t0sz}
use Rattle.mapper_rules.specs.Numbers.{bad_level_lem, top_entries, top_bytes_lem, bad_registers_lem, output_top}
use Rattle.mapper_laws.proofs.Registers.{every, of_fields, entries, sized}
use Rattle.mapper_laws.proofs.Tests.{not-or-l}
use Rattle.mapper_lies.specs.Lies.{top_of, top_byte_lem}

-- by SL0 and T0SZ
abbrev less : ℕ → ℕ → ℕ
less sl t = t + 9 * sl

abbrev small : ℕ → ℕ → Bool
small sl t =
    leb (less sl t) 42
    && (eqb (entries sl t) (2 ^ (43 - less sl t))
    && (leb sl 2
    && (leb (sized sl t) 65536
    && (leb (entries sl t) 8192 && leb (entries sl t * span (suc sl)) (2 ^ 48)))))

all_small : T (every 4 (λ sl. every 64 (λ t. bad_level_lem sl t || small sl t)))
unfolding every bad_level_lem span
all_small = tt

right : (a b : Bool) → T (a || b) → T (not a) → T b
right true b t s = absurd s
right false b t s = t

pub record Small (vttbr vtcr : ℕ) : Type 0 where
  pub shift : t0sz vtcr + 9 * sl0 vtcr ≤ 42
  pub entries-are : top_entries vtcr ≡ 2 ^ (43 - (t0sz vtcr + 9 * sl0 vtcr))
  pub few : top_entries vtcr ≤ 8192
  pub level : top_height vtcr ≤ 3
  pub inputs : top_entries vtcr * span (top_height vtcr) ≤ 2 ^ 48
  pub pages : (top_of vttbr vtcr).page + (top_of vttbr vtcr).pages ≤ 2 ^ 40
  pub words : (top_of vttbr vtcr).word + (top_of vttbr vtcr).entries ≤ 2 ^ 50

pub small_top : (vttbr vtcr : ℕ) → T (not (bad_registers_lem vttbr vtcr)) → Small vttbr vtcr
unfolding bad_registers_lem top_bytes_lem
small_top vttbr vtcr good =
    let sl = sl0 vtcr in
    let t = t0sz vtcr in
    let g = right (bad_level_lem sl t) (small sl t) (of_fields (λ sl t. bad_level_lem sl t || small sl t) all_small vtcr) (not-or-l (bad_level_lem sl t) (not (eqb (top_table vttbr % sized sl t) 0)) good) in
    let a = leb (less sl t) 42 in
    let b = eqb (entries sl t) (2 ^ (43 - less sl t)) in
    let c = leb sl 2 in
    let d = leb (sized sl t) 65536 in
    let e = leb (entries sl t) 8192 in
    let f = leb (entries sl t * span (suc sl)) (2 ^ 48) in
    let g1 = and_r a (b && (c && (d && (e && f)))) g in
    let g2 = and_r b (c && (d && (e && f))) g1 in
    let g3 = and_r c (d && (e && f)) g2 in
    let g4 = and_r d (e && f) g3 in
    let low = leb→le sl 2 (and_l c (d && (e && f)) g2) in
    let few = leb→le (entries sl t) 8192 (and_l e f g4) in
    let bytes = leb→le (sized sl t) 65536 (and_l d (e && f) g3) in
    let table : top_table vttbr < 2 ^ 48 = let m : vttbr / 2 % 2 ^ 47 < 2 ^ 47 = mod-lt (vttbr / 2) (lit< tt) in omega arith in
    record {
      shift = leb→le (less sl t) 42 (and_l a (b && (c && (d && (e && f)))) g);
      entries-are = eqb→eq (entries sl t) (2 ^ (43 - less sl t)) (and_l b (c && (d && (e && f))) g1);
      few = few;
      level = omega arith;
      inputs = leb→le (entries sl t * span (suc sl)) (2 ^ 48) (and_r e f g4);
      pages = omega arith;
      words = omega arith;
    }

-- as the code has it
pub is-top : (vttbr vtcr : ℕ) → T (not (bad_registers_lem vttbr vtcr)) → (b : ℕ) → b ≡ top_bytes_lem vtcr
    → record {
      page = top_table vttbr / 4096;
      pages = b / 4096;
      word = top_table vttbr / 8;
      entries = 1 * 2 ^ (43 - (t0sz vtcr + 9 * sl0 vtcr)) % 2 ^ 64;
      height = sl0 vtcr + 1;
    } ≡ top_of vttbr vtcr
is-top vttbr vtcr good b e = λ k. record {
  page = top_table vttbr / 4096;
  pages = e k / 4096;
  word = top_table vttbr / 8;
  entries = many k;
  height = higher k;
}
  where
    s : Small vttbr vtcr
    s = small_top vttbr vtcr good

    higher : sl0 vtcr + 1 ≡ top_height vtcr
    higher = omega arith

    many : 1 * 2 ^ (43 - (t0sz vtcr + 9 * sl0 vtcr)) % 2 ^ 64 ≡ top_entries vtcr
    many = ap (λ (x : ℕ). x % 2 ^ 64) (one-mul (2 ^ (43 - (t0sz vtcr + 9 * sl0 vtcr))) ∙ sym s.entries-are) ∙ mod-eq_of_lt (let f = s.few in omega arith)

-- ---- the end of the arena

pub past_top : (base n : ℕ) → base ≤ 2 ^ 48 → (2 ^ 48 - base) / 8 < n → 2 ^ 48 ≡ top_byte_lem base n
unfolding top_byte_lem
past_top base n low l = rw (lt-ltb output_top (base + 8 * n) (omega arith))

pub below_top : (base n : ℕ) → base ≤ 2 ^ 48 → n ≤ (2 ^ 48 - base) / 8 → base + 8 * n ≡ top_byte_lem base n
unfolding top_byte_lem
below_top base n low l = rw (le-ltb output_top (base + 8 * n) (omega arith))

pub in_order : (base n : ℕ) → base ≤ 2 ^ 48 → (base ≤ top_byte_lem base n) × (top_byte_lem base n ≤ 2 ^ 48)
unfolding top_byte_lem
in_order base n low = go (ltb output_top (base + 8 * n)) refl
  where
    go : (c : Bool) → ltb output_top (base + 8 * n) ≡ c → (base ≤ cond c output_top (base + 8 * n)) × (cond c output_top (base + 8 * n) ≤ 2 ^ 48)
    go true e = (low, omega arith)
    go false e = (omega arith, ltb-false output_top (base + 8 * n) e)
