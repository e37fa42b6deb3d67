-- A leaf that the mapping writes is read as asked. Assumes nothing.
use mathlib.Core.Path.{◌≡◌, refl, sym, ◌∙◌, ap}
use mathlib.Core.Bool.{Bool, true, false, cond}
use Prim.Native.Nat.{ℕ, zero, suc, ◌+◌, ◌-◌, ◌*◌, ◌/◌, ◌%◌, ◌^◌, ◌≤◌, ◌<◌}
use native.Mathlib.Omega.{arith}
use native.Mathlib.Nat.{mul-add-mod_self_right, div-eq_of_lt, zero-mod, mod-eq_of_lt, mul_assoc, div-lt_iff_lt-mul}
use lib.Pow.{field}
use lib.Arith.{digits_div, digits_mod}
use lib.Dec.{lit<}
use Rattle.mapper_rules.specs.Walk.{bits, span, To, attributes_of, leaf}
use Rattle.mapper_laws.specs.declared.Mapping.{Mapping}
use Rattle.mapper_laws.specs.Mapping.{output_of, asked, asked_attributes, leaf_word_lem}
use Rattle.mapper_laws.proofs.Spans.{multiple}

-- bits that lie below the address are those of c
low-bits : (k c i n r : ℕ) → r * 2 ^ (n + i) ≡ 4096 → bits i n (k * 4096 + c) ≡ c % 2 ^ (n + i) / 2 ^ i
low-bits k c i n r e =
    sym (field (k * 4096 + c) n i)
    ∙ ap (λ (y : ℕ). y / 2 ^ i) (ap (λ (m : ℕ). (k * m + c) % 2 ^ (n + i)) (sym e)
    ∙ ap (λ (m : ℕ). (m + c) % 2 ^ (n + i)) (sym (mul_assoc k r (2 ^ (n + i)))) ∙ mul-add-mod_self_right (k * r) (2 ^ (n + i)) c)

-- those above it are clear
high_bits : (w i n : ℕ) → w < 2 ^ i → bits i n w ≡ 0
high_bits w i n h = ap (λ (y : ℕ). y % 2 ^ n) (div-eq_of_lt h) ∙ zero-mod (2 ^ n)

-- what is written below the address, for the permission p: AF, SH, S2AP, MemAttr, and the type
record Low (p c : ℕ) : Type 0 where
  mem_attr : c % 64 / 4 ≡ 15
  s2ap : c % 256 / 64 ≡ p
  sh : c % 1024 / 256 ≡ 3
  af : c % 2048 / 1024 ≡ 1
  fnxs : c % 4096 / 2048 ≡ 0
  small : c < 4096

attributes-asked : {p c : ℕ} (k : ℕ) → Low p c → k < 2 ^ 36 → attributes_of (k * 4096 + c) ≡ asked_attributes p
unfolding attributes_of
attributes-asked {p} {c} k l below =
    let a : bits 2 4 (k * 4096 + c) ≡ 15 = low-bits k c 2 4 64 refl ∙ l.mem_attr in
    let b : bits 6 2 (k * 4096 + c) ≡ p = low-bits k c 6 2 16 refl ∙ l.s2ap in
    let d : bits 8 2 (k * 4096 + c) ≡ 3 = low-bits k c 8 2 4 refl ∙ l.sh in
    let e : bits 10 1 (k * 4096 + c) ≡ 1 = low-bits k c 10 1 2 refl ∙ l.af in
    let f : bits 11 1 (k * 4096 + c) ≡ 0 = low-bits k c 11 1 1 refl ∙ l.fnxs in
    let s = l.small in
    let h50 = high_bits (k * 4096 + c) 50 1 (omega arith) in
    let h51 = high_bits (k * 4096 + c) 51 1 (omega arith) in
    let h52 = high_bits (k * 4096 + c) 52 1 (omega arith) in
    let h53 = high_bits (k * 4096 + c) 53 2 (omega arith) in
    let h55 = high_bits (k * 4096 + c) 55 4 (omega arith) in
    let h59 = high_bits (k * 4096 + c) 59 5 (omega arith) in
    cc

-- with the type t, 3 of a page or 1 of a block
low_of : (p : ℕ) (page : Bool) → p < 4 → Low p (64 * p + cond page 0x73f 0x73d)
low_of zero true h = record { mem_attr = refl; s2ap = refl; sh = refl; af = refl; fnxs = refl; small = lit< tt }
low_of zero false h = record { mem_attr = refl; s2ap = refl; sh = refl; af = refl; fnxs = refl; small = lit< tt }
low_of (suc zero) true h = record { mem_attr = refl; s2ap = refl; sh = refl; af = refl; fnxs = refl; small = lit< tt }
low_of (suc zero) false h = record { mem_attr = refl; s2ap = refl; sh = refl; af = refl; fnxs = refl; small = lit< tt }
low_of (suc (suc zero)) true h = record { mem_attr = refl; s2ap = refl; sh = refl; af = refl; fnxs = refl; small = lit< tt }
low_of (suc (suc zero)) false h = record { mem_attr = refl; s2ap = refl; sh = refl; af = refl; fnxs = refl; small = lit< tt }
low_of (suc (suc (suc zero))) true h = record { mem_attr = refl; s2ap = refl; sh = refl; af = refl; fnxs = refl; small = lit< tt }
low_of (suc (suc (suc zero))) false h = record { mem_attr = refl; s2ap = refl; sh = refl; af = refl; fnxs = refl; small = lit< tt }
low_of (suc (suc (suc (suc p)))) page h = absurd (omega arith)

-- an address that is a multiple of S, and the input's own bits
address_read : (S m M c u x : ℕ) → c < S → m < M → u * S ≤ x → x < u * S + S → (m * S + c) / S % M * S + x % S ≡ m * S + (x - u * S)
address_read S m M c u x small few low high =
    let a : (m * S + c) / S ≡ m = digits_div m small in
    let b : m % M ≡ m = mod-eq_of_lt few in
    let r : x - u * S < S = omega arith in
    let x' : u * S + (x - u * S) ≡ x = omega arith in
    let d : (u * S + (x - u * S)) % S ≡ x - u * S = digits_mod u r in
    rw (a, b, ← x') (ap (λ (y : ℕ). m * S + y) (d ∙ rw x'))

-- the entry at height h whose inputs begin at e is in the range, and one leaf serves it
pub record Serves (q : Mapping) (h e : ℕ) : Type 0 where
  pub block : h ≤ 2
  pub from : q.from ≤ e
  pub begins : e % span h ≡ 0
  pub aligned : output_of q e % span h ≡ 0
  pub in_memory : output_of q e + span h ≤ 2 ^ 48
  pub two-bits : q.permission < 4

-- S bytes in all, of which memory has M times as many
module _ (S M r : ℕ) (pages : S ≡ r * 4096) (memory : M * S ≡ 2 ^ 48) (some_byte : 0 < r) where
  leaf-read : (o e x p c : ℕ) → Low p c → o % S ≡ 0 → e % S ≡ 0 → o + S ≤ 2 ^ 48 → e ≤ x → x < e + S →
      To ((o + c) / S % M * S + x % S) (attributes_of (o + c)) ≡ To (o + (x - e)) (asked_attributes p)
  leaf-read o e x p c l aligned begins fits low high =
      let m = o / S in
      let u = e / S in
      let em = multiple o S aligned in
      let eu = multiple e S begins in
      let small = l.small in
      let pos : 0 < S = omega arith in
      let room : c < S = omega arith in
      let few : m < M = (div-lt_iff_lt-mul {k = S} {x = o} {y = M} pos).1 (omega arith) in
      let a = address_read S m M c u x room few (omega arith) (omega arith) in
      let k : (m * r) * 4096 ≡ o = mul_assoc m r 4096 ∙ ap (λ (y : ℕ). m * y) (sym pages) ∙ em in
      let b = attributes-asked (m * r) l (omega arith) in
      let a' : (o + c) / S % M * S + x % S ≡ o + (x - e) = rw (em, eu) at a in
      let b' : attributes_of (o + c) ≡ asked_attributes p = rw k at b in
      cc

pub leaf-asked : (q : Mapping) (h e x : ℕ) → Serves q h e → e ≤ x → x < e + span h → leaf h (leaf_word_lem q h e) x ≡ asked q x
unfolding leaf span
leaf-asked q zero e x s low high =
    leaf-read 4096 (2 ^ 36) 1 refl refl (lit< tt) (output_of q e) e x q.permission _ (low_of q.permission true s.two-bits) s.aligned s.begins s.in_memory low high
    ∙ ap (λ (y : ℕ). To y (asked_attributes q.permission)) (let f = s.from in omega arith)
leaf-asked q (suc zero) e x s low high =
    leaf-read (2 ^ 21) (2 ^ 27) 512 refl refl (lit< tt) (output_of q e) e x q.permission _ (low_of q.permission false s.two-bits) s.aligned s.begins s.in_memory low high
    ∙ ap (λ (y : ℕ). To y (asked_attributes q.permission)) (let f = s.from in omega arith)
leaf-asked q (suc (suc zero)) e x s low high =
    leaf-read (2 ^ 30) (2 ^ 18) 262144 refl refl (lit< tt) (output_of q e) e x q.permission _ (low_of q.permission false s.two-bits) s.aligned s.begins s.in_memory low high
    ∙ ap (λ (y : ℕ). To y (asked_attributes q.permission)) (let f = s.from in omega arith)
leaf-asked q (suc (suc (suc h))) e x s low high = absurd (let b = s.block in omega arith)
