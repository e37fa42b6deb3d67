-- Numbers that are not refused are those that the promise asks for. Assumes nothing.
use mathlib.Core.Bool.{Bool, true, false, not, ◌||◌}
use Prim.Native.Nat.{ℕ, ◌+◌, ◌%◌, ◌≤◌, ◌<◌}
use native.Mathlib.Omega.{arith}
use lib.Dec.{T, ltb, eqb, eqb→eq, nltb→le, lit<}
use Rattle.rules_laws.proofs.Lists.{neq}
use Rattle.mapper_rules.specs.Walk.{input_top}
use Rattle.mapper_rules.specs.Numbers.{unaligned, output_top, bad_registers_lem, bad_range_lem, bad_numbers_lem}
use Rattle.mapper_laws.specs.Mapping.{permission_of_lem, mapping_of, Sane}
use Rattle.mapper_laws.proofs.Tests.{not-or-l, not-or-r, not-not}

two-bits : (readable writable : Bool) → permission_of_lem readable writable < 4
unfolding permission_of_lem
two-bits true true = lit< tt
two-bits true false = lit< tt
two-bits false true = lit< tt
two-bits false false = lit< tt

pub record Asked (vttbr vtcr output input size : ℕ) (readable writable : Bool) : Type 0 where
  pub registers : T (not (bad_registers_lem vttbr vtcr))
  pub sane : Sane (mapping_of output input size readable writable)
  pub inside : input + size ≤ input_top vtcr
  pub some : 0 < size

module _ (base vttbr vtcr output input size : ℕ) (readable writable : Bool) where
  pub asked : T (not (bad_numbers_lem base vttbr vtcr output input size)) → Asked vttbr vtcr output input size readable writable
  unfolding bad_numbers_lem bad_range_lem
  asked good =
      let z = eqb size 0 in
      let s = unaligned size in
      let o = unaligned output in
      let i = unaligned input in
      let high = ltb output_top (output + size) in
      let past = ltb (input_top vtcr) (input + size) in
      let range = not-or-r (unaligned base) (bad_range_lem vtcr output input size) (not-or-r (bad_registers_lem vttbr vtcr) (unaligned base || bad_range_lem vtcr output input size) good) in
      let after-z = not-or-r z (s || (o || (i || (high || past)))) range in
      let after-s = not-or-r s (o || (i || (high || past))) after-z in
      let after-o = not-or-r o (i || (high || past)) after-s in
      let after-i = not-or-r i (high || past) after-o in
      let es = eqb→eq (size % 4096) 0 (not-not (eqb (size % 4096) 0) (not-or-l s (o || (i || (high || past))) after-z)) in
      let eo = eqb→eq (output % 4096) 0 (not-not (eqb (output % 4096) 0) (not-or-l o (i || (high || past)) after-s)) in
      let ei = eqb→eq (input % 4096) 0 (not-not (eqb (input % 4096) 0) (not-or-l i (high || past) after-o)) in
      let below = nltb→le output_top (output + size) (not-or-l high past after-i) in
      let none = neq size 0 (not-or-l z (s || (o || (i || (high || past)))) range) in
      record {
        registers = not-or-l (bad_registers_lem vttbr vtcr) (unaligned base || bad_range_lem vtcr output input size) good;
        sane = record { from-page = ei; past-page = omega arith; out-page = eo; in_memory = omega arith; two-bits = two-bits readable writable };
        inside = nltb→le (input_top vtcr) (input + size) (not-or-r high past after-i);
        some = omega arith;
      }
