-- The one claim about the table of maps; and that what the promise asks can be had. Assumes nothing.
use mathlib.Core.Path.{◌≡◌, refl}
use mathlib.Core.Logic.{inl, inr}
use mathlib.Core.Bool.{true, false}
use mathlib.Core.List.{map}
use Prim.Native.Nat.{ℕ}
use native.Mathlib.Omega.{arith}
use lib.Dec.{lit<, lit≤}
use Rattle.mapper_rules.specs.Walk.{span, To, walk}
use Rattle.mapper_rules.specs.Ledger.{word_at}
use Rattle.mapper_rules.specs.Numbers.{bad_level_lem, top_bytes_lem, bad_registers_lem}
use Rattle.mapper_laws.specs.declared.Mapping.{Mapping}
use Rattle.mapper_laws.specs.Tree.{memory, leads_to, joined, sum, some, tables, Once}
use Rattle.mapper_laws.specs.Mapping.{permission_of_lem, mapping_of, asked_attributes, wants, blocked}
use Rattle.mapper_laws.specs.Stores.{steps, store}
use Rattle.mapper_laws.specs.Promise.{tables_below, wanted, in_the_way, after, Fit}
use Rattle.mapper_laws.specs.Trials.{tried, expected, trials}
use Rattle.mapper_laws.proofs.Maps.{maps}

pub held : map tried trials ≡ map expected trials
unfolding tried after steps store span permission_of_lem word_at
held = refl

-- what the promise asks can be had: a page, with no table there yet and one to be handed out
abbrev one-page : Mapping
one-page = mapping_of 0x80000000 0x1000 0x1000 true false

abbrev nothing : ℕ → ℕ
nothing w = 0

abbrev handed_out : ℕ → ℕ
handed_out k = 0x40008000

pub fit : Fit one-page nothing 0x40000000 0x27 handed_out
unfolding bad_registers_lem bad_level_lem top_bytes_lem span in_the_way wanted some sum blocked wants leads_to permission_of_lem tables_below joined tables Once
fit = record {
  registers = tt;
  sane = record { from-page = refl; past-page = refl; out-page = refl; in_memory = lit≤ tt; two-bits = lit< tt };
  inside = lit≤ tt;
  unblocked = tt;
  whole = λ k l. refl;
  below = λ k l. lit< tt;
  once = (λ i. elim i [ inl e ↦ (let z : ⊥ = omega arith in z) | inr j ↦ j ], (λ i. i, tt));
}

-- and then 0x1234 is translated to 0x80000234, readable
pub translates : walk (memory (after one-page nothing 0x40000000 0x27 handed_out).word) 0x40000000 0x27 0x1234 ≡ To 0x80000234 (asked_attributes 1)
unfolding permission_of_lem
translates = (maps one-page nothing 0x40000000 0x27 handed_out fit).translated 0x1234
