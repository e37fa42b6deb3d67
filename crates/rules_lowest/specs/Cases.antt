-- Histories from empty, and the lowest figure after each call; proofs/Cases.antt has the claim about them. n is the number of records. Assumes nothing.
use Rattle.std.specs.Prelude.{List, [], ◌∷◌, ℕ}
use Rattle.rules.specs.Rules.{Call, Free, Allocate, Reserve, step, Voucher, voucher}
use Rattle.rules_lowest.specs.Lowest.{never, Account, entered}

pub record Case : Type 0 where
  pub calls : List Call
  pub figures : List ℕ

unfoldable pub figures_after : ℕ → Account → List Call → List ℕ
figures_after n a [] = []
figures_after n a (c ∷ cs) = (entered n c a).low ∷ figures_after n (entered n c a) cs

unfoldable pub last_figure : ℕ → List ℕ → ℕ
last_figure x [] = x
last_figure x (y ∷ l) = last_figure y l

unfoldable pub vouchers_after : ℕ → Account → List Call → List Voucher
vouchers_after n a [] = []
vouchers_after n a (c ∷ cs) = voucher c (step n c a.book) ∷ vouchers_after n (entered n c a) cs

abbrev case : List Call → List ℕ → Case
case cs fs = record { calls = cs; figures = fs }

unfoldable pub table : List Case
table =
    -- a later free does not raise it, and a smaller total lowers it
    case (Free 0 8192 ∷ Allocate 4096 0 ∷ Free 65536 65536 ∷ Allocate 4096 0 ∷ []) (8192 ∷ 4096 ∷ 4096 ∷ 4096 ∷ [])
    -- once empty, 0 for good
    ∷ case (Free 0 4096 ∷ Allocate 4096 0 ∷ Free 0 8192 ∷ []) (4096 ∷ 0 ∷ 0 ∷ [])
    -- handing back restores the range, not the figure
    ∷ case (Free 0 8192 ∷ Allocate 4096 0 ∷ Free 0 4096 ∷ []) (8192 ∷ 4096 ∷ 4096 ∷ [])
    -- a reserve lowers it by the widened range
    ∷ case (Free 65536 65536 ∷ Reserve 70000 100 12 ∷ []) (65536 ∷ 61440 ∷ [])
    -- refusals leave it, before the first free and after
    ∷ case (Allocate 1 0 ∷ Free 5 0 ∷ Reserve 0 1 0 ∷ []) (never ∷ never ∷ never ∷ [])
    ∷ case (Free 0 8192 ∷ Allocate 8193 0 ∷ Free 0 1 ∷ Reserve 4096 8192 0 ∷ []) (8192 ∷ 8192 ∷ 8192 ∷ 8192 ∷ [])
    ∷ []
