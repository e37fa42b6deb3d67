use mathlib.Core.Path.{◌≡◌, sym, ap, ◌∙◌}
use mathlib.Core.Bool.{Bool}
use mathlib.Core.List.{List}
use Prim.Native.Nat.{ℕ}
use native.Mathlib.Omega.{arith}
use Rattle.pool_state.specs.Shown.{pool}
use Rattle.pool_state.specs.declared.MemoryAllocator.{MemoryAllocator}
use Rattle.account_state.specs.Account.{account}
use Rattle.account_state.specs.declared.Account.{Account}
use Rattle.image_parts.specs.Layout.{current}
use Rattle.image_parts.proofs.Lawful.{housed-current}
use Rattle.image_reading.specs.Reading.{low_in_lem, ReadsAccount, ReadsCurrent}
use Rattle.image_reading.proofs.Whole.{whole-state}
use Rattle.image_reading.proofs.Figure.{readable-ranges}
use Rattle.image_reading.proofs.read_current.Goals as goal

pub read_fields-requires : goal.read_fields-requires
read_fields-requires c =
    record { housed = housed-current; fresh_fields = c.requires }

-- what was read by the current layout
by-current : (l : List ℕ) (r : Bool) (a : Account) → ReadsAccount pool current l r a → ReadsCurrent current l r a
by-current l r a g =
    record {
      told = g.told;
      state = λ on. g.state on ∙ ap (λ (s : MemoryAllocator). account s (low_in_lem current l)) (whole-state current l (omega arith) (readable-ranges current l (sym g.told ∙ on)));
    }

pub returns : goal.returns
returns c =
    by-current _ _ _ c.read_fields.ensures
