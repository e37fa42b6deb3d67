-- The places of the arrays. n is the number of records. Assumes nothing.
use Prim.Native.Nat.{ℕ}
use mathlib.Core.Bool.{true}
use mathlib.Core.Path.{◌≡◌}
use borrow.Author.Tests.{eq-eqb, eqb-true}
use Rattle.pool_state.specs.declared.MemoryAllocator.{MemoryAllocator}
use Rattle.check_meaning.specs.Paragraph.{Sized}
use Rattle.check_records.proofs.Tests.{and-true}
use Rattle.door_fields.specs.Fields.{is_sized_lem}

module _ (n : ℕ) (s : MemoryAllocator) where
  pub sized-passes : Sized n s → is_sized_lem n s ≡ true
  unfolding is_sized_lem
  sized-passes z =
      rw (
        eq-eqb _ _ z.heads,
        eq-eqb _ _ z.start,
        eq-eqb _ _ z.end,
        eq-eqb _ _ z.enabled,
        eq-eqb _ _ z.previous,
        eq-eqb _ _ z.next,
        eq-eqb _ _ z.list_prev,
        eq-eqb _ _ z.list_next,
      )

  pub passes-sized : is_sized_lem n s ≡ true → Sized n s
  unfolding is_sized_lem
  passes-sized h =
      let a = and-true _ _ h in
      let b = and-true _ _ a.1 in
      let c = and-true _ _ b.1 in
      let d = and-true _ _ c.1 in
      let e = and-true _ _ d.1 in
      let f = and-true _ _ e.1 in
      let g = and-true _ _ f.1 in
      record {
        heads = eqb-true _ _ a.0;
        start = eqb-true _ _ b.0;
        end = eqb-true _ _ c.0;
        enabled = eqb-true _ _ d.0;
        previous = eqb-true _ _ e.0;
        next = eqb-true _ _ f.0;
        list_prev = eqb-true _ _ g.0;
        list_next = eqb-true _ _ g.1;
      }
