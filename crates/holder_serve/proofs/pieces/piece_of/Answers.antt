use native.Mathlib.Omega.{arith}
use mathlib.Core.Path.{◌≡◌, sym, ap, ◌∙◌, subst}
use Prim.Native.Nat.{ℕ, ◌+◌, ◌-◌}
use Rattle.calls.specs.declared.Request.{Request}
use Rattle.calls.specs.Calls.{call_of}
use Rattle.holder_rules.specs.Register.{entry}
use Rattle.holder_rules.specs.Holders.{piece}
use Rattle.holder_serve.specs.Pieces.{Moves}
use Rattle.holder_serve.proofs.Accepted.{reserve-fits}
use Rattle.holder_serve.proofs.pieces.piece_of.Goals as goal

pub entry_of-requires : goal.entry_of-requires
entry_of-requires c =
    let q = c in let s = q in let m = subst (λ (r : Request). Moves (call_of r) s.args.address) q.in-Allocate.is s.requires in
    let a = m.some_byte in let l = m.below in (omega arith, l)

pub entry_of-requires-in-Free : goal.entry_of-requires-in-Free
entry_of-requires-in-Free c =
    let q = c in let s = q in let m = subst (λ (r : Request). Moves (call_of r) s.args.address) q.in-Free.is s.requires in
    let a = m.some_byte in let l = m.below in (omega arith, l)

pub align_address_and_size-aligned-requires : goal.align_address_and_size-aligned-requires
align_address_and_size-aligned-requires c =
    let q = c in let s = q in let m = subst (λ (r : Request). Moves (call_of r) s.args.address) q.in-Reserve.is s.requires in
    reserve-fits _ _ _ _ m

pub entry_of-requires-in-Reserve : goal.entry_of-requires-in-Reserve
entry_of-requires-in-Reserve c =
    let q = c in let s = q in let m = subst (λ (r : Request). Moves (call_of r) s.args.address) q.in-Reserve.is s.requires in
    let a = m.some_byte in let l = m.below in let e = c.align_address_and_size-aligned.ensures in let e0 = e.0 in let e1 = e.1 in (omega arith, omega arith)

pub returns-in-Allocate : goal.returns-in-Allocate
returns-in-Allocate c =
    let q = c in let x = q.args in c.entry_of.ensures ∙ ap (λ (r : Request). piece x.holder.0 (call_of r) x.address) (sym q.in-Allocate.is)

pub returns-in-Free : goal.returns-in-Free
returns-in-Free c =
    let q = c in let x = q.args in c.entry_of-in-Free.ensures ∙ ap (λ (r : Request). piece x.holder.0 (call_of r) x.address) (sym q.in-Free.is)

pub returns-in-Reserve : goal.returns-in-Reserve
returns-in-Reserve c =
    let g = c in let q = g in let s = q in let x = s.args in
    let m = subst (λ (r : Request). Moves (call_of r) x.address) q.in-Reserve.is s.requires in
    let e = g.align_address_and_size-aligned.ensures in let e0 = e.0 in let e1 = e.1 in let a = m.some_byte in
    c.entry_of-in-Reserve.ensures ∙ (λ i. entry x.holder.0 (e0 i) (last-is _ _ _ _ e0 e1 a i))
    ∙ ap (λ (r : Request). piece x.holder.0 (call_of r) x.address) (sym q.in-Reserve.is)
  where
    last-is : (s z d u : ℕ) → s ≡ d → z ≡ u - d → Prim.Native.Nat.◌<◌ d u → s + z - 1 ≡ u - 1
    last-is s z d u p q l = omega arith
