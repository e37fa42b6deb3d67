-- The lowest figure in an image with a register: what the register's C calls answer tells it. Assumes nothing.
use Prim.Native.Nat.{ℕ, ◌^◌, ◌≤◌, ◌<◌}
use mathlib.Core.List.{List, [], ◌∷◌, map}
use mathlib.Core.Path.{◌≡◌, refl, sym, ap, ◌∙◌}
use native.Mathlib.Omega.{arith}
use lib.ListN.{length, length-drop}
use borrow.Author.Tests.{ne_eqb}
use Rattle.linked_lists.specs.Links.{none}
use Rattle.rules.specs.Rules as rules
use Rattle.rules_engine.specs.Engine.{Engine, vouchers}
use Rattle.rules_lowest.specs.Lowest.{never, counted, sums, least}
use Rattle.account_state.specs.Account.{account}
use Rattle.account_state.specs.declared.Account.{Account}
use Rattle.account_calls.specs.Engine.{accounts}
use Rattle.account_calls.proofs.Demand.{obeys, stands}
use Rattle.account_calls.proofs.Demand as accounting
use Rattle.image_parts.specs.Layout.{Layout, Figured, length_size, image_size_lem}
use Rattle.image_parts.proofs.Lawful.{small-pool}
use Rattle.c_over.specs.Images.{images, lowest_stored}
use Rattle.c_over.proofs.Demand.{lowest}
use Rattle.holder_rules.specs.Register.{entries}
use Rattle.holder_rules.specs.Holders.{Holding, both, nothing, Answer, Call, below, step, Voucher, voucher, run, trail, under}
use Rattle.holder_rules.specs.States.{with_register}
use Rattle.holder_rules.specs.declared.HolderAllocator.{HolderAllocator}
use Rattle.holder_laws.specs.Demand.{left}
use Rattle.holder_laws.proofs.Demand as laws
use Rattle.holder_laws.proofs.Outcomes.{Kept}
use Rattle.holder_laws.proofs.Ends.{its, Ends, stays, goes, ends, and, passed, memory-passed}
use Rattle.holder_laws.proofs.Alike.{turned}
use Rattle.holder_image.specs.Layout.{memory_at, whole_size, rest_of}
use Rattle.holder_image.specs.Bytes.{memory_in}
use Rattle.holder_image.proofs.Rounds.{memory-back}
use Rattle.holder_images.specs.Writing.{SoundWith, image_of}
use Rattle.holder_images.specs.Reading.{Handed, reading_of}
use Rattle.holder_images.proofs.Rounds.{read-written}
use Rattle.holder_calls.specs.Calls.{new_over}
use Rattle.holder_calls.specs.Doors as door
use Rattle.holder_calls.proofs.Doors.{at-door}
use Rattle.promises.proofs.Holders.{ranges_of}
use Rattle.promises.proofs.HolderCalls.{sound-of, run-sized, after-over, vouchers-over}

-- of an allocator whose vouchers are of the calls that they answer, the register's vouchers say of the total what the allocator's own do
module _ (e : Engine) (of : (d : rules.Call) (s : e.State) → (e.answer d s).call ≡ d) where
  first : (k : Holding e.State) (c : Call) (ds : List rules.Call) (vs : List rules.Voucher) (w : Answer e.State) → Ends e k c w
      → ((t : ℕ) → sums t vs ≡ sums t (vouchers e w.holding.memory ds)) → (t : ℕ) → sums t (under (voucher c w) ∷ vs) ≡ sums t (vouchers e k.memory (and e c w ds))
  unfolding sums vouchers
  first k c ds vs _ (stays j d) same t = rw (ne_eqb j 0 d) (same t)
  first k c ds vs _ (goes r z) same t =
      let v = its e k (below c) in
      let p = sym (of (below c) k.memory) in
      let q = sym z in
      let u : rules.Voucher = record { call = below c; number = 0; address = v.address } in
      let us = vouchers e (e.next (below c) k.memory) ds in
      let is : u ≡ v = (λ i. record { call = p i; number = q i; address = v.address }) in
      ap (λ (l : List ℕ). counted t u ∷ l) (same (counted t u)) ∙ ap (λ (x : rules.Voucher). sums t (x ∷ us)) is

  sums-passed : (k : Holding e.State) (cs : List Call) (t : ℕ) → sums t (map under (trail e k cs)) ≡ sums t (vouchers e k.memory (passed e k cs))
  unfolding trail vouchers passed
  sums-passed k [] t = refl
  sums-passed k (c ∷ cs) t = first k c (passed e (step e c k).holding cs) (map under (trail e (step e c k).holding cs)) (step e c k) (ends e k c) (sums-passed (step e c k).holding cs) t

module _ (f : Layout) (full : Figured f) (small : rest_of f < 256 ^ length_size) (l : List ℕ) (h : length l ≡ whole_size f) (cs : List Call) where
  pub lowest-counted : lowest_stored f (memory_in (door.after f (new_over f l).bytes cs)) ≡ least never (sums 0 (map under (door.vouchers f (new_over f l).bytes cs)))
  lowest-counted =
      let sized : length (memory_in l) ≡ image_size_lem f = length-drop memory_at l ∙ omega arith in
      let d = at-door f full small l h in
      let e = images f (memory_in l) in
      let k = left e entries cs in
      ap (λ (x : List ℕ). lowest_stored f (memory_in x)) (d.left cs)
      ∙ ap (lowest_stored f) (memory-back f k.register k.memory ∙ memory-passed e (nothing e entries) cs)
      ∙ (lowest f full (memory_in l) sized).least-counted (passed e (nothing e entries) cs)
      ∙ ap (least never) (sym (sums-passed e (λ c s. refl) (nothing e entries) cs 0))
      ∙ ap (λ (vs : List Voucher). least never (sums 0 (map under vs))) (sym (d.kept cs))

-- from the image of any sound state on
module _ (f : Layout) (full : Figured f) (small : rest_of f < 256 ^ length_size) (s : HolderAllocator) (low : ℕ) (h : SoundWith f.records s low) (cs : List Call) where
  abbrev n : ℕ
  n = f.records

  abbrev few : n ≤ none
  few = small-pool f full.lawful

  abbrev k : Holding Account
  k = both (account s.memory low) s.register.entries

  kept : Kept (obeys n few) k
  kept = laws.kept_of (obeys n few) k (stands n few k.memory h.memory) h.register

  pub lowest-from : (reading_of f (door.after f (image_of f s low) cs)).lowest ≡ least low (sums s.memory.free_size (map under (door.vouchers f (image_of f s low) cs)))
  unfolding image_of
  lowest-from =
      let t = s.memory.free_size in
      let r = run (accounts n) k cs in
      let reads = read-written f full small (with_register (turned ranges_of r)) r.memory.lowest (sound-of f full small r (laws.run-keeps (obeys n few) k cs kept) (run-sized f full small k kept h.sized cs)) in
      ap (λ (l : List ℕ). (reading_of f l).lowest) (after-over f full small k kept h.sized cs)
      ∙ ap (λ (x : Handed). x.lowest) reads
      ∙ ap (λ (a : Account). a.lowest) (memory-passed (accounts n) k cs)
      ∙ accounting.lowest-from n few k.memory h.memory (passed (accounts n) k cs)
      ∙ ap (least low) (sym (sums-passed (accounts n) (λ c a. refl) k cs t))
      ∙ ap (λ (vs : List Voucher). least low (sums t (map under vs))) (sym (vouchers-over f full small k kept h.sized cs))
