-- The loop over the blocks: what is left to audit is what was left from the first. n is the number of records. Assumes nothing.
use Prim.Native.Nat.{ℕ, zero, suc, ◌+◌, ◌-◌, ◌<◌, ◌≤◌}
use mathlib.Core.Bool.{Bool, true, false, cond}
use mathlib.Core.List.{List}
use mathlib.Core.Path.{◌≡◌, refl, sym, ap, ◌∙◌, subst}
use lib.Dec.{eqb, ltb}
use lib.ListN.{length, drop, length-drop}
use native.Mathlib.Omega.{arith}
use borrow.Author.Tests.{lt-ltb, le-ltb}
use Rattle.linked_lists.specs.Links.{none}
use Rattle.rules.specs.Rules.{Book}
use Rattle.rules.specs.Sound.{Sound}
use Rattle.rules_laws.proofs.Steps.{step-sound}
use Rattle.pool_state.specs.Sound.{book_of, SoundState}
use Rattle.pool_state.proofs.Book.{book-back}
use Rattle.calls.specs.Calls.{call_of}
use Rattle.memory_allocator.proofs.Steps.{sound-held}
use Rattle.journal_blocks.specs.Journal.{block_at}
use Rattle.journal_blocks.specs.declared.Entry.{Entry}
use Rattle.journal_blocks.specs.declared.Block.{Block}
use Rattle.journal_blocks.specs.declared.Block.TheVariants as block
use Rattle.journal_blocks.proofs.Seen.{Ahead, ahead}
use Rattle.journal_audit.specs.Audit.{Auditing, Audited, answer_bits_lem, replayed, stands, stands_at_lem, judged_by, audit_from_lem, audited_on}
use Rattle.journal_audit.specs.declared.Stop.TheVariants as stop

-- the audit of l that began with a stands at d, and goes on
pub record Ongoing (n : ℕ) (l : List ℕ) (a : Auditing) (d : Audited) : Type 0 where
  pub sound : SoundState n d.auditing.state
  pub used : d.used ≤ length l
  pub index : d.auditing.index ≤ a.index + d.used
  pub fuel : ℕ
  pub enough : length l - d.used ≤ fuel
  pub same : audit_from_lem n fuel l d.used d.auditing.index (book_of n d.auditing.state) ≡ audited_on n a l

-- and once it does not, it is done
abbrev pub Underway : ℕ → List ℕ → Auditing → Audited → Bool → Type 0
Underway n l a d true = Ongoing n l a d
Underway n l a d false = d ≡ audited_on n a l

pub underway-start : (n : ℕ) (l : List ℕ) (a : Auditing) → SoundState n a.state → Ongoing n l a (record { auditing = a; used = 0; stop = stop.More })
underway-start n l a h = record { sound = h; used = omega arith; index = omega arith; fuel = length l; enough = omega arith; same = refl }

module _ (n : ℕ) (small : n ≤ none) (l : List ℕ) (a : Auditing) where
  module _ (at i : ℕ) (b : Book) (s : Sound n b) (within : at ≤ length l) (few : i ≤ a.index + at) where
    ongoing : (e : Entry) (next k : ℕ) → Ahead at (drop at l) (block.Call e next) → length l - at ≤ suc k
        → audit_from_lem n k l next (suc i) (replayed n b e.request).book ≡ audited_on n a l
        → Ongoing n l a (stands n next (suc i) (replayed n b e.request).book stop.More)
    ongoing e next k h enough g =
        let far = h.0 in
        let there = h.1 in
        let size = length-drop at l in
        let sound = step-sound n b (call_of e.request) s in
        record {
          sound = sound-held n small _ sound;
          used = omega arith;
          index = omega arith;
          fuel = k;
          enough = omega arith;
          same = ap (audit_from_lem n k l next (suc i)) (book-back n small _ sound) ∙ g;
        }

    abbrev Then : Audited → Type 0
    Then r = Underway n l a r (ltb at r.used)

    stays : (r : Audited) → r.used ≡ at → r ≡ audited_on n a l → Then r
    stays r u e = subst (Underway n l a r) (sym (le-ltb at r.used (omega arith))) e

    goes : (r : Audited) → at < r.used → Ongoing n l a r → Then r
    goes r u g = subst (Underway n l a r) (sym (lt-ltb at r.used u)) g

    called : (e : Entry) (next k : ℕ) → Ahead at (drop at l) (block.Call e next) → length l - at ≤ suc k
        → judged_by n (audit_from_lem n k l) at i b (block.Call e next) ≡ audited_on n a l → Then (judged_by n (stands_at_lem n) at i b (block.Call e next))
    called e next k h enough = go (eqb (answer_bits_lem (replayed n b e.request)) e.answer)
      where
        go : (t : Bool) → cond t (audit_from_lem n k l next (suc i) (replayed n b e.request).book) (stands n at i (replayed n b e.request).book stop.Differs) ≡ audited_on n a l
            → Then (cond t (stands_at_lem n next (suc i) (replayed n b e.request).book) (stands n at i (replayed n b e.request).book stop.Differs))
        go true g = goes _ (let far = h.0 in omega arith) (ongoing e next k h enough g)
        go false g = stays _ refl g

    judged : (k : ℕ) → length l - at ≤ k → audit_from_lem n k l at i b ≡ audited_on n a l → (w : Block) → Ahead at (drop at l) w → block_at l at ≡ w → Then (judged_by n (stands_at_lem n) at i b w)
    unfolding audit_from_lem
    judged zero enough g (block.Call e next) h is = absurd (let far = h.0 in let there = h.1 in let size = length-drop at l in let v : ⊥ = omega arith in v)
    judged zero enough g block.End h is = stays _ refl g
    judged zero enough g block.Truncated h is = stays _ refl g
    judged zero enough g block.UnknownCall h is = absurd (let size = length-drop at l in let v : ⊥ = omega arith in v)
    judged zero enough g block.WrongLength h is = absurd (let size = length-drop at l in let v : ⊥ = omega arith in v)
    judged (suc k) enough g (block.Call e next) h is = called e next k h enough (ap (judged_by n (audit_from_lem n k l) at i b) (sym is) ∙ g)
    judged (suc k) enough g block.End h is = stays _ refl (ap (judged_by n (audit_from_lem n k l) at i b) (sym is) ∙ g)
    judged (suc k) enough g block.Truncated h is = stays _ refl (ap (judged_by n (audit_from_lem n k l) at i b) (sym is) ∙ g)
    judged (suc k) enough g block.UnknownCall h is = stays _ refl (ap (judged_by n (audit_from_lem n k l) at i b) (sym is) ∙ g)
    judged (suc k) enough g block.WrongLength h is = stays _ refl (ap (judged_by n (audit_from_lem n k l) at i b) (sym is) ∙ g)

  module _ (d : Audited) (g : Ongoing n l a d) (r : Audited) (e : r ≡ judged_by n (stands_at_lem n) d.used d.auditing.index (book_of n d.auditing.state) (block_at l d.used)) where
    pub underway-next : Underway n l a r (ltb d.used r.used)
    underway-next =
        subst (λ (x : Audited). Underway n l a x (ltb d.used x.used)) (sym e)
        (judged d.used d.auditing.index (book_of n d.auditing.state) g.sound.book g.used g.index g.fuel g.enough g.same
        (block_at l d.used) (ahead d.used (drop d.used l)) refl)

    -- a block was used, and the audit goes on behind it; or none was
    pub underway-goes : d.used < r.used → Ongoing n l a r
    underway-goes h = subst (Underway n l a r) (lt-ltb d.used r.used h) underway-next

    pub underway-ends : r.used ≤ d.used → r ≡ audited_on n a l
    underway-ends h = subst (Underway n l a r) (le-ltb d.used r.used h) underway-next
