-- What is asked of a state, in the steps in which code tests it. n is the number of records. Assumes nothing.
use mathlib.Core.Path.{◌≡◌, refl, sym, ap, ◌∙◌, subst}
use mathlib.Core.Logic.{◌≢◌, inl, inr}
use mathlib.Core.Bool.{Bool, true, false, cond, ◌&&◌}
use mathlib.Core.List.{List}
use Prim.Native.Nat.{ℕ, suc, ◌+◌, ◌-◌, ◌≤◌, ◌<◌}
use native.Mathlib.Omega.{arith}
use lib.Dec.{T, leb, ltb, eqb, ltb→lt}
use borrow.Author.Tests.{eq-eqb, ne_eqb, lt-ltb, le-ltb, le-leb, lt-leb}
use Rattle.std.specs.Prelude.{Ok, Err}
use Rattle.rules.specs.Rules.{top, size, sum}
use Rattle.rules_laws.proofs.Lists.{and_l, T_true}
use Rattle.core_accounts.specs.Accounts as accounts
use Rattle.core_accounts.specs.Accounts.{counted, refused}
use Rattle.calls.specs.Calls.{Answer, Counted, number_of}
use Rattle.pool_state.specs.declared.Address.{Address}
use Rattle.calls.specs.declared.MemoryError.{MemoryError}
use Rattle.calls.specs.declared.MemoryError.TheVariants.{NoEntry, InvalidEntry, NoMemory, InvalidRequest}
use Rattle.memory_allocator.specs.Names as allocator
use Rattle.memory_allocator.specs.Names.{book_of}
use Rattle.holder_rules.specs.Register.{holders, known, used, range_of}
use Rattle.holder_rules.specs.Sound.{SoundEntries, register_sound}
use Rattle.holder_rules.specs.States.{is_sound_lem}
use Rattle.holder_rules.specs.declared.Entry.{Entry}
use Rattle.holder_rules.specs.declared.HolderAllocator.{HolderAllocator}
use Rattle.holder_check.proofs.Exact.{sound→}
use Rattle.holder_lists.specs.Whose.{is_known_lem, concerns, found, belongs}
use Rattle.holder_lists.specs.Accounts.{asked_of, asked, held_of, total_of, FreeLists}
use Rattle.holder_lists.specs.declared.Whose.{Whose}

pub no-holder : (h : ℕ) → h ≡ 0 → false ≡ known h
no-holder h e = sym (ap (λ (b : Bool). b && leb h holders) (lt-leb 1 h (omega arith)))

pub holder-test : (h : ℕ) → h ≢ 0 → leb h holders ≡ known h
holder-test h e = sym (ap (λ (b : Bool). b && leb h holders) (le-leb 1 h (omega arith)))

pub unused-not : (w : Whose) (e : Entry) → e.holder.0 ≡ 0 → false ≡ belongs w e
unused-not w e u = sym (ap (λ (b : Bool). b && concerns w (range_of e)) (le-ltb 0 e.holder.0 (omega arith)))

pub used-concerns : (w : Whose) (e : Entry) → e.holder.0 ≢ 0 → concerns w (range_of e) ≡ belongs w e
used-concerns w e u = sym (ap (λ (b : Bool). b && concerns w (range_of e)) (lt-ltb 0 e.holder.0 (omega arith)))

pub belongs-used : (w : Whose) (e : Entry) → belongs w e ≡ true → T (used e)
belongs-used w e t = and_l (used e) (concerns w (range_of e)) (subst T (sym t) tt)

module _ (n : ℕ) (s : HolderAllocator) (w : Whose) where
  pub asked-all : is_sound_lem n s ≡ true → is_known_lem w ≡ true → Ok (record { 0 = 0 }) ≡ asked_of n s w
  unfolding asked_of
  asked-all e k = rw (e, k)

  pub asked-unknown : is_sound_lem n s ≡ true → is_known_lem w ≡ false → Err InvalidRequest ≡ asked_of n s w
  unfolding asked_of
  asked-unknown e k = rw (e, k)

  pub asked-unsound : is_sound_lem n s ≡ false → Err InvalidEntry ≡ asked_of n s w
  unfolding asked_of
  asked-unsound e = rw e

  pub held-refused : (x : MemoryError) → Err x ≡ asked_of n s w → Err x ≡ held_of n s w
  unfolding held_of asked
  held-refused x e = rw (sym e)

  pub accepted-is : (k : Answer) → k ≡ asked_of n s w → number_of k ≡ 0 → (k ≡ Ok (record { 0 = 0 })) × (is_sound_lem n s ≡ true)
  unfolding asked_of
  accepted-is k e d = go (is_sound_lem n s) (is_known_lem w) refl (ap number_of (sym e) ∙ d) e
    where
      go : (b c : Bool) → is_sound_lem n s ≡ b → number_of (cond {A = Answer} b (cond c (Ok (record { 0 = 0 })) (Err InvalidRequest)) (Err InvalidEntry)) ≡ 0
          → k ≡ cond b (cond c (Ok (record { 0 = 0 })) (Err InvalidRequest)) (Err InvalidEntry) → (k ≡ Ok (record { 0 = 0 })) × (is_sound_lem n s ≡ true)
      go true true q d e = (e, q)
      go true false q d e = absurd (let v : ⊥ = omega arith in v)
      go false c q d e = absurd (let v : ⊥ = omega arith in v)

  pub asked-sound : (k : Answer) → k ≡ asked_of n s w → number_of k ≡ 0 → SoundEntries s.register.entries
  unfolding is_sound_lem
  asked-sound k e d = (sound→ (book_of n s.memory).chain s.register.entries (go (allocator.is_sound_lem n s.memory) (accepted-is k e d).1)).sound
    where
      go : (b : Bool) → (b && register_sound (book_of n s.memory).chain s.register.entries) ≡ true → T (register_sound (book_of n s.memory).chain s.register.entries)
      go true q = subst T (sym q) tt
      go false q = absurd (subst T (sym q) tt)

  pub held-counted : (a : Address) (z : ℕ) → Ok a ≡ asked_of n s w → z ≡ sum (found w s.register.entries) → Ok z ≡ held_of n s w
  unfolding held_of asked
  held-counted a z e q = rw (sym e, q)

-- ---- the allocator's own, where the register is sound too

module _ (n : ℕ) (s : HolderAllocator) where
  pub total-sound : is_sound_lem n s ≡ true → accounts.total_of n s.memory ≡ total_of n s
  unfolding total_of
  total-sound e = rw e

  pub total-unsound : is_sound_lem n s ≡ false → refused InvalidEntry ≡ total_of n s
  unfolding total_of
  total-unsound e = rw e

  module _ (ss ls ss' ls' : List ℕ) (r : Counted) where
    pub lists-sound : is_sound_lem n s ≡ true → accounts.Lists n s.memory ss ls r ss' ls' → FreeLists n s ss ls r ss' ls'
    lists-sound e l = record { answer = rw e l.answer; starts-now = rw e l.starts-now; lasts_now = rw e l.lasts_now }

  pub lists-unsound : (ss ls : List ℕ) → is_sound_lem n s ≡ false → FreeLists n s ss ls (refused InvalidEntry) ss ls
  lists-unsound ss ls e = record { answer = rw e; starts-now = rw e; lasts_now = rw e }
