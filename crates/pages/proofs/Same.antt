-- Each page call is one call of the allocator: what the lines of the page call refuse, the allocator refuses alike. Assumes nothing.
use Prim.Native.Nat.{ℕ, ◌*◌, ◌%◌, ◌≤◌}
use mathlib.Core.Bool.{Bool, true, false, cond, not}
use mathlib.Core.Logic.{inl, inr}
use mathlib.Core.Path.{◌≡◌, refl, sym, ◌∙◌, ap, subst}
use native.Mathlib.Omega.{arith}
use lib.Dec.{T, eqb, ltb, ltb→lt, eqb→eq}
use Rattle.linked_lists.specs.Links.{none}
use Rattle.rules.specs.Rules as rules
use Rattle.rules.specs.Rules.{Book, refused}
use Rattle.rules_laws.proofs.Lists.{if, or-e, or_r, T-no, T_true, T_false}
use Rattle.pool_state.specs.declared.MemoryAllocator.{MemoryAllocator}
use Rattle.std.specs.Prelude.{Err}
use Rattle.calls.specs.declared.MemoryError.{MemoryError}
use Rattle.calls.specs.declared.MemoryError.TheVariants.{InvalidEntry, InvalidRequest}
use Rattle.check_meaning.specs.Paragraph.{Sized}
use Rattle.check_meaning.proofs.Exact.{passes-sound}
use Rattle.core_serve.specs.Made.{judged}
use Rattle.calls.specs.declared.Outcome.{Outcome}
use Rattle.core_serve.proofs.Judged.{unsound-judged}
use Rattle.memory_allocator.specs.Names.{is_sound_lem, book_of, made}
use Rattle.memory_allocator.specs.Promises.{allocate_of, free_of}
use Rattle.pages.specs.Pages.{page, page_order, most_pages, bad_count, unaligned, raised, refuse, allocate_pages_of, free_pages_of, bytes_of_lem, freed_bytes_lem}
use Rattle.pages.specs.Calls.{PageCall, AllocatePages, FreePages, byte_call}
use Rattle.pages.specs.States.{page_made}

-- ---- the numbers

bad-bytes : (c : ℕ) → T (bad_count c) → bytes_of_lem c ≡ 0
unfolding bytes_of_lem
bad-bytes c t = elim (or-e (eqb c 0) (ltb most_pages c) t) [
  | inl e ↦ subst (λ (x : ℕ). cond (ltb most_pages x) 0 (x * page) ≡ 0) (sym (eqb→eq c 0 e)) refl
  | inr e ↦ rw (T_true (ltb most_pages c) e)
]

good-bytes : (c : ℕ) → T (not (bad_count c)) → c * page ≡ bytes_of_lem c
unfolding bytes_of_lem
good-bytes c t = if (ltb most_pages c) (λ (x : ℕ). c * page ≡ x) (λ e. absurd (T-no (bad_count c) t (or_r (eqb c 0) (ltb most_pages c) e))) (λ _. refl)

unaligned-bytes : (a c : ℕ) → T (unaligned a) → freed_bytes_lem a c ≡ 0
unfolding freed_bytes_lem
unaligned-bytes a c t = rw (T_false (eqb (a % page) 0) t)

aligned-bytes : (a c : ℕ) → T (not (unaligned a)) → freed_bytes_lem a c ≡ bytes_of_lem c
unfolding freed_bytes_lem
aligned-bytes a c t = if (eqb (a % page) 0) (λ (x : ℕ). x ≡ bytes_of_lem c) (λ _. refl) (λ e. absurd (T-no (unaligned a) t e))

raised-high : (o : ℕ) → T (ltb 63 o) → T (ltb 63 (raised o))
unfolding raised
raised-high o t = if (ltb o page_order) (λ (x : ℕ). T (ltb 63 x)) (λ e. absurd (let h = ltb→lt 63 o t in let g = ltb→lt o page_order e in let v : ⊥ = omega arith in v)) (λ _. t)

-- ---- what the rules refuse with 4, whatever the book

no_bytes : (n z o : ℕ) (b : Book) → z ≡ 0 → rules.allocate n z o b ≡ refused 4 b
unfolding rules.allocate rules.refuse
no_bytes n z o b e = rw e

high-order : (n z o : ℕ) (b : Book) → T (ltb 63 o) → rules.allocate n z o b ≡ refused 4 b
unfolding rules.allocate rules.refuse
high-order n z o b t = if (eqb z 0) (λ (w : rules.Answer). w ≡ refused 4 b) (λ _. refl) (λ _. rw (T_true (ltb 63 o) t))

none-freed : (n a z : ℕ) (b : Book) → z ≡ 0 → rules.free n a z b ≡ refused 4 b
unfolding rules.free rules.refuse
none-freed n a z b e = rw e

-- ---- the calls

abbrev outcome : MemoryError → MemoryAllocator → Outcome
outcome k s = record { answer = Err k; state = s }

line : (q : Bool) (k : MemoryError) (s : MemoryAllocator) (w v : Outcome) → (T q → outcome k s ≡ v) → (T (not q) → w ≡ v) → refuse q k s w ≡ v
unfolding refuse
line q k s w v f g = if q (λ (x : Outcome). x ≡ v) f g

is_true : (q : Bool) → T (not (not q)) → q ≡ true
is_true true t = refl
is_true false t = absurd t

module _ (n : ℕ) (small : n ≤ none) (s : MemoryAllocator) (sized : Sized n s) where
  bad : (rule : Book → rules.Answer) → ((b : Book) → rule b ≡ refused 4 b) → T (not (not (is_sound_lem n s))) → outcome InvalidRequest s ≡ judged n rule s
  unfolding judged
  bad rule f t =
      let e = is_true (is_sound_lem n s) t in
      rw (e, f (book_of n s)) (sym (ap (outcome InvalidRequest) (passes-sound n small s sized e).state))

  unsound : (rule : Book → rules.Answer) → T (not (is_sound_lem n s)) → outcome InvalidEntry s ≡ judged n rule s
  unsound rule t = unsound-judged n small s rule (T_false (is_sound_lem n s) t)

  pub allocate-same : (c o : ℕ) → allocate_pages_of n s c o ≡ allocate_of n s (bytes_of_lem c) (raised o)
  unfolding allocate_pages_of
  allocate-same c o =
      line (not (is_sound_lem n s)) InvalidEntry s _ _ (unsound (rules.allocate n (bytes_of_lem c) (raised o)))
      (λ t. line (bad_count c) InvalidRequest s _ _ (λ u. bad (rules.allocate n (bytes_of_lem c) (raised o)) (λ b. no_bytes n (bytes_of_lem c) (raised o) b (bad-bytes c u)) t)
      (λ u. line (ltb 63 o) InvalidRequest s _ _ (λ v. bad (rules.allocate n (bytes_of_lem c) (raised o)) (λ b. high-order n (bytes_of_lem c) (raised o) b (raised-high o v)) t)
      (λ v. ap (λ (z : ℕ). allocate_of n s z (raised o)) (good-bytes c u))))

  pub free-same : (a c : ℕ) → free_pages_of n s a c ≡ free_of n s a (freed_bytes_lem a c)
  unfolding free_pages_of
  free-same a c =
      line (not (is_sound_lem n s)) InvalidEntry s _ _ (unsound (rules.free n a (freed_bytes_lem a c)))
      (λ t. line (unaligned a) InvalidRequest s _ _ (λ u. bad (rules.free n a (freed_bytes_lem a c)) (λ b. none-freed n a (freed_bytes_lem a c) b (unaligned-bytes a c u)) t)
      (λ u. line (bad_count c) InvalidRequest s _ _ (λ v. bad (rules.free n a (freed_bytes_lem a c)) (λ b. none-freed n a (freed_bytes_lem a c) b (aligned-bytes a c u ∙ bad-bytes c v)) t)
      (λ v. ap (λ (z : ℕ). free_of n s a z) (good-bytes c v ∙ sym (aligned-bytes a c u)))))

  pub page-same : (p : PageCall) → page_made n s p ≡ made n s (byte_call p)
  unfolding rules.step
  page-same (AllocatePages c o) = allocate-same c o
  page-same (FreePages a c) = free-same a c
