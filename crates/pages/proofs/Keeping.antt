-- Page calls move pieces whose ends are multiples of 4096, whatever the book. Assumes nothing.
use Prim.Native.Nat.{ℕ, ◌+◌, ◌-◌, ◌*◌, ◌%◌, ◌^◌, ◌∣◌}
use mathlib.Core.Bool.{Bool, true, false, cond}
use mathlib.Core.List.{List, [], ◌∷◌, map}
use mathlib.Core.Logic.{inl}
use mathlib.Core.Path.{◌≡◌, refl, sym, ◌∙◌, ap, subst}
use native.Mathlib.Omega.{arith}
use native.Mathlib.Nat.{dvd_refl, dvd-zero, dvd-mul_left, dvd_of_mod-eq-zero, mod-eq-zero_of_dvd}
use lib.Pow.{pow-add}
use lib.Dec.{T, ltb, eqb, nltb→le, eqb→eq, eqb_refl}
use Rattle.rules.specs.Rules.{Book, Call, Free, Allocate, voucher, refuse, free, step}
use Rattle.rules.specs.Sound.{Sound}
use Rattle.rules_laws.proofs.Lists.{if}
use Rattle.rules_laws.proofs.Multiples.{Blocks, Moves, whole-moves}
use Rattle.rules_engine.proofs.Multiples.{Each, Keeps}
use Rattle.pages.specs.Pages.{page, page_order, most_pages, bytes_of_lem, raised, freed_bytes_lem}
use Rattle.pages.specs.Calls.{PageCall, AllocatePages, FreePages, byte_call}

bytes-multiple : (c : ℕ) → page ∣ bytes_of_lem c
unfolding bytes_of_lem
bytes-multiple c = if (ltb most_pages c) (λ (x : ℕ). page ∣ x) (λ _. dvd-zero page) (λ _. dvd-mul_left page c)

raised-multiple : (o : ℕ) → page ∣ 2 ^ raised o
unfolding raised
raised-multiple o = if (ltb o page_order) (λ (x : ℕ). page ∣ 2 ^ x) (λ _. dvd_refl page) (λ t.
    let h = nltb→le o page_order t in
    let e : 2 ^ o ≡ 2 ^ (o - page_order) * page = ap (λ (x : ℕ). 2 ^ x) (let k : o ≡ o - page_order + page_order = omega arith in k) ∙ pow-add 2 (o - page_order) page_order in
    subst (λ (x : ℕ). page ∣ x) (sym e) (dvd-mul_left page (2 ^ (o - page_order))))

-- from a multiple of 4096 all pages are freed
pub freed-all : (a c : ℕ) → page ∣ a → freed_bytes_lem a c ≡ bytes_of_lem c
unfolding freed_bytes_lem
freed-all a c h = rw (mod-eq-zero_of_dvd page h)

module _ (n : ℕ) where
  free-keeps : (a c : ℕ) (b : Book) → Sound n b → Blocks page b → (t : Bool) → (T t → a % page ≡ 0)
      → Moves page (voucher (Free a (cond t (bytes_of_lem c) 0)) (step n (Free a (cond t (bytes_of_lem c) 0)) b))
  unfolding step free refuse
  free-keeps a c b s h true e = whole-moves page n b (Free a (bytes_of_lem c)) s h (dvd_of_mod-eq-zero page (e tt), bytes-multiple c)
  free-keeps a c b s h false e = λ z. absurd (let x : ⊥ = omega arith in x)

  pub keeps : (p : PageCall) → Keeps n page (byte_call p)
  unfolding freed_bytes_lem
  keeps (AllocatePages c o) = λ b s h. whole-moves page n b (Allocate (bytes_of_lem c) (raised o)) s h (bytes-multiple c, inl (raised-multiple o))
  keeps (FreePages a c) = λ b s h. free-keeps a c b s h (eqb (a % page) 0) (eqb→eq (a % page) 0)

  pub each_keeps : (ps : List PageCall) → Each (Keeps n page) (map byte_call ps)
  each_keeps [] = tt
  each_keeps (p ∷ ps) = (keeps p, each_keeps ps)
