-- The pages that a mapping asks for, on each way through. Assumes nothing.
use mathlib.Core.Path.{◌≡◌, refl, sym, ◌∙◌, ap}
use mathlib.Core.Logic.{◌≢◌}
use mathlib.Core.Bool.{Bool, true, false, not, cond}
use mathlib.Core.List.{List}
use Prim.Native.Nat.{ℕ, zero, suc, ◌+◌, ◌-◌, ◌*◌, ◌%◌, ◌^◌, ◌<◌}
use native.Mathlib.Omega.{arith}
use native.Mathlib.Nat.{mod-eq_of_lt}
use native.Mathlib.Numerals.{add-one}
use lib.IntN.{ℤ, pos, negsuc}
use lib.Signed.{lt_z, le_z}
use lib.Dec.{T}
use lib.IntN.{nat_abs}
use lib.Signed.{non_neg}
use mir.Syntax.{w64}
use mir.Val.{Fits, SFits}
use Rattle.linked_lists.proofs.Laws.{true≢false}
use lib.Dec.{ltb}
use borrow.Author.Tests.{ltb-true, le-ltb, le-leb}
use Rattle.pages.specs.Pages.{raised, bytes_of_lem}
use Rattle.rules_laws.proofs.Lists.{if}
use Rattle.rules.specs.Rules.{Allocate}
use Rattle.image_parts.specs.Layout.{current}
use Rattle.calls.specs.Calls.{address_from}
use Rattle.c_over.specs.CCalls.{Returned, returned, call_over_lem}
use Rattle.mapper_rules.specs.Walk.{span, is_table_lem}
use Rattle.mapper_laws.specs.declared.Mapping.{Mapping}
use Rattle.mapper_laws.specs.Tree.{Entry, Ends, page_of, leads_to, sum}
use Rattle.mapper_laws.specs.Mapping.{opens, wants}
use Rattle.mapper_laws.specs.Arena.{shows}
use Rattle.mapper_pages.specs.Pages.{page_from, Supply, supply, asked, taken, wants_at, wants_in}

pub page-call : (l : List ℕ) → call_over_lem current (Allocate 4096 12) l ≡ page_from l
unfolding raised bytes_of_lem
page-call l = refl

ltb-zero : (a : ℕ) → ltb a 0 ≡ true → ⊥
ltb-zero a t = let l = ltb-true a 0 t in let z : ⊥ = omega arith in z

-- j is i as the machine has it
pub signed_test : (i j : ℤ) (t : Bool) → j ≡ i → lt_z j (pos 0) ≡ t → lt_z i (pos 0) ≡ t
signed_test i j t e l = ap (λ (k : ℤ). lt_z k (pos 0)) (sym e) ∙ l

pub signed_order : (i j : ℤ) → j ≡ i → lt_z i (pos 0) ≡ not (le_z (pos 0) j)
signed_order i j e = go i ∙ ap (λ (k : ℤ). not (le_z (pos 0) k)) (sym e)
  where
    go : (k : ℤ) → lt_z k (pos 0) ≡ not (le_z (pos 0) k)
    go (pos a) = rw (le-ltb a 0 (omega arith), le-leb 0 a (omega arith))
    go (negsuc k) = refl

pub no_address : (i : ℤ) → lt_z i (pos 0) ≡ true → 0 ≡ address_from i
no_address (pos a) t = absurd (ltb-zero a t)
no_address (negsuc k) t = refl

pub an-address : (i j : ℤ) → j ≡ i → lt_z j (pos 0) ≡ false → nat_abs j ≡ address_from i
an-address (pos a) j e t = ap nat_abs e
an-address (negsuc k) j e t = absurd (true≢false (signed_test (negsuc k) j false e t))

pub address-fits : (i j : ℤ) → j ≡ i → SFits w64 i → lt_z j (pos 0) ≡ false → T (non_neg j) × Fits w64 (nat_abs j)
address-fits (pos a) j e f t = rw e (tt, record { fits = (let s : a < 2 ^ 63 = f.sfits in omega arith) })
address-fits (negsuc k) j e f t = absurd (true≢false (signed_test (negsuc k) j false e t))

-- ---- one page more

pub asked-none : (l : List ℕ) → supply false l ≡ asked (supply false l)
unfolding asked
asked-none l = refl

pub asked-one : (l l' : List ℕ) (i : ℤ) (r : Bool) → returned i l' ≡ page_from l → lt_z i (pos 0) ≡ not r → supply r l' ≡ asked (supply true l)
unfolding asked
asked-one l l' i r e t =
    ap (λ (x : Bool). supply x l') (sym (not-not r) ∙ ap not (sym t)) ∙ ap (λ (x : Returned). supply (not (lt_z x.number (pos 0))) x.bytes) e
  where
    not-not : (x : Bool) → not (not x) ≡ x
    not-not true = refl
    not-not false = refl

-- ---- n pages more

pub taken_more : (m n : ℕ) (s : Supply) → taken n (taken m s) ≡ taken (m + n) s
unfolding taken
taken_more m zero s = ap (λ (k : ℕ). taken k s) (let e : m ≡ m + 0 = omega arith in e)
taken_more m (suc n) s = ap asked (taken_more m n s) ∙ ap (λ (k : ℕ). taken k s) (let e : suc (m + n) ≡ m + suc n = omega arith in e)

pub no_more : (n : ℕ) (l : List ℕ) → supply false l ≡ taken n (supply false l)
unfolding taken
no_more zero l = refl
no_more (suc n) l = asked-none l ∙ ap asked (no_more n l)

none-taken : (n : ℕ) (s : Supply) → n ≡ 0 → s ≡ taken n s
unfolding taken
none-taken n s e = rw e

-- ---- one entry

sum_same : (n : ℕ) (f g : ℕ → ℕ) → ((j : ℕ) → j < n → f j ≡ g j) → sum n f ≡ sum n g
unfolding sum
sum_same zero f g e = refl
sum_same (suc n) f g e = ap (λ (x : ℕ). x + f n) (sum_same n f g (λ j l. e j (omega arith))) ∙ ap (λ (x : ℕ). sum n g + x) (e n (omega arith))

zero-ends : (at word : ℕ → ℕ) (h : ℕ) → leads_to at word h 0 ≡ Ends 0
unfolding leads_to
zero-ends at word zero = refl
zero-ends at word (suc h) = refl

module _ (q : Mapping) (b : ℕ) (A : List ℕ) where
  page-wants : (h e d : ℕ) → h ≡ 0 → wants_at q b A h e d ≡ 0
  unfolding wants
  page-wants h e d z = rw z

  shut-wants : (h e d : ℕ) → h ≢ 0 → opens q h e ≡ false → wants_at q b A h e d ≡ 0
  unfolding wants leads_to
  shut-wants zero e d n o = absurd (n refl)
  shut-wants (suc h) e d n o = if (is_table_lem d) (λ (E : Entry). wants q (suc h) e E ≡ 0) (λ _. rw o) (λ _. rw o)

  pub at-page : (h e d : ℕ) (s : Supply) → h ≡ 0 → s ≡ taken (wants_at q b A h e d) s
  at-page h e d s z = none-taken (wants_at q b A h e d) s (page-wants h e d z)

  pub at-shut : (h e d : ℕ) (s : Supply) → h ≢ 0 → opens q h e ≡ false → s ≡ taken (wants_at q b A h e d) s
  at-shut h e d s n o = none-taken (wants_at q b A h e d) s (shut-wants h e d n o)

  table-wants : (h e d p : ℕ) → h ≢ 0 → opens q h e ≡ true → is_table_lem d ≡ true → p ≡ page_of d → wants_in q b A false (h - 1) e (512 * p) 512 ≡ wants_at q b A h e d
  unfolding wants leads_to
  table-wants zero e d p n o t g = absurd (n refl)
  table-wants (suc h) e d p n o t g =
      ap (λ (i : ℕ). wants_in q b A false i e (512 * p) 512) (let z : suc h - 1 ≡ h = omega arith in z)
      ∙ rw (t, o, g) (sum_same 512 (λ j. wants_at q b A h (e + j * span h) (shows b A (512 * page_of d + j)))
      (λ j. wants_at q b A h (e + j * span h) (shows b A (512 * page_of d + j % 512)))
      (λ j l. ap (λ (i : ℕ). wants_at q b A h (e + j * span h) (shows b A (512 * page_of d + i))) (sym (mod-eq_of_lt l))))

  one-add : {n : ℕ} → 1 + n ≡ suc n
  one-add {n} = omega arith

  fresh-wants : (h e d w : ℕ) → h ≢ 0 → opens q h e ≡ true → is_table_lem d ≡ false → 1 + wants_in q b A true (h - 1) e w 512 ≡ wants_at q b A h e d
  unfolding wants leads_to
  fresh-wants zero e d w n o t = absurd (n refl)
  fresh-wants (suc h) e d w n o t =
      ap (λ (i : ℕ). 1 + wants_in q b A true i e w 512) (let z : suc h - 1 ≡ h = omega arith in z)
      ∙ rw (t, o) (ap (λ (x : ℕ). 1 + x) (sum_same 512 (λ j. wants_at q b A h (e + j * span h) 0) (λ j. wants q h (e + j * span h) (Ends 0))
      (λ j l. ap (wants q h (e + j * span h)) (zero-ends page_of (shows b A) h))) ∙ one-add)

  pub at_table : (h e d p : ℕ) (s : Supply) {r : Supply} → h ≢ 0 → opens q h e ≡ true → is_table_lem d ≡ true → p ≡ page_of d
      → r ≡ taken (wants_in q b A false (h - 1) e (512 * p) 512) s → r ≡ taken (wants_at q b A h e d) s
  at_table h e d p s n o t g k = k ∙ ap (λ (i : ℕ). taken i s) (table-wants h e d p n o t g)

  pub at-fresh : (h e d w : ℕ) (s a : Supply) {r : Supply} → h ≢ 0 → opens q h e ≡ true → is_table_lem d ≡ false
      → a ≡ asked s → r ≡ taken (wants_in q b A true (h - 1) e w 512) a → r ≡ taken (wants_at q b A h e d) s
  unfolding taken
  at-fresh h e d w s a n o t ea er =
      er ∙ ap (taken (wants_in q b A true (h - 1) e w 512)) ea ∙ taken_more 1 (wants_in q b A true (h - 1) e w 512) s ∙ ap (λ (i : ℕ). taken i s) (fresh-wants h e d w n o t)

  -- where its page is not to be had, none of those below it is asked for
  pub at-wanting : (h e d : ℕ) (s : Supply) (l : List ℕ) → h ≢ 0 → opens q h e ≡ true → is_table_lem d ≡ false
      → supply false l ≡ asked s → supply false l ≡ taken (wants_at q b A h e d) s
  at-wanting h e d s l n o t ea = at-fresh h e d 0 s (supply false l) n o t ea (no_more (wants_in q b A true (h - 1) e 0 512) l)

  -- ---- one entry after another

  module _ (fresh : Bool) (h e w : ℕ) (s : Supply) where
    pub none_yet : s ≡ taken (wants_in q b A fresh h e w 0) s
    unfolding sum taken
    none_yet = refl

    pub one_more : (j t d : ℕ) (a : Supply) {r : Supply} → t ≡ span h → d ≡ cond fresh 0 (shows b A (w + j)) → a ≡ taken (wants_in q b A fresh h e w j) s
        → r ≡ taken (wants_at q b A h (e + j * t) d) a → r ≡ taken (wants_in q b A fresh h e w (j + 1)) s
    unfolding sum
    one_more j t d a te de ae re =
        re ∙ rw (te, de, ae, add-one) (taken_more (wants_in q b A fresh h e w j) (wants_at q b A h (e + j * span h) (cond fresh 0 (shows b A (w + j)))) s)

    -- after a refusal none is asked for
    pub refused_all : (m j k : ℕ) (l : List ℕ) → k ≡ j + m → supply false l ≡ taken (wants_in q b A fresh h e w j) s → supply false l ≡ taken (wants_in q b A fresh h e w k) s
    unfolding sum
    refused_all zero j k l g r = let z : j ≡ k = omega arith in r ∙ ap (λ (i : ℕ). taken (wants_in q b A fresh h e w i) s) z
    refused_all (suc m) j zero l g r = absurd (let z : ⊥ = omega arith in z)
    refused_all (suc m) j (suc k) l g r =
        let one = wants_at q b A h (e + k * span h) (cond fresh 0 (shows b A (w + k))) in
        no_more one l ∙ ap (taken one) (refused_all m j k l (omega arith) r) ∙ taken_more (wants_in q b A fresh h e w k) one s

    pub all-taken : (j n : ℕ) {r : Supply} → r ≡ taken (wants_in q b A fresh h e w j) s → j ≡ n → r ≡ taken (wants_in q b A fresh h e w n) s
    all-taken j n k g = k ∙ ap (λ (i : ℕ). taken (wants_in q b A fresh h e w i) s) g
