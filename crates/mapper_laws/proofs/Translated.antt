-- The whole: after the stores every input of the range is translated as asked, and every other one as before. Words are counted from address 0. Assumes nothing.
use mathlib.Core.Path.{◌≡◌, refl, sym, ◌∙◌, ap, subst}
use mathlib.Core.Bool.{Bool, true, false, not, cond, ◌&&◌}
use Prim.Native.Nat.{ℕ, zero, suc, ◌+◌, ◌*◌, ◌/◌, ◌%◌, ◌^◌, ◌<◌}
use native.Mathlib.Omega.{arith}
use native.Mathlib.Nat.{mod-mod, mul-mod_left, div-add-mod', mod-lt, div-lt_iff_lt-mul, mul-div_cancel, mul_assoc, zero-add, le_refl}
use lib.Arith.{digits_mod}
use lib.Pow.{pow-add}
use lib.Dec.{T, leb, eqb, eqb→eq, lit<, eqb-suc-zero}
use Rattle.mapper_rules.specs.Walk.{span, Translation, Fault, is_table_lem, is_block_lem, table_at, leaf, walk_from}
use Rattle.rules_laws.proofs.Lists.{and_r, not-and}
use Rattle.mapper_laws.specs.declared.Mapping.{Mapping}
use Rattle.mapper_laws.specs.Tree.{Entry, Ends, Leads, table, memory, page_of, walk_entry, leads_to}
use Rattle.mapper_laws.specs.Mapping.{Sane, in_range, output_of, asked, meets, fits, opens, leaf_word_lem, table_word_lem, blocked}
use Rattle.mapper_laws.specs.Stores.{Stored, steps, store}
use Rattle.mapper_laws.proofs.Tests.{not-not}
use Rattle.mapper_laws.proofs.Spans.{span_pos}
use Rattle.mapper_laws.proofs.Mapped.{mapped-walk}
use Rattle.mapper_laws.proofs.Handed.{slot}
use Rattle.mapper_laws.proofs.Refines.{Table, after, loop, refines}

word_of : (p j : ℕ) → (p * 4096 + 8 * j) / 8 ≡ 512 * p + j
word_of p j = ap (λ (y : ℕ). y / 8) (let e : p * 4096 + 8 * j ≡ (512 * p + j) * 8 = omega arith in e) ∙ mul-div_cancel (512 * p + j) (lit< tt)

pub tree-walk : (word : ℕ → ℕ) (h d x : ℕ) → walk_from (memory word) h d x ≡ walk_entry h (leads_to page_of word h d) x
unfolding walk_from leads_to walk_entry
tree-walk word zero d x = refl
tree-walk word (suc h) d x = go (is_table_lem d) (
    ap (λ (w : ℕ). walk_from (memory word) h (word w) x) (word_of (page_of d) (x / span h % 512))
    ∙ tree-walk word h (word (512 * page_of d + x / span h % 512)) x
    ∙ ap (λ (i : ℕ). walk_entry h (leads_to page_of word h (word (512 * page_of d + i))) x) (sym (mod-mod (x / span h) 512)))
  where
    go : (c : Bool) → walk_from (memory word) h (memory word (table_at d + 8 * (x / span h % 512))) x ≡ walk_entry h (leads_to page_of word h (word (512 * page_of d + x / span h % 512 % 512))) x
        → cond c (walk_from (memory word) h (memory word (table_at d + 8 * (x / span h % 512))) x) (cond (is_block_lem (suc h) d) (leaf (suc h) d x) Fault)
        ≡ walk_entry (suc h) (cond c (Leads d (table (λ j. leads_to page_of word h (word (512 * page_of d + j))))) (Ends d)) x
    go true e = e
    go false e = refl

-- a multiple of a span is one of 4, and a word that ends in 01 is no table
quarter : (h : ℕ) → (k : ℕ) × (span h ≡ k * 4)
unfolding span
quarter h = (2 ^ (10 + 9 * h), (let e : 12 + 9 * h ≡ (10 + 9 * h) + 2 = omega arith in ap (λ (y : ℕ). 2 ^ y) e ∙ pow-add 2 (10 + 9 * h) 2))

block-word : (o p : ℕ) → o % 4 ≡ 0 → (o + (64 * p + 0x73d)) % 4 ≡ 1
block-word o p e =
    let d = div-add-mod' o 4 in
    let a : o + (64 * p + 0x73d) ≡ (o / 4 + (16 * p + 463)) * 4 + 1 = omega arith in
    rw a (digits_mod (o / 4 + (16 * p + 463)) (lit< tt))

multiple-of-4 : (o h : ℕ) → o % span h ≡ 0 → o % 4 ≡ 0
multiple-of-4 o h e =
    let k = quarter h in
    let d = div-add-mod' o (span h) in
    let a : o ≡ o / span h * span h = omega arith in
    let b : o ≡ o / span h * k.0 * 4 = a ∙ ap (λ (y : ℕ). o / span h * y) k.1 ∙ sym (mul_assoc (o / span h) k.0 4) in
    ap (λ (y : ℕ). y % 4) b ∙ mul-mod_left (o / span h * k.0) 4

not_three : (n : ℕ) → n ≡ 1 → T (not (eqb n 3))
not_three n e = subst (λ (y : ℕ). T (not (eqb y 3))) (sym e) tt

module _ (q : Mapping) where
  pub leaf-ends : (h e : ℕ) → T (not (opens q (suc h) e)) → T (meets q (suc h) e) → T (not (is_table_lem (leaf_word_lem q (suc h) e)))
  leaf-ends h e o m =
      let f = not-not (fits q (suc h) e) (not-and (meets q (suc h) e) (not (fits q (suc h) e)) o m) in
      let a = leb q.from e && leb (e + span (suc h)) q.past in
      let b = leb (suc h) 2 && eqb (output_of q e % span (suc h)) 0 in
      let z = eqb→eq (output_of q e % span (suc h)) 0 (and_r (leb (suc h) 2) (eqb (output_of q e % span (suc h)) 0) (and_r a b f)) in
      not_three (leaf_word_lem q (suc h) e % 4) (rw (eqb-suc-zero h) (block-word (output_of q e) q.permission (multiple-of-4 (output_of q e) (suc h) z)))

  -- the pages that the door hands out
  pub record Pages (page : ℕ → ℕ) (N : ℕ) : Type 0 where
    pub whole : (k : ℕ) → k < N → page k % 4096 ≡ 0
    pub once : (k l : ℕ) → k < N → l < N → slot q page page_of k ≡ slot q page page_of l → k ≡ l

  pub table-word : (a : ℕ) → a % 4096 ≡ 0 → T (is_table_lem (table_word_lem a))
  table-word a e =
      let d = div-add-mod' a 4096 in
      let b : table_word_lem a ≡ (a / 4096 * 1024 + 256) * 4 + 3 = omega arith in
      let c : table_word_lem a % 4 ≡ 3 = rw b (digits_mod (a / 4096 * 1024 + 256) (lit< tt)) in
      rw c tt

  module _ (page : ℕ → ℕ) (N : ℕ) (pages : Pages page N) (sane : Sane q) (H first m : ℕ) (Own : ℕ → Type 0) (s : Stored) (f : ℕ → Entry) where
    abbrev pub named : (k : ℕ) → k < N → T (is_table_lem (table_word_lem (page k)))
    named k l = table-word (page k) (pages.whole k l)

    -- the top table has m entries from the word `first` on
    abbrev pub walk_top : Stored → ℕ → Translation
    walk_top t x = walk_from (memory t.word) H (t.word (first + x / span H)) x

    pub translated : Table q page page_of N named pages.once leaf-ends H 0 first m Own s f → ((j : ℕ) → j < m → T (not (blocked q H (j * span H) (f j))))
        → (x : ℕ) → x < m * span H
        → walk_top (steps m (λ j. store q page page_of H (0 + j * span H) (first + j)) s) x ≡ cond (in_range q x) (asked q x) (walk_top s x)
    translated b free x low =
        let j = x / span H in
        let few : j < m = (div-lt_iff_lt-mul {k = span H} {x = x} {y = m} (span_pos H)).1 low in
        let u = loop q page page_of N named pages.once leaf-ends H 0 first m Own s f m (le_refl m) (refines q page page_of N named pages.once leaf-ends H) b in
        let t = steps m (λ j. store q page page_of H (0 + j * span H) (first + j)) s in
        let d = div-add-mod' x (span H) in
        let r = mod-lt x (span_pos H) in
        tree-walk t.word H (t.word (first + j)) x
        ∙ ap (λ (E : Entry). walk_entry H E x) (u.done j few)
        ∙ mapped-walk q page H (0 + j * span H) _ (f j) x sane (rw zero-add (mul-mod_left j (span H))) (rw zero-add (free j few)) (omega arith) (omega arith)
        ∙ ap (λ (y : Translation). cond (in_range q x) (asked q x) y) (ap (λ (E : Entry). walk_entry H E x) (sym (b.entries j few)) ∙ sym (tree-walk s.word H (s.word (first + j)) x))
