-- A map on each way through its passes. Assumes nothing.
use mathlib.Core.Path.{◌≡◌, sym, ◌∙◌, ap, subst}
use mathlib.Core.Bool.{Bool, true, false, not}
use mathlib.Core.List.{List}
use Prim.Native.Nat.{ℕ, ◌+◌, ◌*◌, ◌/◌, ◌^◌, ◌≤◌}
use native.Mathlib.Omega.{arith}
use lib.Dec.{T}
use lib.IntN.{ℤ, pos, negsuc}
use lib.ListN.{length, replicate, length-replicate}
use borrow.Author.Tests.{eq-eqb, ne_eqb}
use Rattle.linked_lists.proofs.Laws.{true≢false}
use Rattle.image_parts.specs.Layout.{current, image_size_lem}
use Rattle.c_over.specs.CCalls.{Returned, returned}
use Rattle.mapper_rules.specs.Walk.{span}
use Rattle.mapper_rules.specs.Numbers.{bad_registers_lem, bad_numbers_lem}
use Rattle.mapper_laws.specs.declared.Mapping.{Mapping}
use Rattle.mapper_laws.specs.Mapping.{permission_of_lem, mapping_of}
use Rattle.mapper_laws.proofs.Asked.{Asked, asked}
use Rattle.mapper_laws.proofs.Registers.{top-of}
use Rattle.mapper_blocks.specs.Blocks.{blocked_in}
use Rattle.mapper_pages.specs.Pages.{page_from, Supply, supply, taken, wants_in}
use Rattle.mapper_stores.specs.Stores.{Held, held, store_in_lem}
use Rattle.mapper_tables.specs.declared.Top.{Top}
use Rattle.mapper_lies.specs.Lies.{top_of, lies}
use Rattle.mapper_lies.proofs.Tops.{Small, small_top}
use Rattle.mapper.specs.Maps.{Left, left, refuse, in_the_way, tried, stored, finished, map_over}

to-T : (c : Bool) → c ≡ false → T (not c)
to-T true e = true≢false e
to-T false e = tt

pub fresh-copy : length (replicate {A = ℕ} (image_size_lem current) 0) ≡ image_size_lem current
fresh-copy = length-replicate {A = ℕ} (image_size_lem current) 0

-- ---- after the numbers, the image and the tables

module _ (q : Mapping) (b : ℕ) (t : Top) (l A : List ℕ) where
  abbrev judged : Left
  judged = refuse (in_the_way q b t A) (negsuc 3) l A (finished q b t l A)

  module _ (c : Bool) (blocked : c ≡ blocked_in q b A t.height 0 t.word t.entries) where
    pub way-blocked : c ≡ true → left (negsuc 3) l A ≡ judged
    unfolding refuse in_the_way
    way-blocked e = rw (sym blocked ∙ e)

    module _ (clear : c ≡ false) (k l' : List ℕ) (copied : k ≡ l) (f : Bool) (asks : supply f l' ≡ taken (wants_in q b A false t.height 0 t.word t.entries) (supply true k)) where
      tries : supply f l' ≡ tried q b t l A
      unfolding tried
      tries = asks ∙ ap (λ (x : List ℕ). taken (wants_in q b A false t.height 0 t.word t.entries) (supply true x)) copied

      pub all-stored : f ≡ true → (B m : List ℕ) → held B m ≡ store_in_lem q b t.height 0 t.word t.entries (held A l) → left (pos 0) m B ≡ judged
      unfolding refuse in_the_way finished stored
      all-stored e B m s =
          ap (λ (h : Held). left (pos 0) h.bytes h.arena) s
          ∙ rw (sym blocked ∙ clear, sym (ap (λ (s : Supply). s.enough) tries) ∙ e)

      pub no-page : f ≡ false → (i : ℤ) (m : List ℕ) → returned i m ≡ page_from l' → left i l A ≡ judged
      unfolding refuse in_the_way finished
      no-page e i m d =
          ap (λ (r : Returned). left r.number l A) d ∙ ap (λ (s : Supply). left (page_from s.bytes).number l A) tries
          ∙ rw (sym blocked ∙ clear, sym (ap (λ (s : Supply). s.enough) tries) ∙ e)

-- ---- the whole

module _ (base vttbr vtcr output input size : ℕ) (readable writable : Bool) (l A : List ℕ) where
  abbrev whole : Left
  whole = map_over base vttbr vtcr output input size readable writable l A

  pub wrong-length : (length l ≡ image_size_lem current → ⊥) → left (negsuc 1) l A ≡ whole
  unfolding map_over refuse
  wrong-length n = rw (ne_eqb (length l) (image_size_lem current) n)

  module _ (len : length l ≡ image_size_lem current) (bad : Bool) (told : bad ≡ bad_numbers_lem base vttbr vtcr output input size) where
    pub wrong-numbers : bad ≡ true → left (negsuc 3) l A ≡ whole
    unfolding map_over refuse
    wrong-numbers e = rw (eq-eqb (length l) (image_size_lem current) len, sym told ∙ e)

    module _ (good : bad ≡ false) where
      right-numbers : T (not (bad_numbers_lem base vttbr vtcr output input size))
      right-numbers = to-T (bad_numbers_lem base vttbr vtcr output input size) (sym told ∙ good)

      abbrev is-asked : Asked vttbr vtcr output input size readable writable
      is-asked = asked base vttbr vtcr output input size readable writable right-numbers

      pub right-registers : T (not (bad_registers_lem vttbr vtcr))
      right-registers = is-asked.registers

      pub small : Small vttbr vtcr
      small = small_top vttbr vtcr right-registers

      pub sum_fits : input + size ≤ 2 ^ 48
      sum_fits = let i = is-asked.inside in let e = (top-of vttbr vtcr right-registers).inputs in let s = small.inputs in omega arith

      pub lies-asks : (t : Top) → t ≡ top_of vttbr vtcr → (t.page + t.pages ≤ 2 ^ 40) × (t.word + t.entries ≤ 2 ^ 50)
      lies-asks t e = subst (λ (x : Top). (x.page + x.pages ≤ 2 ^ 40) × (x.word + x.entries ≤ 2 ^ 50)) (sym e) (small.pages, small.words)

      pub map-asks : (t : Top) → t ≡ top_of vttbr vtcr → (length l ≡ image_size_lem current) × (t.height ≤ 3) × (t.entries * span t.height ≤ 2 ^ 48) × (t.word + t.entries ≤ 2 ^ 50)
      map-asks t e = subst (λ (x : Top). (length l ≡ image_size_lem current) × (x.height ≤ 3) × (x.entries * span x.height ≤ 2 ^ 48) × (x.word + x.entries ≤ 2 ^ 50)) (sym e) (len, small.level, small.inputs, small.words)

      module _ (t : Top) (top : t ≡ top_of vttbr vtcr) (c : Bool) (lying : c ≡ lies base t l A) where
        it-lies : lies base (top_of vttbr vtcr) l A ≡ c
        it-lies = sym (lying ∙ ap (λ (x : Top). lies base x l A) top)

        pub lies-wrong : c ≡ false → left (negsuc 1) l A ≡ whole
        unfolding map_over refuse
        lies-wrong e = rw (eq-eqb (length l) (image_size_lem current) len, sym told ∙ good, it-lies ∙ e)

        pub lies-right : c ≡ true → (p : ℕ) → p ≡ permission_of_lem readable writable → (r : Left)
            → r ≡ judged (record { from = input; past = input + size; out = output; permission = p }) (base / 8) t l A → r ≡ whole
        unfolding map_over refuse
        lies-right e p pe r j =
            j ∙ ap (λ (x : ℕ). judged (record { from = input; past = input + size; out = output; permission = x }) (base / 8) t l A) pe
            ∙ ap (λ (x : Top). judged (mapping_of output input size readable writable) (base / 8) x l A) top
            ∙ rw (eq-eqb (length l) (image_size_lem current) len, sym told ∙ good, it-lies ∙ e)
