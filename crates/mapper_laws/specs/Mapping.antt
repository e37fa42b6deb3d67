-- What a mapping makes of an entry and all that it leads to. Assumes nothing.
use Rattle.std.specs.Prelude.{Bool, false, cond, ◌&&◌, not, ◌≡◌, ℕ, zero, suc, ◌+◌, ◌-◌, ◌*◌, ◌%◌, ◌^◌, ◌≤◌, ◌<◌, leb, ltb, eqb}
use Rattle.mapper_rules.specs.Walk.{span, Attributes, Translation, To, is_block_lem}
use Rattle.mapper_laws.specs.declared.Mapping.{Mapping}
use Rattle.mapper_laws.specs.Tree.{Entry, Ends, Leads, table, sum, some}

-- S2AP: bit 1 for writable, bit 0 for readable
unfoldable pub permission_of_lem : Bool → Bool → ℕ
permission_of_lem readable writable = cond writable 2 0 + cond readable 1 0

-- the mapping of `size` bytes from `input` on to those from `output` on
abbrev pub mapping_of : ℕ → ℕ → ℕ → Bool → Bool → Mapping
mapping_of output input size readable writable = record { from = input; past = input + size; out = output; permission = permission_of_lem readable writable }

-- whole pages, whose outputs lie below 2 ^ 48, and a permission of two bits
pub record Sane (q : Mapping) : Type 0 where
  pub from-page : q.from % 4096 ≡ 0
  pub past-page : q.past % 4096 ≡ 0
  pub out-page : q.out % 4096 ≡ 0
  pub in_memory : q.out + (q.past - q.from) ≤ 2 ^ 48
  pub two-bits : q.permission < 4

abbrev pub in_range : Mapping → ℕ → Bool
in_range q x = leb q.from x && ltb x q.past

-- the output of an input of the range
abbrev pub output_of : Mapping → ℕ → ℕ
output_of q x = q.out + (x - q.from)

-- normal memory, inner and outer write-back; inner shareable; accessed; read and written as asked; nothing else set
abbrev pub asked_attributes : ℕ → Attributes
asked_attributes p = record { mem_attr = 15; s2ap = p; sh = 3; af = 1; fnxs = 0; dbm = 0; contiguous = 0; xn = 0; software = 0; bit-50 = 0; ignored = 0 }

abbrev pub asked : Mapping → ℕ → Translation
asked q x = To (output_of q x) (asked_attributes q.permission)

-- of the entry at height h whose inputs begin at e: some are in the range; one leaf serves all of them, at level 1 or below; a table is wanted
abbrev pub meets : Mapping → ℕ → ℕ → Bool
meets q h e = ltb q.from (e + span h) && ltb e q.past

abbrev pub fits : Mapping → ℕ → ℕ → Bool
fits q h e = (leb q.from e && leb (e + span h) q.past) && (leb h 2 && eqb (output_of q e % span h) 0)

abbrev pub opens : Mapping → ℕ → ℕ → Bool
opens q h e = meets q h e && not (fits q h e)

-- AF, SH, MemAttr and the type, 11 at level 3 and 01 above; with S2AP and the output they are a leaf's word
abbrev pub low_bits : ℕ → ℕ
low_bits h = cond (eqb h 0) 0x73f 0x73d

abbrev pub leaf_word_lem : Mapping → ℕ → ℕ → ℕ
leaf_word_lem q h e = output_of q e + (64 * q.permission + low_bits h)

abbrev pub table_word_lem : ℕ → ℕ
table_word_lem page = page + 0x403

-- how many table pages it wants
unfoldable pub wants : Mapping → ℕ → ℕ → Entry → ℕ
wants q zero e E = 0
wants q (suc h) e (Ends d) = cond (opens q (suc h) e) (suc (sum 512 (λ j. wants q h (e + j * span h) (Ends 0)))) 0
wants q (suc h) e (Leads d f) = cond (opens q (suc h) e) (sum 512 (λ j. wants q h (e + j * span h) (f j))) 0

-- a block stands where a table is wanted
unfoldable pub blocked : Mapping → ℕ → ℕ → Entry → Bool
blocked q zero e E = false
blocked q (suc h) e (Ends d) = opens q (suc h) e && is_block_lem (suc h) d
blocked q (suc h) e (Leads d f) = opens q (suc h) e && some 512 (λ j. blocked q h (e + j * span h) (f j))

-- the entry afterwards; page k is the page that the door hands out after k others, and n is how many were handed out before
unfoldable pub mapped : Mapping → (ℕ → ℕ) → ℕ → ℕ → ℕ → Entry → Entry
mapped q page zero e n E = cond (meets q 0 e) (Ends (leaf_word_lem q 0 e)) E
mapped q page (suc h) e n (Ends d) =
    cond (opens q (suc h) e)
    (Leads (table_word_lem (page n)) (table (λ j. mapped q page h (e + j * span h) (suc n + sum j (λ i. wants q h (e + i * span h) (Ends 0))) (Ends 0))))
    (cond (meets q (suc h) e) (Ends (leaf_word_lem q (suc h) e)) (Ends d))
mapped q page (suc h) e n (Leads d f) =
    cond (opens q (suc h) e)
    (Leads d (table (λ j. mapped q page h (e + j * span h) (n + sum j (λ i. wants q h (e + i * span h) (f i))) (f j))))
    (cond (meets q (suc h) e) (Ends (leaf_word_lem q (suc h) e)) (Leads d f))
