-- Pages for tables from the page door over an image, and how many a mapping wants in an arena whose first word has the number b. Assumes nothing.
use Rattle.std.specs.Prelude.{Bool, not, cond, List, ℕ, zero, suc, ◌+◌, ◌*◌, pos}
use Rattle.std.specs.Int.Signed.{lt_z}
use Rattle.image_parts.specs.Layout.{current}
use Rattle.c_over.specs.CCalls.{Returned, allocate_pages_over}
use Rattle.mapper_rules.specs.Walk.{span}
use Rattle.mapper_laws.specs.declared.Mapping.{Mapping}
use Rattle.mapper_laws.specs.Tree.{page_of, leads_to, sum}
use Rattle.mapper_laws.specs.Mapping.{wants}
use Rattle.mapper_laws.specs.Arena.{shows}

-- one page, from a multiple of 4096
abbrev pub page_from : List ℕ → Returned
page_from l = allocate_pages_over current 1 12 l

-- whether all pages were to be had so far, and the image that is left
pub record Supply : Type 0 where
  pub enough : Bool
  pub bytes : List ℕ

abbrev pub supply : Bool → List ℕ → Supply
supply f l = record { enough = f; bytes = l }

-- one page more; after a refusal none is asked for, so that the door still answers what it answered
unfoldable pub asked : Supply → Supply
asked s = cond s.enough (supply (not (lt_z (page_from s.bytes).number (pos 0))) (page_from s.bytes).bytes) s

-- n pages more
unfoldable pub taken : ℕ → Supply → Supply
taken zero s = s
taken (suc n) s = asked (taken n s)

-- the word w, or 0 in a table that is to be cleared
abbrev pub word_in : ℕ → List ℕ → Bool → ℕ → ℕ
word_in b A fresh w = cond fresh 0 (shows b A w)

-- how many are wanted for what the descriptor d at height h leads to
abbrev pub wants_at : Mapping → ℕ → List ℕ → ℕ → ℕ → ℕ → ℕ
wants_at q b A h e d = wants q h e (leads_to page_of (shows b A) h d)

-- and for the n entries from the word w on, whose inputs begin at e
abbrev pub wants_in : Mapping → ℕ → List ℕ → Bool → ℕ → ℕ → ℕ → ℕ → ℕ
wants_in q b A fresh h e w n = sum n (λ j. wants_at q b A h (e + j * span h) (word_in b A fresh (w + j)))
