-- The mapping as stores into a lent arena, in the order of MiniVisor's module, with pages from the door over an image. The arena's first word has
-- the number b. A word is cut to its 64 bits. Assumes nothing.
use Rattle.std.specs.Prelude.{cond, List, ℕ, zero, suc, ◌+◌, ◌*◌, ◌%◌, ◌^◌}
use Rattle.calls.specs.Calls.{address_from}
use Rattle.mapper_rules.specs.Walk.{span, is_table_lem}
use Rattle.mapper_laws.specs.declared.Mapping.{Mapping}
use Rattle.mapper_laws.specs.Tree.{page_of}
use Rattle.mapper_laws.specs.Mapping.{meets, opens, leaf_word_lem, table_word_lem}
use Rattle.mapper_laws.specs.Arena.{shows, stored, cleared}
use Rattle.mapper_pages.specs.Pages.{page_from}

pub record Held : Type 0 where
  pub arena : List ℕ
  pub bytes : List ℕ

abbrev pub held : List ℕ → List ℕ → Held
held A l = record { arena = A; bytes = l }

abbrev pub put : ℕ → ℕ → ℕ → Held → Held
put b w v s = held (stored b s.arena w v) s.bytes

-- the word that leads to the page that the door hands out next
unfoldable pub next_word_lem : Held → ℕ
next_word_lem s = table_word_lem (address_from (page_from s.bytes).number) % 2 ^ 64

-- that page is handed out, its words are cleared, and the word w leads to it
unfoldable pub made_table_lem : ℕ → ℕ → Held → Held
made_table_lem b w s = held (stored b (cleared 512 b s.arena (512 * page_of (next_word_lem s))) w (next_word_lem s)) (page_from s.bytes).bytes

-- f 0, then f 1, .. n of them
unfoldable pub steps : ℕ → (ℕ → Held → Held) → Held → Held
steps zero f s = s
steps (suc n) f s = f n (steps n f s)

-- the entry in the word w, at height h, whose inputs begin at e
unfoldable pub store : Mapping → ℕ → ℕ → ℕ → ℕ → Held → Held
store q b zero e w s = cond (meets q 0 e) (put b w (leaf_word_lem q 0 e % 2 ^ 64) s) s
store q b (suc h) e w s =
    cond (opens q (suc h) e)
    (cond (is_table_lem (shows b s.arena w))
    (steps 512 (λ j. store q b h (e + j * span h) (512 * page_of (shows b s.arena w) + j)) s)
    (steps 512 (λ j. store q b h (e + j * span h) (512 * page_of (next_word_lem s) + j)) (made_table_lem b w s)))
    (cond (meets q (suc h) e) (put b w (leaf_word_lem q (suc h) e % 2 ^ 64) s) s)

-- n entries from the word w on
abbrev pub store_in_lem : Mapping → ℕ → ℕ → ℕ → ℕ → ℕ → Held → Held
store_in_lem q b h e w n = steps n (λ j. store q b h (e + j * span h) (w + j))
