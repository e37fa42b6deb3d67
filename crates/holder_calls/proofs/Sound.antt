-- The check of an image: whether the allocator in it can be read, and whether the register is sound beside what was read. Assumes nothing.
use Prim.Native.Nat.{ℕ, ◌+◌, ◌≤◌}
use mathlib.Core.Bool.{Bool, true, false}
use mathlib.Core.List.{List}
use mathlib.Core.Path.{◌≡◌, sym, ap, ◌∙◌}
use lib.ListN.{length, take, drop}
use Rattle.rules.specs.Rules.{Range}
use Rattle.pool_state.specs.Shown.{pool}
use Rattle.pool_chain.specs.Chain.{Ordered}
use Rattle.account_state.specs.declared.Account.{Account}
use Rattle.image_parts.specs.Layout.{current}
use Rattle.image_reading.specs.Reading.{account_in, readable, ReadsCurrent}
use Rattle.image.specs.Reading.{reading_of}
use Rattle.image_calls.specs.Lists.{Held}
use Rattle.mapper_free.specs.Free.{chain_in}
use Rattle.mapper_free.proofs.Ranges.{read-ordered}
use Rattle.holder_image.specs.Layout.{memory_at}
use Rattle.holder_image.specs.Bytes.{memory_in}
use Rattle.holder_rules.specs.Sound.{register_sound}
use Rattle.holder_rules.specs.declared.Entry.{Entry}
use Rattle.holder_calls.specs.Calls.{sound_in_lem}
use Rattle.holder_image.proofs.Parts.{part-is}

module _ (m : List ℕ) (r : List Entry) where
  pub read-sound : readable current m ≡ true → register_sound (chain_in m) r ≡ sound_in_lem current m r
  unfolding sound_in_lem reading_of
  read-sound e = rw e

  pub unread-unsound : readable current m ≡ false → sound_in_lem current m r ≡ false
  unfolding sound_in_lem reading_of
  unread-unsound e = rw e

module _ (l : List ℕ) where
  -- what was read of the part that is the allocator's
  module _ (k : ℕ) (all : length l ≤ memory_at + k) (r : Bool) (a : Account) (o : ReadsCurrent current (take k (drop memory_at l)) r a) where
    memory-read : r ≡ readable current (memory_in l)
    memory-read = o.told ∙ ap (readable current) (part-is l k all)

    pub read_held : r ≡ true → Held current (memory_in l) a
    read_held t = record { serves = sym memory-read ∙ t; state = o.state t ∙ ap (account_in current) (part-is l k all) }

    pub not-read : (q : List Entry) → r ≡ false → sound_in_lem current (memory_in l) q ≡ false
    not-read q t = unread-unsound (memory_in l) q (sym memory-read ∙ t)

  module _ (a : Account) (h : Held current (memory_in l) a) where
    pub held-ordered : Ordered pool (chain_in (memory_in l)) a.ranges.start a.ranges.end a.ranges.next a.ranges.first_entry.0
    held-ordered = read-ordered (memory_in l) a.ranges h.serves (ap (λ (x : Account). x.ranges) h.state)

    -- the test of a register, beside the free ranges that were read
    pub judged : (q : List Entry) (b : Bool) → ((c : List Range) → Ordered pool c a.ranges.start a.ranges.end a.ranges.next a.ranges.first_entry.0 → b ≡ register_sound c q) → sound_in_lem current (memory_in l) q ≡ b
    judged q b f = sym (f (chain_in (memory_in l)) held-ordered ∙ read-sound (memory_in l) q h.serves)
