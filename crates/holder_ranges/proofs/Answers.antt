-- What a list answers and leaves, by each way through. n is the number of records. Assumes nothing.
use Prim.Native.Nat.{ℕ, ◌≤◌, ◌<◌}
use mathlib.Core.Bool.{Bool, true, false, cond, ◌&&◌}
use mathlib.Core.List.{List}
use mathlib.Core.Logic.{◌≢◌}
use mathlib.Core.Path.{◌≡◌, sym, ap, ◌∙◌, subst}
use lib.Dec.{T, leb, leb→le}
use lib.ListN.{length}
use borrow.Author.Tests.{eq-eqb, ne_eqb, le-leb, lt-leb}
use Rattle.rules_laws.proofs.Lists.{and_l, and_r}
use Rattle.std.specs.Prelude.{Ok, Err}
use Rattle.pool_state.specs.declared.Address.{Address}
use Rattle.core_accounts.specs.Accounts.{counted, refused}
use Rattle.calls.specs.Calls.{Answer, number_of}
use Rattle.calls.specs.declared.MemoryError.{MemoryError}
use Rattle.calls.specs.declared.MemoryError.TheVariants.{InvalidRequest}
use Rattle.calls.proofs.Numbers.{refusal-nonzero}
use Rattle.holder_rules.specs.declared.HolderAllocator.{HolderAllocator}
use Rattle.holder_lists.specs.Accounts.{asked_of, asked}
use Rattle.holder_lists.specs.declared.Whose.{Whose}
use Rattle.holder_ranges.specs.Holdings.{has_room_lem, ranges_in, room_in, listing_of, shown_of, Room, Wrote, Lists}

-- ---- the room in three slices

module _ (k a b c : ℕ) where
  pub no-holders : a < k → false ≡ has_room_lem k a b c
  no-holders h = sym (ap (λ (x : Bool). x && (leb k b && leb k c)) (lt-leb k a h))

  pub no-starts : k ≤ a → b < k → false ≡ has_room_lem k a b c
  no-starts h g = sym (ap (λ (x : Bool). x && (leb k b && leb k c)) (le-leb k a h) ∙ ap (λ (x : Bool). x && leb k c) (lt-leb k b g))

  pub in-lasts : k ≤ a → k ≤ b → leb k c ≡ has_room_lem k a b c
  in-lasts h g = sym (ap (λ (x : Bool). x && (leb k b && leb k c)) (le-leb k a h) ∙ ap (λ (x : Bool). x && leb k c) (le-leb k b g))

pub room→ : (k : ℕ) (hs ss ls : List ℕ) → has_room_lem k (length hs) (length ss) (length ls) ≡ true → Room k hs ss ls
room→ k hs ss ls e =
    let t : T (has_room_lem k (length hs) (length ss) (length ls)) = subst T (sym e) tt in
    let u = and_r (leb k (length hs)) (leb k (length ss) && leb k (length ls)) t in
    record {
      in-holders = leb→le k (length hs) (and_l (leb k (length hs)) (leb k (length ss) && leb k (length ls)) t);
      in-starts = leb→le k (length ss) (and_l (leb k (length ss)) (leb k (length ls)) u);
      in-lasts = leb→le k (length ls) (and_r (leb k (length ss)) (leb k (length ls)) u);
    }

-- ---- the answer

module _ (n : ℕ) (s : HolderAllocator) (w : Whose) (hs ss ls : List ℕ) (k : Answer) (e : k ≡ asked_of n s w) where
  pub not_listed : (x : MemoryError) → k ≡ Err x → Lists n s w hs ss ls (refused x) hs ss ls
  unfolding listing_of shown_of asked
  not_listed x i =
      let f = ne_eqb (number_of k) 0 (λ q. refusal-nonzero Address x (sym (ap number_of i) ∙ q)) in
      record { answer = rw (sym e, i); holders-now = rw (sym e, f); starts-now = rw (sym e, f); lasts_now = rw (sym e, f) }

  module _ (a : Address) (i : k ≡ Ok a) where
    pub too_short : room_in s w hs ss ls ≡ false → Lists n s w hs ss ls (refused InvalidRequest) hs ss ls
    unfolding listing_of shown_of asked
    too_short r =
        let f = eq-eqb (number_of k) 0 (ap number_of i) in
        record { answer = rw (r, sym e, i); holders-now = rw (r, sym e, f); starts-now = rw (r, sym e, f); lasts_now = rw (r, sym e, f) }

    pub listed : room_in s w hs ss ls ≡ true → (c : ℕ) → c ≡ length (ranges_in s w) → (hs' ss' ls' : List ℕ) → Wrote (ranges_in s w) hs ss ls hs' ss' ls' → Lists n s w hs ss ls (counted c) hs' ss' ls'
    unfolding listing_of shown_of asked
    listed r c q hs' ss' ls' o =
        let f = eq-eqb (number_of k) 0 (ap number_of i) in
        record {
          answer = rw (r, sym e, i, q);
          holders-now = rw (r, sym e, f) o.holders-now;
          starts-now = rw (r, sym e, f) o.starts-now;
          lasts_now = rw (r, sym e, f) o.lasts_now;
        }
