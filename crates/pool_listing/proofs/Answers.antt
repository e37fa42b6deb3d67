-- The listing's answer, by each way through. Assumes nothing.
use Prim.Native.Nat.{ℕ, ◌<◌, ◌≤◌}
use mathlib.Core.Bool.{true, false, or-true}
use mathlib.Core.List.{List, map, map-map}
use Rattle.std.specs.Prelude.{None, Some}
use mathlib.Core.Path.{◌≡◌}
use lib.Dec.{ltb}
use lib.ListN.{length}
use native.Mathlib.Omega.{arith}
use borrow.Author.Tests.{lt-ltb, le-ltb}
use Rattle.rules.specs.Rules.{Range, Book, start_of, span, listing}
use Rattle.pool_listing.specs.Listing.{last_of, short, listed_of, shown, Wrote, Lists}

module _ (c : List Range) (starts lasts : List ℕ) where
  refused : short c (length starts) (length lasts) ≡ true → Lists c starts lasts None starts lasts
  unfolding listed_of shown
  refused e = record { answer = rw e; starts-now = rw e; lasts_now = rw e }

  pub starts-short : length starts < length c → Lists c starts lasts None starts lasts
  starts-short h = refused (rw (lt-ltb (length starts) (length c) h))

  pub lasts-short : length lasts < length c → Lists c starts lasts None starts lasts
  lasts-short h = refused (rw (lt-ltb (length lasts) (length c) h, or-true (ltb (length starts) (length c))))

  pub done : (k : ℕ) (starts' lasts' : List ℕ) → k ≡ length c → k ≤ length starts → k ≤ length lasts → Wrote c starts lasts starts' lasts' → Lists c starts lasts (Some k) starts' lasts'
  unfolding listed_of shown
  done k starts' lasts' all h g w =
      let e : short c (length starts) (length lasts) ≡ false = rw (le-ltb (length starts) (length c) (omega arith), le-ltb (length lasts) (length c) (omega arith)) in
      record { answer = rw (e, all); starts-now = rw e w.starts-now; lasts_now = rw e w.lasts_now }

-- what the slices get are the two columns of the rules' listing
module _ (b : Book) where
  pub listing-starts : map (λ p. p.0) (listing b) ≡ map start_of b.chain
  listing-starts = map-map (λ p. p.0) span b.chain

  pub listing-lasts : map (λ p. p.1) (listing b) ≡ map last_of b.chain
  listing-lasts = map-map (λ p. p.1) span b.chain
