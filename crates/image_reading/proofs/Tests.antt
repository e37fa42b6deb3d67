-- What the definitions give on each way through the tests of the head. Assumes nothing.
use mathlib.Core.Path.{◌≡◌}
use mathlib.Core.Bool.{false}
use mathlib.Core.List.{List}
use Prim.Native.Nat.{ℕ}
use lib.Dec.{eqb}
use lib.ListN.{length}
use borrow.Author.Tests.{eq-eqb, ne_eqb}
use Rattle.image_parts.specs.Layout.{Layout, length_at, length_size, image_size_lem, rest_size}
use Rattle.image_parts.specs.Read.{number_in}
use Rattle.image_reading.specs.Reading.{headed}

module _ (f : Layout) (l : List ℕ) where
  pub headed-not : (length l ≡ image_size_lem f → ⊥) → false ≡ headed f l
  unfolding headed
  headed-not h = rw (ne_eqb (length l) (image_size_lem f) h)

  module _ (h : length l ≡ image_size_lem f) (v : ℕ) (ev : v ≡ number_in l 0 length_at) where
    pub headed-version : (v ≡ f.version → ⊥) → false ≡ headed f l
    unfolding headed
    headed-version off = rw (eq-eqb (length l) (image_size_lem f) h, ← ev, ne_eqb v f.version off)

    pub headed-rest : v ≡ f.version → (r : ℕ) → r ≡ number_in l length_at length_size → eqb r (rest_size f) ≡ headed f l
    unfolding headed
    headed-rest on r er = rw (eq-eqb (length l) (image_size_lem f) h, ← ev, eq-eqb v f.version on, ← er)
