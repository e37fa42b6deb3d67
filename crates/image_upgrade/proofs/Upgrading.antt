-- An upgraded image is the current image of the same chain, shelf and figure; one of the current version comes out as it went in, and a second upgrade changes nothing. Assumes nothing.
use Rattle.std.specs.Prelude.{Ok}
use mathlib.Core.Path.{◌≡◌, sym, ◌∙◌, ap}
use mathlib.Core.List.{List}
use Prim.Native.Nat.{ℕ}
use lib.ListN.{length}
use borrow.Author.Tests.{eq-eqb}
use Rattle.pool_state.specs.Shown.{pool}
use Rattle.pool_state.specs.Sound.{book_of}
use Rattle.bytes_be.specs.Numbers.{Bytes}
use Rattle.image_parts.specs.Layout.{current, length_at, image_size_lem}
use Rattle.image_parts.specs.Read.{number_in}
use Rattle.image_parts.proofs.Lawful.{housed-of}
use Rattle.image_writing.specs.Writing.{image_of}
use Rattle.image.specs.Writing.{Image, Written, number_of, written}
use Rattle.image.specs.Reading.{Handed, layout_in, told_by_lem, reading_any}
use Rattle.image.proofs.Rounds.{told-sound}
use Rattle.image.proofs.Versions.{grown-book, read-current, any-image, any-state, again-same}
use Rattle.image_upgrade.specs.Upgrades.{upgrading_of}

module _ (old l : List ℕ) (sized : length l ≡ image_size_lem current) where
  -- what was accepted is written
  pub upgraded : (reading_any old).number ≡ number_of (Ok tt) → upgrading_of old l ≡ written (Ok tt) (image_of current (reading_any old).state)
  unfolding upgrading_of
  upgraded e = rw (eq-eqb (length l) (image_size_lem current) sized, eq-eqb (reading_any old).number 0 e)

  module _ (bytes : Bytes old) (e : (reading_any old).number ≡ number_of (Ok tt)) where
    -- it is read as the old one is
    pub read_same : reading_any (upgrading_of old l).bytes ≡ reading_any old
    read_same = ap reading_any (ap (λ (w : Written). w.bytes) (upgraded e)) ∙ again-same old bytes e

    -- the chain and the shelf, with the numbers of the records, are those of the old image
    pub same-book : book_of pool (reading_any old).state.ranges ≡ book_of (layout_in old).records (any-image old bytes e).state.ranges
    same-book =
        let i = any-image old bytes e in
        let f = layout_in old in
        ap (λ (h : Handed). book_of pool h.state.ranges) (any-state old bytes e) ∙ grown-book f (housed-of (number_in old 0 length_at)) (told_by_lem f i.state) (told-sound f i.state i.sound)

    -- and the figure is what the old image tells: its own, or the total where it has none
    pub same-figure : (reading_any old).state.lowest ≡ (told_by_lem (layout_in old) (any-image old bytes e).state).lowest
    same-figure = ap (λ (h : Handed). h.state.lowest) (any-state old bytes e)

-- a second upgrade changes nothing
pub upgrade-again : (old l l' : List ℕ) → Bytes old → length l ≡ image_size_lem current → length l' ≡ image_size_lem current → (reading_any old).number ≡ number_of (Ok tt)
    → upgrading_of (upgrading_of old l).bytes l' ≡ written (Ok tt) (upgrading_of old l).bytes
upgrade-again old l l' bytes sized sized' e =
    let same = read_same old l sized bytes e in
    upgraded (upgrading_of old l).bytes l' sized' (ap (λ (h : Handed). h.number) same ∙ e)
    ∙ ap (λ (h : Handed). written (Ok tt) (image_of current h.state)) same ∙ sym (ap (λ (w : Written). written (Ok tt) w.bytes) (upgraded old l sized e))

-- an image of the current version comes out as it went in
pub current-unchanged : (old l : List ℕ) → length l ≡ image_size_lem current → Image current old → upgrading_of old l ≡ written (Ok tt) old
current-unchanged old l sized i =
    let e = ap reading_any (sym i.bytes) ∙ read-current i.state i.sound in
    upgraded old l sized (ap (λ (h : Handed). h.number) e) ∙ ap (λ (h : Handed). written (Ok tt) (image_of current h.state)) e ∙ ap (written (Ok tt)) i.bytes
