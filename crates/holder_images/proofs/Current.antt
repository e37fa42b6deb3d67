-- Bytes of the current length are read as the current version, or not at all: an image of an older version is shorter. Assumes nothing.
use Prim.Native.Nat.{ℕ}
use mathlib.Core.Bool.{Bool, true, false, ◌&&◌}
use mathlib.Core.List.{List}
use mathlib.Core.Path.{◌≡◌, refl, sym, ap, ◌∙◌}
use native.Mathlib.Omega.{arith}
use lib.Dec.{eqb}
use lib.ListN.{length}
use borrow.Author.Tests.{eqb-true}
use Rattle.pool_state.specs.Shown.{pool}
use Rattle.account_state.specs.Account.{is_sound_lem}
use Rattle.account_state.proofs.Exact.{both, passes-sound}
use Rattle.image_parts.specs.Layout.{Layout, version1, version2, current, length_at, image_size_lem}
use Rattle.image_parts.specs.Read.{number_in}
use Rattle.image_parts.proofs.Lawful.{small-pool, lawful-current}
use Rattle.image_reading.specs.Reading.{framed, account_in, readable, grown}
use Rattle.image_reading.proofs.Whole.{state-sized}
use Rattle.image.specs.Reading.{reading_of, layout_in, reading_any}
use Rattle.image.proofs.Ways.{framed-not, framed-frame, unread, read_whole, any-unread, any-read}
use Rattle.image.proofs.Versions.{grown-same}

module _ (l : List ℕ) where
  both-refused : readable (layout_in l) l ≡ false → readable current l ≡ false → reading_any l ≡ reading_of current l
  both-refused e d = sym (any-unread l false (sym e) refl) ∙ unread current l false (sym d) refl

  -- of another layout
  older : (f : Layout) → layout_in l ≡ f → (length l ≡ image_size_lem f → ⊥) → (number_in l 0 length_at ≡ current.version → ⊥) → reading_any l ≡ reading_of current l
  older f is short other =
      both-refused
      (ap (λ (x : Layout). readable x l) is ∙ ap (λ (b : Bool). b && is_sound_lem f.records (account_in f l)) (sym (framed-not f l short)))
      (go (readable current l) refl)
    where
      go : (b : Bool) → readable current l ≡ b → b ≡ false
      go true e = absurd (other (framed-frame current l (both (framed current l) _ e).0).versions)
      go false e = refl

  -- of this one
  same : layout_in l ≡ current → reading_any l ≡ reading_of current l
  same is = go (readable current l) refl
    where
      go : (b : Bool) → readable current l ≡ b → reading_any l ≡ reading_of current l
      go true e =
          let a = account_in current l in
          let sound = passes-sound pool (small-pool current lawful-current) a (state-sized current l) (both (framed current l) _ e).1 in
          let told = sym e ∙ ap (λ (x : Layout). readable x l) (sym is) in
          let grows = sym (grown-same a sound) ∙ ap (λ (x : Layout). grown x.records pool (account_in x l)) (sym is) in
          sym (any-read l true told refl a grows) ∙ read_whole current l true (sym e) refl a refl
      go false e = both-refused (ap (λ (x : Layout). readable x l) is ∙ e) e

  pub current-read : length l ≡ image_size_lem current → reading_any l ≡ reading_of current l
  current-read sized = pick (eqb (number_in l 0 length_at) version1.version) (eqb (number_in l 0 length_at) version2.version) refl refl
    where
      pick : (t u : Bool) → eqb (number_in l 0 length_at) version1.version ≡ t → eqb (number_in l 0 length_at) version2.version ≡ u → reading_any l ≡ reading_of current l
      pick true u e g = let v = eqb-true (number_in l 0 length_at) version1.version e in older version1 (rw e) (λ h. omega arith) (λ h. omega arith)
      pick false true e g = let v = eqb-true (number_in l 0 length_at) version2.version g in older version2 (rw (e, g)) (λ h. omega arith) (λ h. omega arith)
      pick false false e g = same (rw (e, g))
