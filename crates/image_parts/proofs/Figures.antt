-- The figures of document 01's "Byte image", those of 256 records, and those with the lowest figure are those of the layouts. Assumes nothing.
use mathlib.Core.Path.{◌≡◌, refl}
use Prim.Native.Nat.{ℕ, ◌+◌, ◌*◌}
use Rattle.image_parts.specs.Layout.{Layout, version1, version2, version3, current, no_link, low_at, records_at_lem, record_size_lem, record_at, image_size_lem, rest_size}

-- version, records, the number of none, the length field, the bytes of all; and where record i stands
pub record Figures (f : Layout) (v n none rest all first apart : ℕ) : Type 0 where
  pub versions : f.version ≡ v
  pub counts : f.records ≡ n
  pub nones : no_link f ≡ none
  pub rests : rest_size f ≡ rest
  pub sizes : image_size_lem f ≡ all
  pub firsts : records_at_lem f ≡ first
  pub aparts : record_size_lem f ≡ apart

pub figures1 : Figures version1 1 64 255 1365 1370 26 21
figures1 = record { versions = refl; counts = refl; nones = refl; rests = refl; sizes = refl; firsts = refl; aparts = refl }

pub figures2 : Figures version2 2 256 65535 6434 6439 39 25
figures2 = record { versions = refl; counts = refl; nones = refl; rests = refl; sizes = refl; firsts = refl; aparts = refl }

pub figures3 : Figures version3 3 256 65535 6442 6447 47 25
figures3 = record { versions = refl; counts = refl; nones = refl; rests = refl; sizes = refl; firsts = refl; aparts = refl }

-- the first byte of the lowest figure, and of record i
pub lowest3 : low_at version3 ≡ 39
lowest3 = refl

pub places2 : (i : ℕ) → record_at version2 i ≡ 39 + 25 * i
places2 i = refl

pub places3 : (i : ℕ) → record_at version3 i ≡ 47 + 25 * i
places3 i = refl

pub current-is-3 : current ≡ version3
current-is-3 = refl
