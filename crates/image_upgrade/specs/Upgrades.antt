-- What an upgrade answers, and the bytes that it leaves. Assumes nothing.
use Rattle.std.specs.Prelude.{Bool, cond, ◌&&◌, List, ℕ, eqb, length, Ok, Err}
use Rattle.image_parts.specs.Layout.{current, image_size_lem}
use Rattle.image_writing.specs.Writing.{image_of}
use Rattle.image.specs.Writing.{Written, written, invalid}
use Rattle.image.specs.Reading.{reading_any}

-- the old bytes are an image, and the slice has the length of one of now
abbrev pub upgrades : List ℕ → List ℕ → Bool
upgrades old l = eqb (length l) (image_size_lem current) && eqb (reading_any old).number 0

-- the current image of the state that is read; else the slice is as it was
unfoldable pub upgrading_of : List ℕ → List ℕ → Written
upgrading_of old l = cond (upgrades old l) (written (Ok tt) (image_of current (reading_any old).state)) (written (Err invalid) l)
