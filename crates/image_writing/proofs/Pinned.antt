-- The bytes of one account, whole, by each layout: what stands where, so that fields that change places in code and definition alike are seen. Assumes nothing.
use mathlib.Core.Path.{◌≡◌, refl}
use mathlib.Core.Bool.{true, false}
use mathlib.Core.List.{List, [], ◌∷◌}
use Prim.Native.Nat.{ℕ}
use Rattle.bytes_be.specs.Numbers.{be}
use Rattle.pool_state.specs.State.{arrays}
use Rattle.account_state.specs.Account.{account}
use Rattle.account_state.specs.declared.Account.{Account}
use Rattle.image_parts.specs.Layout.{Layout, version1, version2, version3}
use Rattle.image_parts.specs.Written.{joined, link_bytes, record_bytes, head_bytes}
use Rattle.image_writing.specs.Writing.{image_of}

-- a layout with two records of its own
abbrev two : Layout → Layout
two f = record { version = f.version; records = 2; link = f.link; low = f.low }

-- every byte of a number, and every link, is another; one head and one link are none
abbrev rich : Account
rich = account (arrays 72623859790382856 2 (10 ∷ 11 ∷ 12 ∷ 13 ∷ 14 ∷ 65535 ∷ 16 ∷ 17 ∷ 18 ∷ 19 ∷ 20 ∷ 21 ∷ [])
    (1230066625199609624 ∷ 3544952156018063160 ∷ [])
    (2387509390608836392 ∷ 4702394921427289928 ∷ [])
    (true ∷ false ∷ [])
    (3 ∷ 7 ∷ []) (4 ∷ 65535 ∷ []) (5 ∷ 8 ∷ []) (6 ∷ 9 ∷ [])) 5859837686836516696

-- version and length of the rest; total; first and heads; in version 3 the lowest figure; then of each record start, end, enabled and its four links
pub bytes1 : image_of (two version1) rich ≡ (
    1 ∷
    0 ∷ 0 ∷ 0 ∷ 63 ∷
    1 ∷ 2 ∷ 3 ∷ 4 ∷ 5 ∷ 6 ∷ 7 ∷ 8 ∷
    2 ∷
    10 ∷ 11 ∷ 12 ∷ 13 ∷ 14 ∷ 255 ∷ 16 ∷ 17 ∷ 18 ∷ 19 ∷ 20 ∷ 21 ∷
    17 ∷ 18 ∷ 19 ∷ 20 ∷ 21 ∷ 22 ∷ 23 ∷ 24 ∷
    33 ∷ 34 ∷ 35 ∷ 36 ∷ 37 ∷ 38 ∷ 39 ∷ 40 ∷
    1 ∷
    3 ∷ 4 ∷ 5 ∷ 6 ∷
    49 ∷ 50 ∷ 51 ∷ 52 ∷ 53 ∷ 54 ∷ 55 ∷ 56 ∷
    65 ∷ 66 ∷ 67 ∷ 68 ∷ 69 ∷ 70 ∷ 71 ∷ 72 ∷
    0 ∷
    7 ∷ 255 ∷ 8 ∷ 9 ∷
    [])
unfolding image_of head_bytes joined record_bytes link_bytes be
bytes1 = refl

pub bytes2 : image_of (two version2) rich ≡ (
    2 ∷
    0 ∷ 0 ∷ 0 ∷ 84 ∷
    1 ∷ 2 ∷ 3 ∷ 4 ∷ 5 ∷ 6 ∷ 7 ∷ 8 ∷
    0 ∷ 2 ∷
    0 ∷ 10 ∷ 0 ∷ 11 ∷ 0 ∷ 12 ∷ 0 ∷ 13 ∷ 0 ∷ 14 ∷ 255 ∷ 255 ∷ 0 ∷ 16 ∷ 0 ∷ 17 ∷ 0 ∷ 18 ∷ 0 ∷ 19 ∷ 0 ∷ 20 ∷ 0 ∷ 21 ∷
    17 ∷ 18 ∷ 19 ∷ 20 ∷ 21 ∷ 22 ∷ 23 ∷ 24 ∷
    33 ∷ 34 ∷ 35 ∷ 36 ∷ 37 ∷ 38 ∷ 39 ∷ 40 ∷
    1 ∷
    0 ∷ 3 ∷ 0 ∷ 4 ∷ 0 ∷ 5 ∷ 0 ∷ 6 ∷
    49 ∷ 50 ∷ 51 ∷ 52 ∷ 53 ∷ 54 ∷ 55 ∷ 56 ∷
    65 ∷ 66 ∷ 67 ∷ 68 ∷ 69 ∷ 70 ∷ 71 ∷ 72 ∷
    0 ∷
    0 ∷ 7 ∷ 255 ∷ 255 ∷ 0 ∷ 8 ∷ 0 ∷ 9 ∷
    [])
unfolding image_of head_bytes joined record_bytes link_bytes be
bytes2 = refl

pub bytes3 : image_of (two version3) rich ≡ (
    3 ∷
    0 ∷ 0 ∷ 0 ∷ 92 ∷
    1 ∷ 2 ∷ 3 ∷ 4 ∷ 5 ∷ 6 ∷ 7 ∷ 8 ∷
    0 ∷ 2 ∷
    0 ∷ 10 ∷ 0 ∷ 11 ∷ 0 ∷ 12 ∷ 0 ∷ 13 ∷ 0 ∷ 14 ∷ 255 ∷ 255 ∷ 0 ∷ 16 ∷ 0 ∷ 17 ∷ 0 ∷ 18 ∷ 0 ∷ 19 ∷ 0 ∷ 20 ∷ 0 ∷ 21 ∷
    81 ∷ 82 ∷ 83 ∷ 84 ∷ 85 ∷ 86 ∷ 87 ∷ 88 ∷
    17 ∷ 18 ∷ 19 ∷ 20 ∷ 21 ∷ 22 ∷ 23 ∷ 24 ∷
    33 ∷ 34 ∷ 35 ∷ 36 ∷ 37 ∷ 38 ∷ 39 ∷ 40 ∷
    1 ∷
    0 ∷ 3 ∷ 0 ∷ 4 ∷ 0 ∷ 5 ∷ 0 ∷ 6 ∷
    49 ∷ 50 ∷ 51 ∷ 52 ∷ 53 ∷ 54 ∷ 55 ∷ 56 ∷
    65 ∷ 66 ∷ 67 ∷ 68 ∷ 69 ∷ 70 ∷ 71 ∷ 72 ∷
    0 ∷
    0 ∷ 7 ∷ 255 ∷ 255 ∷ 0 ∷ 8 ∷ 0 ∷ 9 ∷
    [])
unfolding image_of head_bytes joined record_bytes link_bytes be
bytes3 = refl
