-- What each C call of the register returns, and every byte of the image that it leaves, for every image and all numbers: request T-07's calls above the C calls of the
-- allocator, whose image stands in this one. Assumes nothing.
use Rattle.std.specs.Prelude.{ℕ, Bool, true, false, cond, ◌&&◌, List, [], ◌++◌, ◌≡◌, eqb, ℤ, pos, neg_ℤ, length, take, Err}
use Rattle.std.specs.Int.Signed.{lt_z}
use Rattle.rules.specs.Rules as rules
use Rattle.bytes_be.specs.Numbers.{Bytes}
use Rattle.calls.specs.Calls.{signed_of}
use Rattle.calls.specs.declared.MemoryError.TheVariants.{InvalidEntry}
use Rattle.image_parts.specs.Layout.{Layout}
use Rattle.image.specs.Reading.{reading_of}
use Rattle.c_over.specs.CCalls as allocator
use Rattle.c_over.specs.CCalls.{Returned, returned}
use Rattle.c_over.specs.Images.{images, book_in}
use Rattle.holder_rules.specs.Register.{entries}
use Rattle.holder_rules.specs.Holders.{Answer, Call, nothing, step}
use Rattle.holder_rules.specs.Sound.{register_sound}
use Rattle.holder_rules.specs.declared.Entry.{Entry}
use Rattle.holder_image.specs.Layout.{memory_at, whole_size}
use Rattle.holder_image.specs.Bytes.{bytes_of_lem, memory_in, register_in_lem, holding_in, headed}

-- the allocator's image is that of a sound state, and the register is sound beside its free ranges
unfoldable pub sound_in_lem : Layout → List ℕ → List Entry → Bool
sound_in_lem f m r = eqb (reading_of f m).number 0 && register_sound (book_in f m).chain r

-- the bytes are the image of a sound state with a register
abbrev pub serves : Layout → List ℕ → Bool
serves f l = headed f l && sound_in_lem f (memory_in l) (register_in_lem l)

-- the address, or minus the number of the refusal
abbrev pub signed : ℕ → ℕ → ℤ
signed k a = cond (eqb k 0) (pos a) (neg_ℤ (pos k))

-- the image of what an accepted call leaves; a refusal changes no byte
unfoldable pub finished : Layout → Answer (List ℕ) → List ℕ → Returned
finished f w l = returned (signed w.number w.address) (cond (eqb w.number 0) (bytes_of_lem f w.holding) l)

-- InvalidEntry, unless the image serves
unfoldable pub over : Layout → Bool → Answer (List ℕ) → List ℕ → Returned
over f b w l = cond b (finished f w l) (returned (signed_of (Err InvalidEntry)) l)

-- a call of the board or of a holder: the allocator below answers as its C calls do. (What it begins with is not looked at.)
unfoldable pub call_over_lem : Layout → Call → List ℕ → Returned
call_over_lem f c l = over f (serves f l) (step (images f []) c (holding_in l)) l

-- nothing free and nothing held, over whatever is there, if it has the length
unfoldable pub new_over : Layout → List ℕ → Returned
new_over f l = cond (eqb (length l) (whole_size f)) (returned (pos 0) (bytes_of_lem f (nothing (images f (memory_in l)) entries))) (returned (signed_of (Err InvalidEntry)) l)

-- ---- what the inner functions cite

-- r is the register of an image that serves
pub record Serves (f : Layout) (l : List ℕ) (r : List Entry) : Type 0 where
  pub front : headed f l ≡ true
  pub bytes : Bytes l
  pub sound : sound_in_lem f (memory_in l) r ≡ true
  pub register : r ≡ register_in_lem l

-- and the allocator in it answers the call c by i
pub record Asks (f : Layout) (c : rules.Call) (l : List ℕ) (r : List Entry) (i : ℤ) : Type 0 where
  pub serves : Serves f l r
  pub answer : i ≡ (allocator.call_over_lem f c (memory_in l)).number

-- the bytes l with those that the call c leaves of the allocator's m; as they are, where r is a refusal
abbrev pub with_memory : Layout → rules.Call → List ℕ → ℤ → List ℕ → List ℕ
with_memory f c m r l = cond (lt_z r (pos 0)) l (take memory_at l ++ (allocator.call_over_lem f c m).bytes)

-- The register's part of a call that comes to w, where the allocator answered i to c: r is returned, and l becomes l'. What the allocator leaves is not yet in it.
pub record Settles (f : Layout) (c : rules.Call) (w : Answer (List ℕ)) (l : List ℕ) (i r : ℤ) (l' : List ℕ) : Type 0 where
  pub outcome : returned r (with_memory f c (memory_in l) r l') ≡ finished f w l
  pub answer : lt_z r (pos 0) ≡ false → r ≡ i
  pub memory : memory_in l' ≡ memory_in l
