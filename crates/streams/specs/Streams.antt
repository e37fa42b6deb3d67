-- What is known of a stream's call: the system's answer, and what is made of it. Assumes nothing.
use Rattle.std.specs.Prelude.{ℕ, ◌≤◌, min, ◌≡◌, Result, Ok, Err}
use Rattle.std.specs.IoError.{error_kind}
use Rattle.std.specs.declared.io.Error.{Error}
use Rattle.std.specs.declared.io.ErrorKind.TheVariants.{Interrupted}
use Rattle.streams.specs.declared.Moved.{Moved}
use Rattle.streams.specs.declared.Moved.TheVariants.{Bytes, Again, Failed}
use Rattle.streams.specs.declared.Unread.{Unread}
use Rattle.streams.specs.declared.Unwritten.{Unwritten}

-- an answer counts bytes of a buffer of so many; an error is a failure, unless a signal is the reason: then the call is to be made again
abbrev pub Moves : Result ℕ Error → ℕ → Moved → Type 0
Moves (Ok k) size r = r ≡ Bytes (min k size)
Moves (Err e) size (Bytes n) = ⊥
Moves (Err e) size Again = error_kind e ≡ Interrupted
Moves (Err e) size Failed = error_kind e ≡ Interrupted → ⊥

-- the bytes that a call moved: none, where it is to be made again or failed
abbrev pub bytes_of : Moved → ℕ
bytes_of (Bytes n) = n
bytes_of Again = 0
bytes_of Failed = 0

-- some bytes were taken, and no more than there are, or none by a call that is to be made again or failed
abbrev pub Puts : Moved → ℕ → Type 0
Puts r size = bytes_of r ≤ size

-- the bytes that were read: none, where the reading failed
abbrev pub bytes_read : Result ℕ Unread → ℕ
bytes_read (Ok n) = n
bytes_read (Err e) = 0

-- the bytes that were taken
abbrev pub bytes_written : Result ℕ Unwritten → ℕ
bytes_written (Ok n) = n
bytes_written (Err e) = e.taken
