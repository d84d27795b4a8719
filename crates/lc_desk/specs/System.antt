-- What the answers of the system's calls tell a desk.
use Rattle.std.specs.Prelude.{◌≡◌, ◌≢◌, ◌<◌, ◌≤◌, ◌↔◌, ◌==◌, ℕ, Result, Ok, Err, IfErr, IsErrAnd, if◌then◌else◌}
use Rattle.std.specs.IoError.{error_kind}
use Rattle.std.specs.Fs.{file_type, metadata_len, IsFile}
use Rattle.std.specs.declared.fs.Metadata.{Metadata}
use Rattle.std.specs.declared.io.Error.{Error}
use Rattle.std.specs.declared.io.ErrorKind.TheVariants.{Interrupted, NotFound, OutOfMemory}
use Rattle.lc_desk.specs.declared.desk.ReadStop.{ReadStop}
use Rattle.lc_desk.specs.declared.desk.ReadStop.TheVariants as read_stop
use Rattle.lc_desk.specs.declared.desk.PutStop.{PutStop}
use Rattle.lc_desk.specs.declared.desk.PutStop.TheVariants as put_stop

-- the answer is not that a signal came
abbrev pub NoSignal : {T : Type 0} → Result T Error → Type 0
NoSignal answer = IfErr answer (λ error. error_kind error ≢ Interrupted)

-- an error stops a begin or a put: want of memory is told by its kind alone, and all else is a fault
abbrev pub StopsPut : Error → PutStop → Type 0
StopsPut error stop = (stop ≡ put_stop.Memory) ↔ (error_kind error ≡ OutOfMemory)

-- the answer to one write tells a put how many bytes were taken, and none is a fault
abbrev pub TellsPut : Result ℕ Error → Result ℕ PutStop → Type 0
TellsPut (Ok count) result = result ≡ (if count == 0 then Err put_stop.Failed else Ok count)
TellsPut (Err error) result = IsErrAnd result (StopsPut error)

-- the answer to one read tells how many bytes came, and every error is a fault
abbrev pub TellsRead : Result ℕ Error → Result ℕ ReadStop → Type 0
TellsRead (Ok count) result = result ≡ Ok count
TellsRead (Err error) result = result ≡ Err read_stop.Failed

-- an error stops the opening of a file that is to be read: absence is told by its kind alone, and all else is a fault
pub record StopsOpen (error : Error) (stop : ReadStop) : Type 0 where
  pub absent : error_kind error ≡ NotFound → stop ≡ read_stop.Absent
  pub failed : error_kind error ≢ NotFound → stop ≡ read_stop.Failed

-- what the look at an open file tells: a file is long where it has more than limit bytes, else its length is the room
-- to take, and of what is no file nothing is known before it is read
pub record TellsLength (limit : ℕ) (found : Metadata) (result : Result ℕ ReadStop) : Type 0 where
  pub long : IsFile (file_type found) → limit < metadata_len found → result ≡ Err read_stop.Long
  pub room : IsFile (file_type found) → metadata_len found ≤ limit → result ≡ Ok (metadata_len found)
  pub other : (IsFile (file_type found) → ⊥) → result ≡ Ok 0
