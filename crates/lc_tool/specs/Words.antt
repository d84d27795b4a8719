-- The words of the command line, as a command.
use Rattle.std.specs.Prelude.{ℕ, ◌+◌, ◌==◌, ◌&&◌, ◌||◌, Bool, List, [], length, slice_index_or, Option, Some, None}
use Rattle.std.specs.Prelude.{Result, Ok, Err, ℤ, unsigned_abs, nat_lt, if◌then◌else◌, codes, map}
use Rattle.std.proofs.Common.{Bor}
use Rattle.std.specs.Str.{bytes_eq}
use Rattle.lc_num.specs.declared.vectors.Vec3.{Vec3}
use Rattle.lc_scan.specs.Decimal.{decimal_of}
use Rattle.lc_scan.specs.Whole.{whole_of}
use Rattle.lc_scan.specs.declared.fault.NumFault.{NumFault}

-- the words as they are passed
abbrev pub texts : List (Bor (List ℕ)) → List (List ℕ)
texts words = map (λ word. word.now) words

pub data Command : Type 0 where
  -- the name of a light file, a place, and the direction of a normal
  probe : List ℕ → Vec3 → Vec3 → Command
  -- the name of a job, whose picture and record are made
  render : List ℕ → Command
  -- the name of a job, whose picture is made by the sum over all lights
  plain : List ℕ → Command
  -- the name of a job, whose record is checked at every so many of its samples
  audit : List ℕ → ℕ → Command
  -- the number of a scene that is made of it, whose picture and record are made
  make : ℕ → Command

abbrev pub in_range : Result ℤ NumFault → Option ℤ
in_range (Err fault) = None
in_range (Ok z) = if nat_lt 50_000_000 (unsigned_abs z) then None else Some z

-- a decimal from -5000 to 5000, in units of 1/10000
unfoldable pub coordinate : List ℕ → Option ℤ
coordinate word = in_range (decimal_of word)

abbrev pub vector_of : Option ℤ → Option ℤ → Option ℤ → Option Vec3
vector_of (Some x) (Some y) (Some z) = Some (record { x = x; y = y; z = z })
vector_of x y z = None

abbrev pub probe_of : List ℕ → Option Vec3 → Option Vec3 → Option Command
probe_of name (Some place) (Some direction) = Some (probe name place direction)
probe_of name place direction = None

abbrev pub word_at : List (List ℕ) → ℕ → List ℕ
word_at words k = slice_index_or words k []

-- three words as a vector
abbrev pub vector_at : List (List ℕ) → ℕ → Option Vec3
vector_at words k =
    vector_of (coordinate (word_at words k)) (coordinate (word_at words (k + 1))) (coordinate (word_at words (k + 2)))

-- so many words, and this one first
abbrev pub begins : List (List ℕ) → List ℕ → ℕ → Bool
begins words first count = length words == count && bytes_eq (word_at words 0) first

-- a step from 1 to 4,294,967,295
abbrev pub audit_of : List ℕ → Result ℕ NumFault → Option Command
audit_of name (Err fault) = None
audit_of name (Ok n) = if nat_lt 4_294_967_295 n || n == 0 then None else Some (audit name n)

-- a whole number of at most 9999
abbrev pub make_of : Result ℕ NumFault → Option Command
make_of (Err fault) = None
make_of (Ok n) = if nat_lt 9999 n then None else Some (make n)

-- the command; nothing where the words are none
abbrev pub command_of : List (List ℕ) → Option Command
command_of words =
    if begins words (codes "probe") 8
    then probe_of (word_at words 1) (vector_at words 2) (vector_at words 5)
    else (if begins words (codes "render") 2
    then Some (render (word_at words 1))
    else (if begins words (codes "plain") 2
    then Some (plain (word_at words 1))
    else (if begins words (codes "audit") 3
    then audit_of (word_at words 1) (whole_of (word_at words 2))
    else (if begins words (codes "make") 2 then make_of (whole_of (word_at words 1)) else None))))
