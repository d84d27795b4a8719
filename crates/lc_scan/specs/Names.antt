-- Names, from the bytes of a text.
use Rattle.std.specs.Prelude.{ℕ, List, Option, Some, None, if◌then◌else◌}
pub use Rattle.std.specs.Str.{is_utf8}

-- the name of these bytes, where they are UTF-8
abbrev pub name_in : List ℕ → Option (List ℕ)
name_in bytes = if is_utf8 bytes then Some bytes else None
