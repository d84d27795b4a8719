-- Bytes have a name just where they are UTF-8.
use Rattle.std.proofs.Common.{◌≡◌, ℕ, Bool, true, false, cond, List, Some, None, refl, ap}
use Rattle.std.specs.Str.{IsUtf8, is_utf8}
use Rattle.std.proofs.lemmas.Str.{IsUtf8-from_is_utf8, is_utf8-from_IsUtf8}
use Rattle.lc_scan.specs.Names.{name_in}

pub name_in-some : (bytes : List ℕ) → IsUtf8 bytes → name_in bytes ≡ Some bytes
name_in-some bytes h = ap (λ (b : Bool). cond b (Some bytes) None) (is_utf8-from_IsUtf8 bytes h)

none_by : (bytes : List ℕ) (b : Bool) → is_utf8 bytes ≡ b → (IsUtf8 bytes → ⊥) → name_in bytes ≡ None
none_by bytes true e none = absurd (none (IsUtf8-from_is_utf8 bytes e))
none_by bytes false e none = ap (λ (b : Bool). cond b (Some bytes) None) e

pub name_in-none : (bytes : List ℕ) → (IsUtf8 bytes → ⊥) → name_in bytes ≡ None
name_in-none bytes none = none_by bytes (is_utf8 bytes) refl none
