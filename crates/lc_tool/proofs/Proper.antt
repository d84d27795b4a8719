-- The vectors of a command are within their range.
use Rattle.std.proofs.Common.{◌≡◌, ℕ, ◌+◌, ◌≤◌, Bool, true, false, cond, List, Option, Some, None, ℤ, unsigned_abs, nat_lt, refl, arith}
use Rattle.std.specs.Prelude.{IfSome, Result, Ok, Err, codes, ◌||◌, ◌==◌}
use Rattle.std.proofs.lemmas.Bool.Decides.{nat_tests}
use Rattle.lc_num.specs.Vectors.{Within}
use Rattle.lc_num.specs.declared.vectors.Vec3.{Vec3}
use Rattle.lc_scan.specs.Decimal.{decimal_of}
use Rattle.lc_scan.specs.Whole.{whole_of}
use Rattle.lc_scan.specs.declared.fault.NumFault.{NumFault}
use Rattle.lc_tool.specs.Words.{Command, probe, render, plain, audit, make, audit_of, make_of, in_range, coordinate, vector_of, probe_of, word_at, vector_at, begins, command_of}

abbrev pub IsProper : Option Command → Type 0
IsProper None = Unit {0}
IsProper (Some (probe name place direction)) = Within 50_000_000 place × Within 50_000_000 direction
IsProper (Some (render name)) = Unit {0}
IsProper (Some (plain name)) = Unit {0}
IsProper (Some (audit name step)) = Unit {0}
IsProper (Some (make number)) = Unit {0}

abbrev Small : ℤ → Type 0
Small z = unsigned_abs z ≤ 50_000_000

chosen_small : (z : ℤ) (b : Bool) → nat_lt 50_000_000 (unsigned_abs z) ≡ b → IfSome (cond b None (Some z)) Small
chosen_small z true e = tt
chosen_small z false e = grind (arith, nat_tests)

range_small : (o : Result ℤ NumFault) → IfSome (in_range o) Small
range_small (Err e) = tt
range_small (Ok z) = chosen_small z (nat_lt 50_000_000 (unsigned_abs z)) refl

word_small : (word : List ℕ) → IfSome (coordinate word) Small
unfolding coordinate
word_small word = range_small (decimal_of word)

vector_small : (x y z : Option ℤ) → IfSome x Small → IfSome y Small → IfSome z Small → IfSome (vector_of x y z) (Within 50_000_000)
vector_small (Some x) (Some y) (Some z) a b c = record { x = a; y = b; z = c }
vector_small None y z a b c = tt
vector_small (Some x) None z a b c = tt
vector_small (Some x) (Some y) None a b c = tt

probe_proper : (name : List ℕ) (place direction : Option Vec3) → IfSome place (Within 50_000_000) → IfSome direction (Within 50_000_000) → IsProper (probe_of name place direction)
probe_proper name (Some place) (Some direction) a b = (a, b)
probe_proper name None direction a b = tt
probe_proper name (Some place) None a b = tt

chosen_proper : (b : Bool) (o other : Option Command) → IsProper o → IsProper other → IsProper (cond b o other)
chosen_proper true o other h k = h
chosen_proper false o other h k = k

read_small : (words : List (List ℕ)) (k : ℕ) → IfSome (vector_at words k) (Within 50_000_000)
read_small words k =
    vector_small (coordinate (word_at words k)) (coordinate (word_at words (k + 1))) (coordinate (word_at words (k + 2)))
    (word_small (word_at words k)) (word_small (word_at words (k + 1))) (word_small (word_at words (k + 2)))

make_proper : (number : Result ℕ NumFault) → IsProper (make_of number)
make_proper (Err fault) = tt
make_proper (Ok n) = chosen_proper (nat_lt 9999 n) None (Some (make n)) tt tt

audit_proper : (name : List ℕ) (step : Result ℕ NumFault) → IsProper (audit_of name step)
audit_proper name (Err fault) = tt
audit_proper name (Ok n) = chosen_proper (nat_lt 4_294_967_295 n || n == 0) None (Some (audit name n)) tt tt

last_proper : (b c : Bool) (name : List ℕ) (step number : Result ℕ NumFault) → IsProper (cond b (audit_of name step) (cond c (make_of number) None))
last_proper b c name step number =
    chosen_proper b (audit_of name step) (cond c (make_of number) None) (audit_proper name step)
    (chosen_proper c (make_of number) None (make_proper number) tt)

frame_proper : (b c : Bool) (name : List ℕ) (other : Option Command) → IsProper other → IsProper (cond b (Some (render name)) (cond c (Some (plain name)) other))
frame_proper b c name other h =
    chosen_proper b (Some (render name)) (cond c (Some (plain name)) other) tt (chosen_proper c (Some (plain name)) other tt h)

pub command_proper : (words : List (List ℕ)) → IsProper (command_of words)
command_proper words =
    chosen_proper (begins words (codes "probe") 8) (probe_of (word_at words 1) (vector_at words 2) (vector_at words 5)) _
    (probe_proper (word_at words 1) (vector_at words 2) (vector_at words 5) (read_small words 2) (read_small words 5))
    (frame_proper (begins words (codes "render") 2) (begins words (codes "plain") 2) (word_at words 1) _
    (last_proper (begins words (codes "audit") 3) (begins words (codes "make") 2) (word_at words 1) (whole_of (word_at words 2)) (whole_of (word_at words 1))))
