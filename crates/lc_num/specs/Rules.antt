-- The rules by which bounds are found, and their numbers in texts.
use Rattle.std.specs.Prelude.{ℕ, ◌==◌, if◌then◌else◌, Option, None, Some}
use Rattle.lc_num.specs.declared.rules.Rule.{Rule}
use Rattle.lc_num.specs.declared.rules.Rule.TheVariants as rule

abbrev pub rule_number : Rule → ℕ
rule_number rule.One = 1
rule_number rule.Two = 2

-- the rule of a number
abbrev pub rule_of : ℕ → Option Rule
rule_of n = if n == 1 then Some rule.One else if n == 2 then Some rule.Two else None
