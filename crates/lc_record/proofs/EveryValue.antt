-- The lists of every header and of every answer hold those within their ranges, and no others.
use Rattle.std.proofs.Common.{◌*◌, ◌-◌, ◌^◌, ℕ, [], ◌∷◌, arith}
use Rattle.std.specs.Prelude.{Contains, All}
use Rattle.std.proofs.lemmas.List.Elements.{All-contains_itself}
use Rattle.lc_num.specs.Channels.{IsRgbWithin}
use Rattle.lc_num.specs.declared.channels.Rgb.{Rgb}
use Rattle.lc_num.specs.declared.rules.Rule.{Rule}
use Rattle.lc_num.specs.declared.rules.Rule.TheVariants as rule
use Rattle.lc_rated.specs.declared.answer.Answer.{Answer}
use Rattle.lc_record.specs.declared.head.Header.{Header}
use Rattle.lc_record.specs.Record.{IsHeader, IsSample}
use Rattle.lc_record.specs.Pieces.{IsWithin}
use Rattle.lc_record.specs.Readings.{answers, colours, from_to, headers, both_rules}
use Rattle.lc_record.proofs.Listing.{flat_map_all, flat_map_has, from_to_has, from_to_within, here, later, map_all, map_has}

rules_have : (r : Rule) → Contains both_rules r
unfolding both_rules
rules_have rule.One = here rule.One (rule.Two ∷ [])
rules_have rule.Two = later rule.One (rule.Two ∷ []) rule.Two (here rule.Two [])

pub headers_within : All IsHeader headers
unfolding headers
headers_within =
    flat_map_all IsHeader (Contains both_rules) _ both_rules (All-contains_itself both_rules) (λ r _.
    flat_map_all IsHeader (IsWithin 1 4096) _ (from_to 1 4096) (from_to_within 1 4096) (λ width w.
    flat_map_all IsHeader (IsWithin 1 4096) _ (from_to 1 4096) (from_to_within 1 4096) (λ height t.
    flat_map_all IsHeader (IsWithin 1 16) _ (from_to 1 16) (from_to_within 1 16) (λ grid g.
    flat_map_all IsHeader (IsWithin 3 65_536) _ (from_to 3 65_536) (from_to_within 3 65_536) (λ cut c.
    map_all IsHeader (IsWithin 0 1000) _ (from_to 0 1000) (from_to_within 0 1000) (λ permille p.
    record { width = w; height = t; grid = g; cut = c; permille = p.1 }))))))

pub headers_have : (h : Header) → IsHeader h → Contains headers h
unfolding headers
headers_have h valid =
    flat_map_has _ both_rules h.rule h (rules_have h.rule)
    (flat_map_has _ (from_to 1 4096) h.width h (from_to_has 1 4096 h.width valid.width)
    (flat_map_has _ (from_to 1 4096) h.height h (from_to_has 1 4096 h.height valid.height)
    (flat_map_has _ (from_to 1 16) h.grid h (from_to_has 1 16 h.grid valid.grid)
    (flat_map_has _ (from_to 3 65_536) h.cut h (from_to_has 3 65_536 h.cut valid.cut)
    (map_has _ (from_to 0 1000) h.permille (from_to_has 0 1000 h.permille (omega arith, valid.permille)))))))

colours_within : (most : ℕ) → All (IsRgbWithin most) (colours most)
unfolding colours
colours_within most =
    flat_map_all (IsRgbWithin most) (IsWithin 0 most) _ (from_to 0 most) (from_to_within 0 most) (λ r x.
    flat_map_all (IsRgbWithin most) (IsWithin 0 most) _ (from_to 0 most) (from_to_within 0 most) (λ g y.
    map_all (IsRgbWithin most) (IsWithin 0 most) _ (from_to 0 most) (from_to_within 0 most) (λ b z.
    record { r = x.1; g = y.1; b = z.1 })))

colours_have : (most : ℕ) (c : Rgb) → IsRgbWithin most c → Contains (colours most) c
unfolding colours
colours_have most c valid =
    flat_map_has _ (from_to 0 most) c.r c (from_to_has 0 most c.r (omega arith, valid.r))
    (flat_map_has _ (from_to 0 most) c.g c (from_to_has 0 most c.g (omega arith, valid.g))
    (map_has _ (from_to 0 most) c.b (from_to_has 0 most c.b (omega arith, valid.b))))

pub answers_within : (cut : ℕ) → All (IsSample cut) (answers cut)
unfolding answers
answers_within cut =
    flat_map_all (IsSample cut) (IsWithin 0 cut) _ (from_to 0 cut) (from_to_within 0 cut) (λ size s.
    flat_map_all (IsSample cut) (IsWithin 0 (2 * cut)) _ (from_to 0 (2 * cut)) (from_to_within 0 (2 * cut)) (λ evals v.
    flat_map_all (IsSample cut) (IsRgbWithin (2 ^ 117 - 1)) _ (colours (2 ^ 117 - 1)) (colours_within (2 ^ 117 - 1)) (λ est e.
    map_all (IsSample cut) (IsRgbWithin (2 ^ 117 - 1)) _ (colours (2 ^ 117 - 1)) (colours_within (2 ^ 117 - 1)) (λ bound b.
    record { size = s.1; evals = v.1; est = e; bound = b }))))

pub answers_have : (cut : ℕ) (a : Answer) → IsSample cut a → Contains (answers cut) a
unfolding answers
answers_have cut a valid =
    flat_map_has _ (from_to 0 cut) a.size a (from_to_has 0 cut a.size (omega arith, valid.size))
    (flat_map_has _ (from_to 0 (2 * cut)) a.evals a (from_to_has 0 (2 * cut) a.evals (omega arith, valid.evals))
    (flat_map_has _ (colours (2 ^ 117 - 1)) a.est a (colours_have (2 ^ 117 - 1) a.est valid.est)
    (map_has _ (colours (2 ^ 117 - 1)) a.bound (colours_have (2 ^ 117 - 1) a.bound valid.bound))))
