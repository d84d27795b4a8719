-- The pieces of a header and of a line: a text that begins with one begins with no other.
use Rattle.std.proofs.Common.{◌≡◌, ℕ, ◌*◌, ◌-◌, ◌^◌, ◌<◌, ◌≤◌, List, [], ◌∷◌, ◌++◌, codes, refl, sym, ap, ◌∙◌, arith, append_assoc}
use Rattle.std.proofs.lemmas.List.{append_cancel_left}
use Rattle.lc_num.specs.Channels.{IsRgbWithin}
use Rattle.lc_num.specs.Rules.{rule_number}
use Rattle.lc_num.specs.declared.channels.Rgb.{Rgb}
use Rattle.lc_num.specs.declared.rules.Rule.{Rule}
use Rattle.lc_num.specs.declared.rules.Rule.TheVariants as rule
use Rattle.lc_rated.specs.declared.answer.Answer.{Answer}
use Rattle.lc_record.specs.declared.head.Header.{Header}
use Rattle.lc_record.specs.Record.{IsHeader, IsSample, record_header, line_bytes}
use Rattle.lc_record.specs.Pieces.{IsWithin, colour, ended}
use Rattle.lc_record.proofs.Decimals.{Holds, holds, ends_at}

-- of two numbers at the front of one text, with one byte behind both
numbers_same : (end n m : ℕ) (x y bytes : List ℕ) → end < 48 → n < 2 ^ 120 → m < 2 ^ 120 → bytes ≡ ended end n ++ x → bytes ≡ ended end m ++ y → (n ≡ m) × (x ≡ y)
numbers_same end n m x y bytes stops below above e f =
    let h : Holds m end y bytes = holds m end y bytes above stops f in
    let same = ends_at m end y bytes h n end x (omega arith) (e ∙ append_assoc _ (end ∷ []) x) (λ d. omega (arith, d.0)) in
    (same.0, same.2)

-- three numbers from the second on
abbrev pub from_g : ℕ → Rgb → List ℕ → List ℕ
from_g end c after = ended 32 c.g ++ (ended end c.b ++ after)

-- Where a number n is read of a text that goes on by those of a colour, it is the colour's, and so is what follows it.
module _ (end : ℕ) (c : Rgb) (after : List ℕ) (stops : end < 48) (valid : IsRgbWithin (2 ^ 117 - 1) c) (n : ℕ) (x bytes : List ℕ) where
  pub r_same : IsWithin 0 (2 ^ 117 - 1) n × (bytes ≡ ended 32 n ++ x) → bytes ≡ colour end c ++ after → (n ≡ c.r) × (x ≡ from_g end c after)
  r_same found e =
      numbers_same 32 n c.r x (from_g end c after) bytes (omega arith) (omega (arith, found.0)) (omega (arith, valid.r)) found.1
      (e ∙ append_assoc (ended 32 c.r ++ ended 32 c.g) (ended end c.b) after ∙ append_assoc (ended 32 c.r) (ended 32 c.g) (ended end c.b ++ after))

  pub g_same : IsWithin 0 (2 ^ 117 - 1) n × (bytes ≡ ended 32 n ++ x) → bytes ≡ from_g end c after → (n ≡ c.g) × (x ≡ ended end c.b ++ after)
  g_same found e = numbers_same 32 n c.g x (ended end c.b ++ after) bytes (omega arith) (omega (arith, found.0)) (omega (arith, valid.g)) found.1 e

  b_same : IsWithin 0 (2 ^ 117 - 1) n × (bytes ≡ ended end n ++ x) → bytes ≡ ended end c.b ++ after → (n ≡ c.b) × (x ≡ after)
  b_same found e = numbers_same end n c.b x after bytes stops (omega (arith, found.0)) (omega (arith, valid.b)) found.1 e

abbrev rgb : ℕ → ℕ → ℕ → Rgb
rgb r g b = record { r = r; g = g; b = b }

pub colours_same : (end : ℕ) (c d : Rgb) (x y bytes : List ℕ) → end < 48 → IsRgbWithin (2 ^ 117 - 1) c → IsRgbWithin (2 ^ 117 - 1) d
    → bytes ≡ colour end c ++ x → bytes ≡ colour end d ++ y → (c ≡ d) × (x ≡ y)
colours_same end c d x y bytes stops v w e f =
    let first = e ∙ append_assoc (ended 32 c.r ++ ended 32 c.g) (ended end c.b) x ∙ append_assoc (ended 32 c.r) (ended 32 c.g) (ended end c.b ++ x) in
    let r = r_same end d y stops w c.r (from_g end c x) bytes ((omega arith, v.r), first) f in
    let g = g_same end d y stops w c.g (ended end c.b ++ x) (from_g end c x) ((omega arith, v.g), refl) r.1 in
    let b = b_same end d y stops w c.b x (ended end c.b ++ x) ((omega arith, v.b), refl) g.1 in
    (ap (λ n. rgb n c.g c.b) r.0 ∙ ap (λ n. rgb d.r n c.b) g.0 ∙ ap (λ n. rgb d.r d.g n) b.0, b.1)

-- a line from the bound on, from the estimate on, and from the evaluations on
abbrev pub from_bound : Answer → List ℕ → List ℕ
from_bound a after = colour 10 a.bound ++ after

abbrev pub from_est : Answer → List ℕ → List ℕ
from_est a after = colour 32 a.est ++ from_bound a after

abbrev pub from_evals : Answer → List ℕ → List ℕ
from_evals a after = ended 32 a.evals ++ from_est a after

pub line_parts : (a : Answer) (after : List ℕ) → line_bytes a ++ after ≡ ended 32 a.size ++ from_evals a after
unfolding line_bytes
line_parts a after = simp append_assoc

module _ (cut : ℕ) (few : cut ≤ 65_536) (a : Answer) (after : List ℕ) (valid : IsSample cut a) (x bytes : List ℕ) where
  pub size_same : (n : ℕ) → IsWithin 0 cut n × (bytes ≡ ended 32 n ++ x) → bytes ≡ line_bytes a ++ after → (n ≡ a.size) × (x ≡ from_evals a after)
  size_same n found e =
      numbers_same 32 n a.size x (from_evals a after) bytes (omega arith) (omega (arith, found.0)) (omega (arith, valid.size)) found.1 (e ∙ line_parts a after)

  pub evals_same : (n : ℕ) → IsWithin 0 (2 * cut) n × (bytes ≡ ended 32 n ++ x) → bytes ≡ from_evals a after → (n ≡ a.evals) × (x ≡ from_est a after)
  evals_same n found e = numbers_same 32 n a.evals x (from_est a after) bytes (omega arith) (omega (arith, found.0)) (omega (arith, valid.evals)) found.1 e

  pub est_same : (c : Rgb) → IsRgbWithin (2 ^ 117 - 1) c × (bytes ≡ colour 32 c ++ x) → bytes ≡ from_est a after → (c ≡ a.est) × (x ≡ from_bound a after)
  est_same c found e = colours_same 32 c a.est x (from_bound a after) bytes (omega arith) found.0 valid.est found.1 e

  bound_same : (c : Rgb) → IsRgbWithin (2 ^ 117 - 1) c × (bytes ≡ colour 10 c ++ x) → bytes ≡ from_bound a after → (c ≡ a.bound) × (x ≡ after)
  bound_same c found e = colours_same 10 c a.bound x after bytes (omega arith) found.0 valid.bound found.1 e

abbrev answer : ℕ → ℕ → Rgb → Rgb → Answer
answer size evals est bound = record { size = size; evals = evals; est = est; bound = bound }

pub lines_same : (cut : ℕ) (a b : Answer) (x y : List ℕ) → cut ≤ 65_536 → IsSample cut a → IsSample cut b
    → line_bytes a ++ x ≡ line_bytes b ++ y → (a ≡ b) × (x ≡ y)
lines_same cut a b x y few v w e =
    let size = size_same cut few b y w (from_evals a x) (line_bytes a ++ x) a.size ((omega arith, v.size), line_parts a x) e in
    let evals = evals_same cut few b y w (from_est a x) (from_evals a x) a.evals ((omega arith, v.evals), refl) size.1 in
    let est = est_same cut few b y w (from_bound a x) (from_est a x) a.est (v.est, refl) evals.1 in
    let bound = bound_same cut few b y w x (from_bound a x) a.bound (v.bound, refl) est.1 in (
      ap (λ n. answer n a.evals a.est a.bound) size.0 ∙ ap (λ n. answer b.size n a.est a.bound) evals.0
          ∙ ap (λ c. answer b.size b.evals c a.bound) est.0 ∙ ap (λ c. answer b.size b.evals b.est c) bound.0,
      bound.1,
    )

-- a header from the thousandths on, from the cut on, from the grid on, from the rows on, from the columns on, and from the
-- number of its rule on
abbrev pub from_permille : Header → List ℕ → List ℕ
from_permille h after = ended 10 h.permille ++ after

abbrev pub from_cut : Header → List ℕ → List ℕ
from_cut h after = ended 32 h.cut ++ from_permille h after

abbrev pub from_grid : Header → List ℕ → List ℕ
from_grid h after = ended 32 h.grid ++ from_cut h after

abbrev pub from_height : Header → List ℕ → List ℕ
from_height h after = ended 32 h.height ++ from_grid h after

abbrev pub from_width : Header → List ℕ → List ℕ
from_width h after = ended 32 h.width ++ from_height h after

abbrev pub from_rule : Header → List ℕ → List ℕ
from_rule h after = ended 32 (rule_number h.rule) ++ from_width h after

pub header_parts : (h : Header) (after : List ℕ) → record_header h ++ after ≡ codes "LCB " ++ from_rule h after
unfolding record_header
header_parts h after = simp append_assoc

rule_small : (r : Rule) → rule_number r < 2 ^ 120
rule_small rule.One = omega arith
rule_small rule.Two = omega arith

-- a number is of one rule
rules_same : (r s : Rule) → rule_number r ≡ rule_number s → r ≡ s
rules_same rule.One rule.One e = refl
rules_same rule.One rule.Two e = absurd (omega (arith, e))
rules_same rule.Two rule.One e = absurd (omega (arith, e))
rules_same rule.Two rule.Two e = refl

module _ (h : Header) (after : List ℕ) (valid : IsHeader h) (x bytes : List ℕ) where
  pub mark_same : bytes ≡ codes "LCB " ++ x → bytes ≡ record_header h ++ after → x ≡ from_rule h after
  mark_same found e = append_cancel_left (codes "LCB ") x (from_rule h after) (sym found ∙ e ∙ header_parts h after)

  pub rule_same : (r : Rule) → bytes ≡ ended 32 (rule_number r) ++ x → bytes ≡ from_rule h after → (r ≡ h.rule) × (x ≡ from_width h after)
  rule_same r found e =
      let same = numbers_same 32 (rule_number r) (rule_number h.rule) x (from_width h after) bytes (omega arith) (rule_small r) (rule_small h.rule) found e in
      (rules_same r h.rule same.0, same.1)

  module _ (n : ℕ) where
    pub width_same : IsWithin 1 4096 n × (bytes ≡ ended 32 n ++ x) → bytes ≡ from_width h after → (n ≡ h.width) × (x ≡ from_height h after)
    width_same found e = numbers_same 32 n h.width x (from_height h after) bytes (omega arith) (omega (arith, found.0)) (omega (arith, valid.width)) found.1 e

    pub height_same : IsWithin 1 4096 n × (bytes ≡ ended 32 n ++ x) → bytes ≡ from_height h after → (n ≡ h.height) × (x ≡ from_grid h after)
    height_same found e = numbers_same 32 n h.height x (from_grid h after) bytes (omega arith) (omega (arith, found.0)) (omega (arith, valid.height)) found.1 e

    pub grid_same : IsWithin 1 16 n × (bytes ≡ ended 32 n ++ x) → bytes ≡ from_grid h after → (n ≡ h.grid) × (x ≡ from_cut h after)
    grid_same found e = numbers_same 32 n h.grid x (from_cut h after) bytes (omega arith) (omega (arith, found.0)) (omega (arith, valid.grid)) found.1 e

    pub cut_same : IsWithin 3 65_536 n × (bytes ≡ ended 32 n ++ x) → bytes ≡ from_cut h after → (n ≡ h.cut) × (x ≡ from_permille h after)
    cut_same found e = numbers_same 32 n h.cut x (from_permille h after) bytes (omega arith) (omega (arith, found.0)) (omega (arith, valid.cut)) found.1 e

    permille_same : IsWithin 0 1000 n × (bytes ≡ ended 10 n ++ x) → bytes ≡ from_permille h after → (n ≡ h.permille) × (x ≡ after)
    permille_same found e = numbers_same 10 n h.permille x after bytes (omega arith) (omega (arith, found.0)) (omega (arith, valid.permille)) found.1 e

abbrev header : Rule → ℕ → ℕ → ℕ → ℕ → ℕ → Header
header rule width height grid cut permille = record { rule = rule; width = width; height = height; grid = grid; cut = cut; permille = permille }

pub headers_same : (h k : Header) (x y : List ℕ) → IsHeader h → IsHeader k → record_header h ++ x ≡ record_header k ++ y → (h ≡ k) × (x ≡ y)
headers_same h k x y v w e =
    let mark = mark_same k y w (from_rule h x) (record_header h ++ x) (header_parts h x) e in
    let rule = rule_same k y w (from_width h x) (from_rule h x) h.rule refl mark in
    let width = width_same k y w (from_height h x) (from_width h x) h.width (v.width, refl) rule.1 in
    let height = height_same k y w (from_grid h x) (from_height h x) h.height (v.height, refl) width.1 in
    let grid = grid_same k y w (from_cut h x) (from_grid h x) h.grid (v.grid, refl) height.1 in
    let cut = cut_same k y w (from_permille h x) (from_cut h x) h.cut (v.cut, refl) grid.1 in
    let permille = permille_same k y w x (from_permille h x) h.permille ((omega arith, v.permille), refl) cut.1 in (
      ap (λ r. header r h.width h.height h.grid h.cut h.permille) rule.0
          ∙ ap (λ n. header k.rule n h.height h.grid h.cut h.permille) width.0 ∙ ap (λ n. header k.rule k.width n h.grid h.cut h.permille) height.0
          ∙ ap (λ n. header k.rule k.width k.height n h.cut h.permille) grid.0 ∙ ap (λ n. header k.rule k.width k.height k.grid n h.permille) cut.0
          ∙ ap (λ n. header k.rule k.width k.height k.grid k.cut n) permille.0,
      permille.1,
    )
