-- The materials of a text without a fault are within their ranges, and not too many.
use Rattle.std.proofs.Common.{◌≡◌, ℕ, ◌+◌, ◌≤◌, Bool, true, false, List, [], ◌∷◌, ◌++◌, length, Option, Some, None, refl, sym, ◌∙◌, append_assoc, arith, length-append, subst}
use Rattle.std.specs.Prelude.{All, count_by, filter_map, option_map, unwrap_or, ⊤}
use Rattle.std.specs.List.{cons_option, last_or}
use Rattle.std.proofs.Math.Nat.{min-le_right}
use Rattle.std.proofs.lemmas.List.{append-nil}
use Rattle.std.proofs.lemmas.List.Elements.{All-append, All-cons, All-head, All-nil, All-tail}
use Rattle.lc_num.specs.Channels.{IsColourWithin}
use Rattle.lc_num.specs.declared.channels.Colour.{Colour}
use Rattle.lc_scan.specs.Lines.{Line}
use Rattle.lc_scan.specs.Fields.{fields, rest}
use Rattle.lc_scan.specs.Spoken.{spoken}
use Rattle.lc_scan.specs.Faults.{first_fault}
use Rattle.lc_scan.proofs.ReaderLemmas.{fault_then-none, first_fault-cons}
use Rattle.lc_mtl.specs.Materials.{IsMaterial, AreMaterials}
use Rattle.lc_mtl.specs.Settings.{diffuse, specular, exponent, grey, material}
use Rattle.lc_mtl.specs.MtlLine.{colour, entry_by, entry_of, exponent_of, keyword_of, share}
use Rattle.lc_mtl.specs.MtlFile.{begins, block, fault_in, fault_of, materials, materials_in, setting_of, settings}
use Rattle.lc_mtl.specs.declared.entry.Setting.{Setting}
use Rattle.lc_mtl.specs.declared.entry.Setting.TheVariants as setting
use Rattle.lc_mtl.specs.declared.keyword.Keyword.{Keyword}
use Rattle.lc_mtl.specs.declared.keyword.Keyword.TheVariants as keyword
use Rattle.lc_mtl.specs.declared.material.Material.{Material}
use Rattle.lc_mtl.proofs.FileLemmas.{counted, materials_in-cons, materials_in-none}
use Rattle.lc_mtl.proofs.ReadLemmas.{one_more_fits}

-- ---- what a line says is within its range

share-most : (value : List ℕ) → share value ≤ 10000
unfolding share
share-most value = min-le_right _ 10000

exponent_of-most : (value : List ℕ) → exponent_of value ≤ 1000
unfolding exponent_of
exponent_of-most value = min-le_right _ 1000

grey-within : (s : ℕ) → s ≤ 10000 → IsColourWithin 10000 (grey s)
grey-within s h = record { r = h; g = h; b = h }

colour-within : (values : List (List ℕ)) → IsColourWithin 10000 (colour values)
colour-within [] = grey-within 0 (omega arith)
colour-within (all ∷ []) = grey-within (share all) (share-most all)
colour-within (r ∷ g ∷ []) = grey-within 0 (omega arith)
colour-within (r ∷ g ∷ b ∷ more) = record { r = share-most r; g = share-most g; b = share-most b }

-- a setting within its range
IsSetting : Setting → Type 0
IsSetting (setting.Diffuse kd) = IsColourWithin 10000 kd
IsSetting (setting.Specular ks) = IsColourWithin 10000 ks
IsSetting (setting.Exponent ns) = ns ≤ 1000

-- the setting of a line, if it gives one, is within its range
abbrev IsFine : Option Setting → Type 0
IsFine None = ⊤
IsFine (Some s) = IsSetting s

exponent_entry_fine : (values : List (List ℕ)) → IsFine (setting_of (Some (entry_by keyword.Exponent values)))
unfolding IsSetting
exponent_entry_fine [] = omega arith
exponent_entry_fine (value ∷ more) = exponent_of-most value

by_keyword : (o : Option Keyword) (values : List (List ℕ)) → IsFine (setting_of (option_map (λ (key : Keyword). entry_by key values) o))
unfolding IsSetting
by_keyword None values = tt
by_keyword (Some keyword.Material) values = tt
by_keyword (Some keyword.Diffuse) values = colour-within values
by_keyword (Some keyword.Specular) values = colour-within values
by_keyword (Some keyword.Exponent) values = exponent_entry_fine values

line_fine : (fs : List (List ℕ)) → IsFine (setting_of (entry_of fs))
unfolding entry_of
line_fine [] = tt
line_fine (word ∷ values) = by_keyword (keyword_of word) values

settings-fine : (ls : List Line) → All IsSetting (settings ls)
settings-fine [] = All-nil IsSetting
settings-fine (l ∷ ls) = by_setting (setting_of (entry_of (fields l.bytes))) (line_fine (fields l.bytes)) (settings-fine ls)
  where
    by_setting : (o : Option Setting) → IsFine o → All IsSetting (settings ls) → All IsSetting (cons_option o (settings ls))
    by_setting None fine later = later
    by_setting (Some s) fine later = All-cons IsSetting s (settings ls) fine later

-- ---- a material

-- the last of values that are all fine is so
last_fine : {X : Type 0} (P : X → Type 0) (pick : Setting → Option X) (otherwise : X) (o : Option X) (said : List Setting) → ((s : Setting) (x : X) → IsSetting s → pick s ≡ Some x → P x) → P (unwrap_or o otherwise) → All IsSetting said → P (unwrap_or (last_or o (filter_map pick said)) otherwise)
last_fine P pick otherwise o [] own first h = first
last_fine {X = X} P pick otherwise o (s ∷ said) own first h = by_pick (pick s) refl (λ p q. last_fine P pick otherwise p said own q (All-tail IsSetting s said h))
  where
    by_pick : (p : Option X) → pick s ≡ p → ((q : Option X) → P (unwrap_or q otherwise) → P (unwrap_or (last_or q (filter_map pick said)) otherwise)) → P (unwrap_or (last_or o (cons_option p (filter_map pick said))) otherwise)
    by_pick None e later = later o first
    by_pick (Some x) e later = later (Some x) (own s x (All-head IsSetting s said h) e)

diffuse-fine : (s : Setting) (x : Colour) → IsSetting s → diffuse s ≡ Some x → IsColourWithin 10000 x
unfolding IsSetting
diffuse-fine (setting.Diffuse kd) x h e = subst (IsColourWithin 10000) (cc) h
diffuse-fine (setting.Specular ks) x h e = absurd cc
diffuse-fine (setting.Exponent ns) x h e = absurd cc

specular-fine : (s : Setting) (x : Colour) → IsSetting s → specular s ≡ Some x → IsColourWithin 10000 x
unfolding IsSetting
specular-fine (setting.Diffuse kd) x h e = absurd cc
specular-fine (setting.Specular ks) x h e = subst (IsColourWithin 10000) (cc) h
specular-fine (setting.Exponent ns) x h e = absurd cc

exponent-fine : (s : Setting) (x : ℕ) → IsSetting s → exponent s ≡ Some x → x ≤ 1000
unfolding IsSetting
exponent-fine (setting.Diffuse kd) x h e = absurd cc
exponent-fine (setting.Specular ks) x h e = absurd cc
exponent-fine (setting.Exponent ns) x h e = subst (λ (n : ℕ). n ≤ 1000) (cc) h

material-valid : (name : List ℕ) (said : List Setting) → All IsSetting said → IsMaterial (material name said)
material-valid name said h = record {
  kd = last_fine (IsColourWithin 10000) diffuse (grey 8000) None said diffuse-fine (grey-within 8000 (omega arith)) h;
  ks = last_fine (IsColourWithin 10000) specular (grey 0) None said specular-fine (grey-within 0 (omega arith)) h;
  ns = last_fine (λ (n : ℕ). n ≤ 1000) exponent 0 None said exponent-fine (omega arith) h;
}

all_valid : (ls : List Line) → All IsMaterial (materials_in ls)
all_valid [] = subst (All IsMaterial) (sym materials_in-none) (All-nil IsMaterial)
all_valid (l ∷ ls) = by_test (begins l) refl (all_valid ls)
  where
    by_test : (b : Bool) → begins l ≡ b → All IsMaterial (materials_in ls) → All IsMaterial (materials_in (l ∷ ls))
    by_test true e later =
        subst (All IsMaterial) (sym (materials_in-cons l ls true e))
        (All-cons IsMaterial (material (rest l.bytes) (settings (block ls))) (materials_in ls) (material-valid (rest l.bytes) (settings (block ls)) (settings-fine (block ls))) later)
    by_test false e later = subst (All IsMaterial) (sym (materials_in-cons l ls false e)) later

-- ---- a text

all_fit : (held : ℕ) (before ls : List Line) → first_fault (fault_of held) before ls ≡ None → held + count_by begins before ≤ 4096 → held + count_by begins (before ++ ls) ≤ 4096
all_fit held before [] none few = subst (λ (ks : List Line). held + count_by begins ks ≤ 4096) (sym (append-nil before)) few
all_fit held before (l ∷ ls) none few =
    let both = fault_then-none (fault_of held before l) l.number _ (sym (first_fault-cons (fault_of held) before l ls _ refl) ∙ none) in
    subst (λ (ks : List Line). held + count_by begins ks ≤ 4096) (append_assoc before (l ∷ []) ls) (all_fit held (before ++ l ∷ []) ls both.1 (one_more_fits held before l both.0 few))

-- where a text has no fault, its materials after those before are within their ranges, and not too many
pub materials_valid : (before : List Material) (text : List ℕ) → AreMaterials before → fault_in (length before) text ≡ None → AreMaterials (materials before text)
unfolding fault_in materials
materials_valid before text h none = record {
  each = All-append IsMaterial before (materials_in (spoken text)) h.each (all_valid (spoken text));
  few = omega (arith, length-append before (materials_in (spoken text)), counted (spoken text), all_fit (length before) [] (spoken text) none (omega (arith, h.few)));
}
