-- The keywords of lines.
use Rattle.std.specs.Prelude.{ℕ, List, [], ◌∷◌, map, codes, unwrap_or}
use Rattle.lc_scan.specs.Keywords.{look_up}
use Rattle.lc_obj.specs.declared.keyword.Keyword.{Keyword}
use Rattle.lc_obj.specs.declared.keyword.Keyword.TheVariants as keyword

-- the words of free-form curves and surfaces
abbrev pub free_form : List (List ℕ)
free_form =
    codes "vp" ∷ codes "cstype" ∷ codes "deg" ∷ codes "bmat" ∷ codes "step" ∷ codes "curv" ∷ codes "curv2"
    ∷ codes "surf" ∷ codes "parm" ∷ codes "trim" ∷ codes "hole" ∷ codes "scrv" ∷ codes "sp" ∷ codes "end"
    ∷ codes "con" ∷ []

-- the keywords of lines that are not passed over, each with its word
abbrev pub keywords : List (List ℕ × Keyword)
keywords =
    (codes "v", keyword.Place) ∷ (codes "vt", keyword.Uv) ∷ (codes "vn", keyword.Normal) ∷ (codes "f", keyword.Face)
    ∷ (codes "usemtl", keyword.Use) ∷ (codes "mtllib", keyword.Library)
    ∷ map (λ word. (word, keyword.FreeForm)) free_form

unfoldable pub keyword_of : List ℕ → Keyword
keyword_of word = unwrap_or (look_up keywords word) keyword.Other
