-- The materials of lines, and what one line more makes of them.
use Rattle.std.proofs.Common.{◌≡◌, ℕ, ◌+◌, Bool, true, false, not, cond, List, [], ◌∷◌, ◌++◌, length, Option, Some, None, refl, sym, ap, ◌∙◌, arith}
use Rattle.std.specs.Prelude.{count_by, filter_map, unwrap_or}
use Rattle.std.specs.List.{cons_option, last_or}
use Rattle.std.proofs.lemmas.List.{append-nil}
use Rattle.std.proofs.lemmas.List.Elements.{filter_map-append}
use Rattle.std.proofs.lemmas.List.Sums.{sum_by-cons, take_while-cons}
use Rattle.lc_num.specs.declared.channels.Colour.{Colour}
use Rattle.lc_scan.specs.Lines.{Line}
use Rattle.lc_scan.specs.Fields.{fields, rest}
use Rattle.lc_mtl.specs.Settings.{diffuse, specular, exponent, grey, last_given, material}
use Rattle.lc_mtl.specs.MtlLine.{entry_of}
use Rattle.lc_mtl.specs.MtlFile.{is_begin, setting_of, begins, settings, block, materials_in}
use Rattle.lc_mtl.specs.Drafts.{set, on_last, taken}
use Rattle.lc_mtl.specs.declared.entry.Entry.{Entry}
use Rattle.lc_mtl.specs.declared.entry.Entry.TheVariants as entry
use Rattle.lc_mtl.specs.declared.entry.Setting.{Setting}
use Rattle.lc_mtl.specs.declared.entry.Setting.TheVariants as setting
use Rattle.lc_mtl.specs.declared.material.Material.{Material}
use Rattle.lc_mtl.proofs.DraftLemmas.{on_last-same}

-- ---- a setting more

last_or-push : {X : Type 0} (o : Option X) (xs : List X) (x : X) → last_or o (xs ++ x ∷ []) ≡ Some x
last_or-push o [] x = refl
last_or-push o (y ∷ ys) x = last_or-push (Some y) ys x

last_given-push : {X : Type 0} (otherwise : X) (xs : List X) (x : X) → last_given otherwise (xs ++ x ∷ []) ≡ x
last_given-push otherwise xs x = ap (λ o. unwrap_or o otherwise) (last_or-push None xs x)

picked_push : {X : Type 0} (pick : Setting → Option X) (otherwise : X) (said : List Setting) (s : Setting) (x : X) → pick s ≡ Some x → last_given otherwise (filter_map pick (said ++ s ∷ [])) ≡ x
picked_push pick otherwise said s x e =
    ap (last_given otherwise) (filter_map-append pick said (s ∷ []) ∙ ap (λ o. filter_map pick said ++ cons_option o []) e) ∙ last_given-push otherwise (filter_map pick said) x

picked_same : {X : Type 0} (pick : Setting → Option X) (otherwise : X) (said : List Setting) (s : Setting) → pick s ≡ None → last_given otherwise (filter_map pick (said ++ s ∷ [])) ≡ last_given otherwise (filter_map pick said)
picked_same pick otherwise said s e =
    ap (last_given otherwise) (filter_map-append pick said (s ∷ []) ∙ ap (λ o. filter_map pick said ++ cons_option o []) e ∙ append-nil (filter_map pick said))

same_material : (name : List ℕ) (kd kd' ks ks' : Colour) (ns ns' : ℕ) → kd ≡ kd' → ks ≡ ks' → ns ≡ ns'
    → ◌≡◌ {A = Material} (record { name = name; kd = kd; ks = ks; ns = ns }) (record { name = name; kd = kd'; ks = ks'; ns = ns' })
same_material name kd kd' ks ks' ns ns' e f g = cc

-- a setting more is set
setting_more : (name : List ℕ) (said : List Setting) (s : Setting) → material name (said ++ s ∷ []) ≡ set s (material name said)
setting_more name said (setting.Diffuse kd) =
    let s = setting.Diffuse kd in
    same_material name _ _ _ _ _ _ (picked_push diffuse (grey 8000) said s kd refl) (picked_same specular (grey 0) said s refl) (picked_same exponent 0 said s refl)
setting_more name said (setting.Specular ks) =
    let s = setting.Specular ks in
    same_material name _ _ _ _ _ _ (picked_same diffuse (grey 8000) said s refl) (picked_push specular (grey 0) said s ks refl) (picked_same exponent 0 said s refl)
setting_more name said (setting.Exponent ns) =
    let s = setting.Exponent ns in
    same_material name _ _ _ _ _ _ (picked_same diffuse (grey 8000) said s refl) (picked_same specular (grey 0) said s refl) (picked_push exponent 0 said s ns refl)

-- what a line says of a material, if it does
abbrev given : Option Setting → Material → Material
given None m = m
given (Some s) m = set s m

said_more : (name : List ℕ) (said : List Setting) (o : Option Setting) → material name (said ++ cons_option o []) ≡ given o (material name said)
said_more name said None = ap (material name) (append-nil said)
said_more name said (Some s) = setting_more name said s

abbrev line_says : Line → Option Entry
line_says l = entry_of (fields l.bytes)

settings-more : (ls : List Line) (l : Line) → settings (ls ++ l ∷ []) ≡ settings ls ++ cons_option (setting_of (line_says l)) []
settings-more ls l = filter_map-append (λ (k : Line). setting_of (entry_of (fields k.bytes))) ls (l ∷ [])

-- ---- lines that begin a material, and those that do not

pub materials_in-cons : (l : Line) (later : List Line) (b : Bool) → begins l ≡ b → materials_in (l ∷ later) ≡ cond b (material (rest l.bytes) (settings (block later)) ∷ materials_in later) (materials_in later)
unfolding materials_in
materials_in-cons l later b e = ap (λ (x : Bool). cond x (material (rest l.bytes) (settings (block later)) ∷ materials_in later) (materials_in later)) e

pub materials_in-none : materials_in [] ≡ []
unfolding materials_in
materials_in-none = refl

block-cons : (l : Line) (later : List Line) (b : Bool) → begins l ≡ b → block (l ∷ later) ≡ cond (not b) (l ∷ block later) []
block-cons l later b e = take_while-cons (λ (k : Line). not (begins k)) l later ∙ ap (λ (x : Bool). cond (not x) (l ∷ block later) []) e

-- as many materials as lines that begin one
pub counted : (ls : List Line) → length (materials_in ls) ≡ count_by begins ls
counted [] = ap (λ (ms : List Material). length ms) materials_in-none
counted (l ∷ later) = by_test (begins l) refl (counted later)
  where
    one : (b : Bool) → begins l ≡ b → count_by begins (l ∷ later) ≡ cond b 1 0 + count_by begins later
    one b e = sum_by-cons (λ (k : Line). cond (begins k) 1 0) l later ∙ ap (λ (x : Bool). cond x 1 0 + count_by begins later) e

    by_test : (b : Bool) → begins l ≡ b → length (materials_in later) ≡ count_by begins later → length (materials_in (l ∷ later)) ≡ count_by begins (l ∷ later)
    by_test true e ih = ap (λ (ms : List Material). length ms) (materials_in-cons l later true e) ∙ omega (arith, ih) ∙ sym (one true e)
    by_test false e ih = ap (λ (ms : List Material). length ms) (materials_in-cons l later false e) ∙ omega (arith, ih) ∙ sym (one false e)

no_material : {A : Type 0} (m : Material) (ms : List Material) → m ∷ ms ≡ [] → A
no_material m ms e = absurd cc

-- where no material has begun, the lines go on to the end
block-open : (ls : List Line) (l : Line) → materials_in ls ≡ [] → begins l ≡ false → block (ls ++ l ∷ []) ≡ block ls ++ l ∷ []
block-open [] l none stays = block-cons l [] false stays
block-open (k ∷ ls) l none stays = by_test (begins k) refl (λ n. block-open ls l n stays)
  where
    by_test : (b : Bool) → begins k ≡ b → (materials_in ls ≡ [] → block (ls ++ l ∷ []) ≡ block ls ++ l ∷ []) → block (k ∷ (ls ++ l ∷ [])) ≡ block (k ∷ ls) ++ l ∷ []
    by_test true e ih = no_material _ _ (sym (materials_in-cons k ls true e) ∙ none)
    by_test false e ih =
        block-cons k (ls ++ l ∷ []) false e ∙ ap (λ (ks : List Line). k ∷ ks) (ih (sym (materials_in-cons k ls false e) ∙ none))
        ∙ ap (λ (ks : List Line). ks ++ l ∷ []) (sym (block-cons k ls false e))

-- where one has, they stop there
block-closed : (ls : List Line) (l : Line) (m : Material) (ms : List Material) → materials_in ls ≡ m ∷ ms → block (ls ++ l ∷ []) ≡ block ls
block-closed [] l m ms some = no_material m ms (sym some ∙ materials_in-none)
block-closed (k ∷ ls) l m ms some = by_test (begins k) refl (block-closed ls l m ms)
  where
    by_test : (b : Bool) → begins k ≡ b → (materials_in ls ≡ m ∷ ms → block (ls ++ l ∷ []) ≡ block ls) → block (k ∷ (ls ++ l ∷ [])) ≡ block (k ∷ ls)
    by_test true e ih = block-cons k (ls ++ l ∷ []) true e ∙ sym (block-cons k ls true e)
    by_test false e ih =
        block-cons k (ls ++ l ∷ []) false e ∙ ap (λ (ks : List Line). k ∷ ks) (ih (sym (materials_in-cons k ls false e) ∙ some)) ∙ sym (block-cons k ls false e)

-- ---- a line more

-- a line that begins no material says something of the last one, or nothing
goes_on : (ls : List Line) (l : Line) → begins l ≡ false → materials_in (ls ++ l ∷ []) ≡ on_last (given (setting_of (line_says l))) (materials_in ls)
goes_on [] l stays = materials_in-cons l [] false stays ∙ materials_in-none ∙ ap (on_last (given (setting_of (line_says l)))) (sym materials_in-none)
goes_on (k ∷ ls) l stays = by_test (begins k) refl (goes_on ls l stays)
  where
    change : Material → Material
    change = given (setting_of (line_says l))

    named : List Line → Material
    named ks = material (rest k.bytes) (settings ks)

    by_later : (ms : List Material) → materials_in ls ≡ ms → named (block (ls ++ l ∷ [])) ∷ on_last change ms ≡ on_last change (named (block ls) ∷ ms)
    by_later [] none =
        ap (λ (m : Material). m ∷ []) (ap named (block-open ls l none stays) ∙ ap (material (rest k.bytes)) (settings-more (block ls) l) ∙ said_more (rest k.bytes) (settings (block ls)) (setting_of (line_says l)))
    by_later (m ∷ ms) some = ap (λ (ks : List Line). named ks ∷ on_last change (m ∷ ms)) (block-closed ls l m ms some)

    by_test : (b : Bool) → begins k ≡ b → materials_in (ls ++ l ∷ []) ≡ on_last change (materials_in ls) → materials_in (k ∷ (ls ++ l ∷ [])) ≡ on_last change (materials_in (k ∷ ls))
    by_test true e ih =
        materials_in-cons k (ls ++ l ∷ []) true e ∙ ap (λ (ms : List Material). named (block (ls ++ l ∷ [])) ∷ ms) ih ∙ by_later (materials_in ls) refl
        ∙ ap (on_last change) (sym (materials_in-cons k ls true e))
    by_test false e ih = materials_in-cons k (ls ++ l ∷ []) false e ∙ ih ∙ ap (on_last change) (sym (materials_in-cons k ls false e))

-- a line that begins a material leaves the others as they are
block-stops : (ls : List Line) (l : Line) → begins l ≡ true → block (ls ++ l ∷ []) ≡ block ls
block-stops [] l starts = block-cons l [] true starts
block-stops (k ∷ ls) l starts = by_test (begins k) refl (block-stops ls l starts)
  where
    by_test : (b : Bool) → begins k ≡ b → block (ls ++ l ∷ []) ≡ block ls → block (k ∷ (ls ++ l ∷ [])) ≡ block (k ∷ ls)
    by_test true e ih = block-cons k (ls ++ l ∷ []) true e ∙ sym (block-cons k ls true e)
    by_test false e ih = block-cons k (ls ++ l ∷ []) false e ∙ ap (λ (ks : List Line). k ∷ ks) ih ∙ sym (block-cons k ls false e)

begins_one : (ls : List Line) (l : Line) → begins l ≡ true → materials_in (ls ++ l ∷ []) ≡ materials_in ls ++ material (rest l.bytes) [] ∷ []
begins_one [] l starts =
    materials_in-cons l [] true starts ∙ ap (λ (ms : List Material). material (rest l.bytes) [] ∷ ms) materials_in-none ∙ ap (λ (ms : List Material). ms ++ material (rest l.bytes) [] ∷ []) (sym materials_in-none)
begins_one (k ∷ ls) l starts = by_test (begins k) refl (begins_one ls l starts)
  where
    named : List Line → Material
    named ks = material (rest k.bytes) (settings ks)

    by_test : (b : Bool) → begins k ≡ b → materials_in (ls ++ l ∷ []) ≡ materials_in ls ++ material (rest l.bytes) [] ∷ [] → materials_in (k ∷ (ls ++ l ∷ [])) ≡ materials_in (k ∷ ls) ++ material (rest l.bytes) [] ∷ []
    by_test true e ih =
        materials_in-cons k (ls ++ l ∷ []) true e ∙ ap (λ (ms : List Material). named (block (ls ++ l ∷ [])) ∷ ms) ih
        ∙ ap (λ (ks : List Line). named ks ∷ (materials_in ls ++ material (rest l.bytes) [] ∷ [])) (block-stops ls l starts)
        ∙ ap (λ (ms : List Material). ms ++ material (rest l.bytes) [] ∷ []) (sym (materials_in-cons k ls true e))
    by_test false e ih =
        materials_in-cons k (ls ++ l ∷ []) false e ∙ ih ∙ ap (λ (ms : List Material). ms ++ material (rest l.bytes) [] ∷ []) (sym (materials_in-cons k ls false e))

-- the materials after a line more
pub one_line_more : (ls : List Line) (l : Line) (o : Option Entry) → entry_of (fields l.bytes) ≡ o → materials_in (ls ++ l ∷ []) ≡ taken o (rest l.bytes) (materials_in ls)
one_line_more ls l None e = goes_on ls l (ap is_begin e) ∙ ap (λ (o : Option Entry). on_last (given (setting_of o)) (materials_in ls)) e ∙ on_last-same (λ (m : Material). m) (materials_in ls) (λ m. refl)
one_line_more ls l (Some entry.Begin) e = begins_one ls l (ap is_begin e)
one_line_more ls l (Some (entry.Set s)) e = goes_on ls l (ap is_begin e) ∙ ap (λ (o : Option Entry). on_last (given (setting_of o)) (materials_in ls)) e
