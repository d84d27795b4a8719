-- Names, each once in the order of first use.
use Rattle.std.proofs.Common.{◌≡◌, ℕ, ◌+◌, ◌≤◌, Bool, true, false, cond, not, ◌||◌, eqb, List, [], ◌∷◌, ◌++◌, length, refl, sym, ap, ◌∙◌, append_assoc, arith}
use Rattle.std.specs.Prelude.{filter, map}
use Rattle.std.specs.List.{list_any, position_or_len}
use Rattle.std.specs.Str.{bytes_eq}
use Rattle.std.proofs.lemmas.List.{append-nil, map-append}
use Rattle.std.proofs.lemmas.Bool.{eqb-true}
use Rattle.std.proofs.lemmas.List.Elements.{filter-append}
use Rattle.std.proofs.lemmas.List.Folds.{position_or_len_push}
use Rattle.std.proofs.lemmas.List.Sums.{length-filter, count_by-le-length, prefix_len-le-length}
use Rattle.std.proofs.lemmas.Slice.Eq.{bytes_eq-Decides}
use Rattle.indexmap.specs.IndexSet.{insert_key, insert_all}
use Rattle.lc_obj.specs.ObjFile.{first_uses}

-- ---- equal names

pub equal_names : (x y : List ℕ) → bytes_eq x y ≡ true → x ≡ y
equal_names x y e = (bytes_eq-Decides x y).0 e

pub same_name : (x : List ℕ) → bytes_eq x x ≡ true
same_name x = (bytes_eq-Decides x x).1 refl

other_name : (x y : List ℕ) (b : Bool) → bytes_eq x y ≡ false → bytes_eq y x ≡ b → b ≡ false
other_name x y false e f = refl
other_name x y true e f = absurd (let same : y ≡ x = equal_names y x f in let g : bytes_eq x y ≡ true = ap (bytes_eq x) same ∙ same_name x in cc)

pub other_names : (x y : List ℕ) → bytes_eq x y ≡ false → bytes_eq y x ≡ false
other_names x y e = other_name x y (bytes_eq y x) e refl

-- ---- the names without those that are equal to one

abbrev without : List ℕ → List (List ℕ) → List (List ℕ)
without name names = filter (λ other. not (bytes_eq name other)) names

head_kept : (x y : List ℕ) (kept left : List (List ℕ)) (b : Bool) → (b ≡ true → bytes_eq x y ≡ false) → list_any (bytes_eq x) kept ≡ list_any (bytes_eq x) left → list_any (bytes_eq x) (cond (not b) (y ∷ kept) kept) ≡ (bytes_eq x y || list_any (bytes_eq x) left)
head_kept x y kept left true apart e = e ∙ ap (λ (b : Bool). b || list_any (bytes_eq x) left) (sym (apart refl))
head_kept x y kept left false apart e = ap (λ (b : Bool). bytes_eq x y || b) e

any_without : (x n : List ℕ) (names : List (List ℕ)) → bytes_eq x n ≡ false → list_any (bytes_eq x) (without n names) ≡ list_any (bytes_eq x) names
any_without x n [] e = refl
any_without x n (y ∷ names) e =
    head_kept x y (without n names) names (bytes_eq n y) (λ f. ap (bytes_eq x) (sym (equal_names n y f)) ∙ e) (any_without x n names e)

any_by_head : (x n : List ℕ) (kept left : List (List ℕ)) (b : Bool) → bytes_eq x n ≡ b → (b ≡ false → list_any (bytes_eq x) kept ≡ list_any (bytes_eq x) left) → (b || list_any (bytes_eq x) kept) ≡ (b || list_any (bytes_eq x) left)
any_by_head x n kept left true e f = refl
any_by_head x n kept left false e f = f refl

-- a name is among the first uses where it is among the uses
pub any_first_uses : (x : List ℕ) (names : List (List ℕ)) → list_any (bytes_eq x) (first_uses names) ≡ list_any (bytes_eq x) names
unfolding first_uses
any_first_uses x [] = refl
any_first_uses x (n ∷ names) =
    any_by_head x n (without n (first_uses names)) names (bytes_eq x n) refl (λ e. any_without x n (first_uses names) e ∙ any_first_uses x names)

-- ---- one name more

abbrev kept_if : Bool → List (List ℕ) → List ℕ → List (List ℕ)
kept_if found names x = cond found names (names ++ x ∷ [])

without_self : (n x : List ℕ) → bytes_eq n x ≡ true → without n (x ∷ []) ≡ []
without_self n x e = ap (λ (b : Bool). cond (not b) (x ∷ []) []) e

without_other : (n x : List ℕ) → bytes_eq n x ≡ false → without n (x ∷ []) ≡ x ∷ []
without_other n x e = ap (λ (b : Bool). cond (not b) (x ∷ []) []) e

same_as_first : (n x : List ℕ) (names : List (List ℕ)) (found : Bool) → bytes_eq n x ≡ true → without n (kept_if found names x) ≡ without n names
same_as_first n x names true e = refl
same_as_first n x names false e = filter-append (λ other. not (bytes_eq n other)) names (x ∷ []) ∙ ap (λ (ls : List (List ℕ)). without n names ++ ls) (without_self n x e) ∙ append-nil (without n names)

other_than_first : (n x : List ℕ) (names : List (List ℕ)) (found : Bool) → bytes_eq n x ≡ false → n ∷ without n (kept_if found names x) ≡ kept_if found (n ∷ without n names) x
other_than_first n x names true e = refl
other_than_first n x names false e = ap (λ (ls : List (List ℕ)). n ∷ ls) (filter-append (λ other. not (bytes_eq n other)) names (x ∷ []) ∙ ap (λ (ls : List (List ℕ)). without n names ++ ls) (without_other n x e))

pushed_by_head : (n x : List ℕ) (names : List (List ℕ)) (b : Bool) → bytes_eq x n ≡ b → n ∷ without n (kept_if (list_any (bytes_eq x) names) names x) ≡ kept_if (b || list_any (bytes_eq x) (without n names)) (n ∷ without n names) x
pushed_by_head n x names true e =
    ap (λ (ls : List (List ℕ)). n ∷ ls) (same_as_first n x names (list_any (bytes_eq x) names) (ap (bytes_eq n) (equal_names x n e) ∙ same_name n))
pushed_by_head n x names false e =
    other_than_first n x names (list_any (bytes_eq x) names) (other_names x n e) ∙ ap (λ (b : Bool). kept_if b (n ∷ without n names) x) (sym (any_without x n names e))

pub first_uses_push : (names : List (List ℕ)) (x : List ℕ) → first_uses (names ++ x ∷ []) ≡ insert_key bytes_eq (first_uses names) x
unfolding first_uses
first_uses_push [] x = refl
first_uses_push (n ∷ names) x = ap (λ (ls : List (List ℕ)). n ∷ without n ls) (first_uses_push names x) ∙ pushed_by_head n x (first_uses names) (bytes_eq x n) refl

pub no_uses : first_uses [] ≡ []
unfolding first_uses
no_uses = refl

-- later uses are inserted one after the other
pub first_uses_more : (names more : List (List ℕ)) → first_uses (names ++ more) ≡ insert_all bytes_eq (first_uses names) more
first_uses_more names [] = ap first_uses (append-nil names)
first_uses_more names (x ∷ more) =
    ap first_uses (sym (append_assoc names (x ∷ []) more)) ∙ first_uses_more (names ++ x ∷ []) more ∙ ap (λ (ls : List (List ℕ)). insert_all bytes_eq ls more) (first_uses_push names x)

without_shorter : (n : List ℕ) (names : List (List ℕ)) → length (without n names) ≤ length names
without_shorter n names = omega (arith, length-filter (λ other. not (bytes_eq n other)) names, count_by-le-length (λ other. not (bytes_eq n other)) names)

pub first_uses_shorter : (names : List (List ℕ)) → length (first_uses names) ≤ length names
unfolding first_uses
first_uses_shorter [] = omega arith
first_uses_shorter (n ∷ names) = omega (arith, first_uses_shorter names, without_shorter n (first_uses names))

-- ---- the place of a name that is inserted

place_kept : (names : List (List ℕ)) (x : List ℕ) (found : Bool) → position_or_len (bytes_eq x) (kept_if found names x) ≡ position_or_len (bytes_eq x) names
place_kept names x true = refl
place_kept names x false =
    position_or_len_push (bytes_eq x) names x ∙ ap (λ (b : Bool). cond (eqb (position_or_len (bytes_eq x) names) (length names)) (length names + cond b 0 1) (position_or_len (bytes_eq x) names)) (same_name x)
    ∙ at_end (eqb (position_or_len (bytes_eq x) names) (length names)) refl
  where
    at_end : (b : Bool) → eqb (position_or_len (bytes_eq x) names) (length names) ≡ b → cond b (length names + 0) (position_or_len (bytes_eq x) names) ≡ position_or_len (bytes_eq x) names
    at_end true e = omega (arith, eqb-true (position_or_len (bytes_eq x) names) (length names) e)
    at_end false e = refl

pub place_of_inserted : (names : List (List ℕ)) (x : List ℕ) → position_or_len (bytes_eq x) (insert_key bytes_eq names x) ≡ position_or_len (bytes_eq x) names
place_of_inserted names x = place_kept names x (list_any (bytes_eq x) names)

pub place_at_most : (names : List (List ℕ)) (x : List ℕ) → position_or_len (bytes_eq x) names ≤ length names
place_at_most names x = prefix_len-le-length (λ other. not (bytes_eq x other)) names

-- ---- names that are held as other things

module _ {K : Type 0} (view : K → List ℕ) where
  pub any_seen : (x : List ℕ) (keys : List K) → list_any (λ k. bytes_eq x (view k)) keys ≡ list_any (bytes_eq x) (map view keys)
  any_seen x [] = refl
  any_seen x (k ∷ keys) = ap (λ (b : Bool). bytes_eq x (view k) || b) (any_seen x keys)

  pub place_seen : (x : List ℕ) (keys : List K) → position_or_len (λ k. bytes_eq x (view k)) keys ≡ position_or_len (bytes_eq x) (map view keys)
  place_seen x [] = refl
  place_seen x (k ∷ keys) = ap (λ (n : ℕ). cond (not (bytes_eq x (view k))) (1 + n) 0) (place_seen x keys)

  inserted_by : (key : K) (keys : List K) (b : Bool) → map view (cond b keys (keys ++ key ∷ [])) ≡ kept_if b (map view keys) (view key)
  inserted_by key keys true = refl
  inserted_by key keys false = map-append view keys (key ∷ [])

  pub inserted_seen : (key : K) (keys : List K) → map view (insert_key (λ (x y : K). bytes_eq (view x) (view y)) keys key) ≡ insert_key bytes_eq (map view keys) (view key)
  inserted_seen key keys =
      inserted_by key keys (list_any (λ k. bytes_eq (view key) (view k)) keys) ∙ ap (λ (b : Bool). kept_if b (map view keys) (view key)) (any_seen (view key) keys)
