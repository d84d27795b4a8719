-- Words that are no command.
use Rattle.std.proofs.Common.{◌≡◌, ◌∙◌, ℕ, Bool, true, false, cond, List, [], ◌∷◌, length, get_or, refl, ap, Some, None, codes, arith, Bor, sym}
use Rattle.std.proofs.lemmas.List.{length-map}
use Rattle.std.proofs.lemmas.Bool.Decides.{nat_tests}
use Rattle.std.specs.Prelude.{◌&&◌, ◌==◌}
use Rattle.std.specs.Str.{bytes_eq}
use Rattle.lc_scan.specs.Whole.{whole_of}
use Rattle.lc_tool.specs.Words.{render, plain, audit_of, make_of, texts, probe_of, word_at, vector_at, begins, command_of}

differ : (a b : ℕ) → (a ≡ b → ⊥) → (a == b) ≡ false
differ a b h = grind (arith, nat_tests)

no_and : (b : Bool) → (b && false) ≡ false
no_and true = refl
no_and false = refl

-- so many words are not these
pub not_so_many : (words : List (Bor (List ℕ))) (first : List ℕ) (count : ℕ) → (length words ≡ count → ⊥) → begins (texts words) first count ≡ false
not_so_many words first count h =
    ap (λ n. (n == count) && bytes_eq (word_at (texts words) 0) first) (length-map words (λ (word : Bor (List ℕ)). word.now)) ∙ ap (λ b. b && bytes_eq (word_at (texts words) 0) first) (differ (length words) count h)

first_word : (words : List (Bor (List ℕ))) (none : Bor (List ℕ)) → none.now ≡ [] → (get_or words 0 none).now ≡ word_at (texts words) 0
first_word [] none e = e
first_word (x ∷ xs) none e = refl

-- the first word is another
pub not_this_word : (words : List (Bor (List ℕ))) (none : Bor (List ℕ)) (first : List ℕ) (count : ℕ) → none.now ≡ [] → bytes_eq (get_or words 0 none).now first ≡ false → begins (texts words) first count ≡ false
not_this_word words none first count e h = ap (λ b. (length (texts words) == count) && b) (ap (λ w. bytes_eq w first) (sym (first_word words none e)) ∙ h) ∙ no_and (length (texts words) == count)

pub no_command : (words : List (List ℕ)) → begins words (codes "probe") 8 ≡ false → begins words (codes "render") 2 ≡ false → begins words (codes "plain") 2 ≡ false
    → begins words (codes "audit") 3 ≡ false → begins words (codes "make") 2 ≡ false → None ≡ command_of words
no_command words a b c d e =
    let made = cond (begins words (codes "make") 2) (make_of (whole_of (word_at words 1))) None in
    let audits = cond (begins words (codes "audit") 3) (audit_of (word_at words 1) (whole_of (word_at words 2))) made in
    let last = cond (begins words (codes "plain") 2) (Some (plain (word_at words 1))) audits in
    sym (ap (λ x. cond x (probe_of (word_at words 1) (vector_at words 2) (vector_at words 5)) (cond (begins words (codes "render") 2) (Some (render (word_at words 1))) last)) a
    ∙ ap (λ x. cond x (Some (render (word_at words 1))) last) b
    ∙ ap (λ x. cond x (Some (plain (word_at words 1))) audits) c
    ∙ ap (λ x. cond x (audit_of (word_at words 1) (whole_of (word_at words 2))) made) d
    ∙ ap (λ x. cond x (make_of (whole_of (word_at words 1))) None) e)
