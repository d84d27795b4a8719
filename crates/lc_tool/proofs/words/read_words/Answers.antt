use Rattle.std.proofs.Common.{arith, refl, sym, codes}
use Rattle.std.proofs.lemmas.Bool.Decides.{nat_tests}
use Rattle.lc_tool.specs.Words.{texts}
use Rattle.lc_tool.proofs.Wordings.{not_so_many, not_this_word, no_command}
use Rattle.lc_tool.proofs.words.read_words.Goals as goal
use Rattle.lc_tool.proofs.words.read_words.Goals.{in_default-via-then-words-lt2, in_default-via-in-len2-3+else-eq-3, in_default-via-in-len3+else-eq-4, in_default-via-else-words-lt2+else-words-lt3+else-words-lt4+then-words-lt8, in_default-via-in-len8+else-eq-5, in_default-via-else-words-lt2+else-words-lt3+else-words-lt4+else-words-lt8+else-words-lt9}

pub returns-in_default : goal.returns-in_default
returns-in_default c =
    let words = c.args.words.now in
    record {
      value = elim c.in_default.branch [
        | in_default-via-then-words-lt2 w ↦ no_command (texts words) (not_so_many words (codes "probe") 8 (λ e. grind (arith, nat_tests))) (not_so_many words (codes "render") 2 (λ e. grind (arith, nat_tests))) (not_so_many words (codes "plain") 2 (λ e. grind (arith, nat_tests))) (not_so_many words (codes "audit") 3 (λ e. grind (arith, nat_tests))) (not_so_many words (codes "make") 2 (λ e. grind (arith, nat_tests)))
        | in_default-via-in-len2-3+else-eq-3 w ↦ no_command (texts words) (not_so_many words (codes "probe") 8 (λ e. omega arith)) (not_this_word words _ (codes "render") 2 refl (sym w.if-eq.ensures)) (not_this_word words _ (codes "plain") 2 refl (sym w.if-eq-2.ensures)) (not_so_many words (codes "audit") 3 (λ e. omega arith)) (not_this_word words _ (codes "make") 2 refl (sym w.if-eq-3.ensures))
        | in_default-via-in-len3+else-eq-4 w ↦ no_command (texts words) (not_so_many words (codes "probe") 8 (λ e. omega arith)) (not_so_many words (codes "render") 2 (λ e. omega arith)) (not_so_many words (codes "plain") 2 (λ e. omega arith)) (not_this_word words _ (codes "audit") 3 refl (sym w.if-eq-4.ensures)) (not_so_many words (codes "make") 2 (λ e. omega arith))
        | in_default-via-else-words-lt2+else-words-lt3+else-words-lt4+then-words-lt8 w ↦ no_command (texts words) (not_so_many words (codes "probe") 8 (λ e. grind (arith, nat_tests))) (not_so_many words (codes "render") 2 (λ e. grind (arith, nat_tests))) (not_so_many words (codes "plain") 2 (λ e. grind (arith, nat_tests))) (not_so_many words (codes "audit") 3 (λ e. grind (arith, nat_tests))) (not_so_many words (codes "make") 2 (λ e. grind (arith, nat_tests)))
        | in_default-via-in-len8+else-eq-5 w ↦ no_command (texts words) (not_this_word words _ (codes "probe") 8 refl (sym w.if-eq-5.ensures)) (not_so_many words (codes "render") 2 (λ e. omega arith)) (not_so_many words (codes "plain") 2 (λ e. omega arith)) (not_so_many words (codes "audit") 3 (λ e. omega arith)) (not_so_many words (codes "make") 2 (λ e. omega arith))
        | in_default-via-else-words-lt2+else-words-lt3+else-words-lt4+else-words-lt8+else-words-lt9 w ↦ no_command (texts words) (not_so_many words (codes "probe") 8 (λ e. grind (arith, nat_tests))) (not_so_many words (codes "render") 2 (λ e. grind (arith, nat_tests))) (not_so_many words (codes "plain") 2 (λ e. grind (arith, nat_tests))) (not_so_many words (codes "audit") 3 (λ e. grind (arith, nat_tests))) (not_so_many words (codes "make") 2 (λ e. grind (arith, nat_tests)))
      ];
    }
