use Rattle.std.proofs.Common.{◌≡◌, ℕ, ◌-◌, List, ◌++◌, length, take, drop, sym, ap, ◌∙◌, subst, append_assoc, take-append-drop}
use Rattle.std.proofs.lemmas.List.{take_rest}
use Rattle.std.specs.Io.KnownBytes.{Appends}
use Rattle.std.proofs.KnownBytes.{Appends-trans, Appends-kept}
use Rattle.std.proofs.Math.Seq.{take-append_seam}
use Rattle.lc_desk.proofs.streams.write_piece.Goals as goal

-- what was written and the first bytes of the rest are the front of the piece
pub moves_front : (piece done rest : List ℕ) (n : ℕ) → piece ≡ done ++ rest → piece ≡ (done ++ take n rest) ++ take (length rest - n) (drop n rest)
moves_front piece done rest n split =
    split ∙ ap (λ l. done ++ l) (sym (take-append-drop n rest)) ∙ sym (append_assoc done (take n rest) (drop n rest)) ∙ ap (λ l. (done ++ take n rest) ++ l) (sym (take_rest rest n))

pub loop-rest-preserved : goal.loop-rest-preserved
loop-rest-preserved g c =
    let (done, split, appended) = c.loop-rest.invariant in
    let rest = c.loop-rest.rest.now in
    let n = c.in-Ok.count in
    (done ++ take n rest, moves_front _ done rest n split, Appends-trans _ _ _ _ _ appended c.in-Ok.ensures.appended)

-- a part that was written is the first bytes of the piece
pub is_first : (piece done rest : List ℕ) → piece ≡ done ++ rest → done ≡ take (length done) piece
is_first piece done rest split = sym (ap (take (length done)) split ∙ take-append_seam done rest)

pub returns-in-Err-clause-part : goal.returns-in-Err-clause-part
returns-in-Err-clause-part g c =
    let (done, split, appended) = c.loop-rest.invariant in
    (length done, subst (Appends _ _) (is_first _ done _ split) (Appends-kept _ _ _ done appended c.in-Err.ensures.kept))
