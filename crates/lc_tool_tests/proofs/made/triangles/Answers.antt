use Rattle.std.proofs.Common.{◌≡◌, List, [], ◌∷◌, ◌++◌, All, subst, sym, rules}
use Rattle.std.proofs.lemmas.List.Elements.{All-append, All-cons, All-nil}
use Rattle.lc_geom.specs.Triangles.{IsTri}
use Rattle.lc_tool_tests.proofs.made.triangles.Goals as goal

pub loop-face-preserved : goal.loop-face-preserved
loop-face-preserved c =
    let more : c.push.new.self ≡ c.loop-face.list ++ c.in-Some.tri ∷ [] = search rules in
    subst (All IsTri) (sym more) (All-append IsTri c.loop-face.list (c.in-Some.tri ∷ []) c.loop-face.invariant (All-cons IsTri c.in-Some.tri [] c.in-Some.ensures (All-nil IsTri)))
