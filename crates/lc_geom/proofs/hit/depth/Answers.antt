use Rattle.std.proofs.Common.{◌≡◌, ℕ, refl, true, false, ap, ap₂, sym, ◌∙◌, Some, None}
use Rattle.std.specs.Int.RustNames.{unsigned_abs}
use Rattle.lc_num.specs.declared.vectors.Vec3.{Vec3}
use Rattle.lc_geom.specs.declared.triangle.Tri.{Tri}
use Rattle.lc_geom.specs.Crossing.{side, crosses}
use Rattle.lc_geom.specs.Hits.{depth, depth_between, moved}
use Rattle.lc_geom.proofs.CrossingCode.{read_short}
use Rattle.lc_geom.proofs.CrossingPoint.{off_end}
use Rattle.lc_geom.proofs.hit.depth.Goals as goal

-- the depth, where it is known whether the segment crosses
depth_there : (e d q : Vec3) (t : Tri) (s r n : ℕ) → q ≡ moved e d → crosses e q t ≡ true → n ≡ depth_between s r → s ≡ unsigned_abs (side t e) → r ≡ unsigned_abs (side t q) → Some n ≡ depth e d t
unfolding depth
depth_there e d q t s r n is hit at es er =
    let crossed : crosses e (moved e d) t ≡ true = ap (λ v. crosses e v t) (sym is) ∙ hit in
    rw crossed (ap (λ k. Some k) (at ∙ ap₂ (λ a b. depth_between a b) es (er ∙ ap (λ v. unsigned_abs (side t v)) is)))

no_depth : (e d q : Vec3) (t : Tri) → q ≡ moved e d → crosses e q t ≡ false → None ≡ depth e d t
unfolding depth
no_depth e d q t is missed =
    let free : crosses e (moved e d) t ≡ false = ap (λ v. crosses e v t) (sym is) ∙ missed in
    rw free refl

end_size : (c : goal.After-unsigned_abs-then-crosses_between) → c.unsigned_abs-then-crosses_between.result ≡ unsigned_abs (side c.args.t.now c.moved-q.result)
end_size c = c.unsigned_abs-then-crosses_between.ensures.value ∙ ap unsigned_abs (read_short c.sides-start.result.1 c.sides-start.ensures.most_end ∙ c.sides-start.ensures.end)

pub depth_between-requires-clause-some : goal.depth_between-requires-clause-some
depth_between-requires-clause-some c =
    rw (end_size c) (off_end c.args.e c.moved-q.result c.args.t.now (sym c.crosses_between.ensures ∙ c.if-crosses_between.true))

pub returns-then-crosses_between-clause-value : goal.returns-then-crosses_between-clause-value
returns-then-crosses_between-clause-value c =
    depth_there c.args.e c.args.d c.moved-q.result c.args.t.now c.unsigned_abs.result c.unsigned_abs-then-crosses_between.result c.depth_between.result c.moved-q.ensures (sym c.crosses_between.ensures ∙ c.if-crosses_between.true)
    c.depth_between.ensures.value
    (c.unsigned_abs.ensures.value ∙ ap unsigned_abs (read_short c.sides-start.result.0 c.sides-start.ensures.most_start ∙ c.sides-start.ensures.start))
    (c.unsigned_abs-then-crosses_between.ensures.value ∙ ap unsigned_abs (read_short c.sides-start.result.1 c.sides-start.ensures.most_end ∙ c.sides-start.ensures.end))

pub returns-else-crosses_between-clause-value : goal.returns-else-crosses_between-clause-value
returns-else-crosses_between-clause-value c =
    no_depth c.args.e c.args.d c.moved-q.result c.args.t.now c.moved-q.ensures (sym c.crosses_between.ensures ∙ c.if-crosses_between.false)
