use Rattle.std.proofs.Common.{◌≡◌, ◌<◌, ◌∙◌, arith, sym, ap, ℕ, nat_le}
use Rattle.lc_algebra.specs.Greatest.{greatest_up_to}
use Rattle.lc_map.specs.Scale.{share_of}
use Rattle.lc_map.proofs.Shares.{reached-all, reached-none, reached-within}
use Rattle.lc_map.proofs.scale.byte_reached.Goals as goal

pub returns-then-bound-eq0 : goal.returns-then-bound-eq0
returns-then-bound-eq0 c =
    let none : c.args.bound ≡ 0 = omega arith in
    rw none (sym (reached-none c.args.est))

pub returns-then-est-eq0 : goal.returns-then-est-eq0
returns-then-est-eq0 c =
    let none : c.args.est ≡ 0 = omega arith in
    let some : 0 < c.args.bound = omega arith in
    rw none (sym (reached-all c.args.bound some))

pub returns : goal.returns
returns c =
    let some_est : 0 < c.args.est = omega arith in
    let some_bound : 0 < c.args.bound = omega arith in
    c.byte_within.ensures ∙ ap (λ (r : ℕ). greatest_up_to (λ byte. nat_le (share_of byte) r) 255) c.ratio.ensures ∙ reached-within c.args.est c.args.bound some_est some_bound
