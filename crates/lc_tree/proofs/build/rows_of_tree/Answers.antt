use Rattle.std.proofs.Common.{rules, ◌≡◌, ◌<◌, arith, ap, sym, ◌∙◌, subst, All, length, vec_len}
use Rattle.lc_words.specs.Words.{after, word_of, stream_of}
use Rattle.lc_tree.specs.Grown.{IsValid, StandsIn}
use Rattle.lc_tree.proofs.Drawing.{drew_none}
use Rattle.lc_tree.proofs.Growing.{laid_of_grown}
use Rattle.lc_tree.proofs.Numbering.{numbered_valid, numbered_stand, length_numbered}
use Rattle.lc_tree.proofs.build.rows_of_tree.Goals as goal

pub grow-requires-clause-some : goal.grow-requires-clause-some
grow-requires-clause-some g c =
    let order = c.deref_mut.ensures.value ∙ c.in_ok-order.ensures in
    let len : length c.deref_mut.result.now ≡ length c.args.lights.now = ap length order ∙ length_numbered g.K.Kind.meaning c.args.lights.now in
    let some : 0 < length c.args.lights.now = search rules in
    omega (arith, len, some)

pub grow-requires-clause-few : goal.grow-requires-clause-few
grow-requires-clause-few g c =
    let order = c.deref_mut.ensures.value ∙ c.in_ok-order.ensures in
    let len : length c.deref_mut.result.now ≡ length c.args.lights.now = ap length order ∙ length_numbered g.K.Kind.meaning c.args.lights.now in
    omega (arith, len, c.requires.few)

pub grow-requires-clause-room : goal.grow-requires-clause-room
grow-requires-clause-room g c =
    let order = c.deref_mut.ensures.value ∙ c.in_ok-order.ensures in
    let len : length c.deref_mut.result.now ≡ length c.args.lights.now = ap length order ∙ length_numbered g.K.Kind.meaning c.args.lights.now in
    omega (arith, len, c.requires.few, c.new-rows.ensures.len)

pub grow-requires-clause-valid : goal.grow-requires-clause-valid
grow-requires-clause-valid g c =
    subst (All (IsValid g.K.Kind.meaning)) (sym (c.deref_mut.ensures.value ∙ c.in_ok-order.ensures)) (numbered_valid g.K.Kind.meaning c.args.lights.now c.requires.valid)

pub returns-clause-laid : goal.returns-clause-laid
returns-clause-laid g c =
    let m = g.K.Kind.meaning in
    let order = c.deref_mut.ensures.value ∙ c.in_ok-order.ensures in
    let words = stream_of c.args.seed c.args.stream in
    let drew : c.new-words.result ≡ after (stream_of c.args.seed c.args.stream) (vec_len c.new-rows.result) = drew_none words c.new-words.result (vec_len c.new-rows.result) c.new-words.ensures c.new-rows.ensures.len in
    let stands = subst (All (StandsIn c.args.lights.now)) (sym order) (numbered_stand m c.args.lights.now) in
    let both = laid_of_grown m (word_of words) c.args.lights.now c.deref_mut.result.now c.new-rows.result.items c.grow.new.rows.items c.in_ok-grow.field-0 order c.new-rows.ensures.items c.requires.few c.requires.valid (c.in_ok-grow.ensures.grown c.args.lights.now words stands drew) in
    both.0

pub returns-clause-tree : goal.returns-clause-tree
returns-clause-tree g c =
    let m = g.K.Kind.meaning in
    let order = c.deref_mut.ensures.value ∙ c.in_ok-order.ensures in
    let words = stream_of c.args.seed c.args.stream in
    let drew : c.new-words.result ≡ after (stream_of c.args.seed c.args.stream) (vec_len c.new-rows.result) = drew_none words c.new-words.result (vec_len c.new-rows.result) c.new-words.ensures c.new-rows.ensures.len in
    let stands = subst (All (StandsIn c.args.lights.now)) (sym order) (numbered_stand m c.args.lights.now) in
    let both = laid_of_grown m (word_of words) c.args.lights.now c.deref_mut.result.now c.new-rows.result.items c.grow.new.rows.items c.in_ok-grow.field-0 order c.new-rows.ensures.items c.requires.few c.requires.valid (c.in_ok-grow.ensures.grown c.args.lights.now words stands drew) in
    both.1
