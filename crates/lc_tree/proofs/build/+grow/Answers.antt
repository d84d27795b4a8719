use Rattle.std.proofs.Common.{◌≡◌, ◌+◌, ◌*◌, ◌-◌, ◌/◌, ◌<◌, arith, ap, ◌∙◌, refl, length, vec_len}
use Rattle.std.proofs.lemmas.List.Sorted.{length_permutation}
use Rattle.lc_words.specs.Words.{after, word_of}
use Rattle.lc_tree.specs.Grown.{IsValid, StandsIn}
use Rattle.lc_words.proofs.WordLaws.{word_at, later}
use Rattle.lc_tree.proofs.Drawing.{after_both}
use Rattle.lc_tree.proofs.Growing.{grown_leaf, grown_parts, leaf_row, of_front, of_back}
use Rattle.lc_tree.proofs.Numbering.{all_stand, ordered}
use Rattle.lc_tree.proofs.build.+grow.Goals as goal

pub returns-then-half-eq0-clause-grown : goal.returns-then-half-eq0-clause-grown
returns-then-half-eq0-clause-grown g t c =
    λ all g' stands drew. grown_leaf g.K.Kind.meaning (word_of g') all c.args.lights.now c.args.rows.now.items c.push.new.self.items c.index-lights-0.result c.one.result (omega (arith, c.if-half-eq0.true, c.requires.some)) stands c.index-lights-0.is c.one.ensures c.in_ok-push.ensures.items

pub grow-requires : goal.grow-requires
grow-requires g t c κs within =
    let half = c.split_at_mut-left.ensures.front_len in (
      omega (arith, half, c.if-half-eq0.false),
      (
        within.0,
        (
          within.1.0,
          (
            within.1.1,
            (
              omega (arith, half, c.if-half-eq0.false),
              (
                omega (arith, half, c.requires.few),
                (
                  omega (arith, half, c.if-half-eq0.false, c.requires.room, c.in_ok-push.ensures.len),
                  of_front (IsValid g.K.Kind.meaning) _ c.args.lights.now c.sort_along.new.lights c.split_at_mut-left.result.0.now c.sort_along.ensures.permutation c.split_at_mut-left.ensures.front c.requires.valid,
                ),
              ),
            ),
          ),
        ),
      ),
    )

pub grow-requires-2 : goal.grow-requires-2
grow-requires-2 g t c κs within =
    let moved = length_permutation c.args.lights.now c.sort_along.new.lights c.sort_along.ensures.permutation in
    let front = c.split_at_mut-left.ensures.front_len in
    let back = c.split_at_mut-left.ensures.back_len in (
      omega (arith, back, moved, c.if-half-eq0.false),
      (
        within.0,
        (
          within.1.0,
          (
            within.1.1,
            (
              omega (arith, back, moved, c.requires.some),
              (
                omega (arith, back, moved, c.requires.few),
                (
                  omega (arith, front, back, moved, c.if-half-eq0.false, c.requires.room, c.in_ok-push.ensures.len, c.in_ok-a.ensures.more),
                  of_back (IsValid g.K.Kind.meaning) _ c.args.lights.now c.sort_along.new.lights c.split_at_mut-left.result.1.now c.sort_along.ensures.permutation c.split_at_mut-left.ensures.back c.requires.valid,
                ),
              ),
            ),
          ),
        ),
      ),
    )

pub join-requires-clause-a : goal.join-requires-clause-a
join-requires-clause-a g t c = c.in_ok-a.ensures.clump

pub join-requires-clause-b : goal.join-requires-clause-b
join-requires-clause-b g t c = c.in_ok-b.ensures.clump

pub join-requires-clause-few : goal.join-requires-clause-few
join-requires-clause-few g t c =
    let moved = length_permutation c.args.lights.now c.sort_along.new.lights c.sort_along.ensures.permutation in
    omega (arith, c.in_ok-a.ensures.count, c.in_ok-b.ensures.count, c.split_at_mut-left.ensures.front_len, c.split_at_mut-left.ensures.back_len, moved, c.requires.few)

pub leading-requires-clause-left : goal.leading-requires-clause-left
leading-requires-clause-left g t c = c.in_ok-a.ensures.clump

pub leading-requires-clause-right : goal.leading-requires-clause-right
leading-requires-clause-right g t c = c.in_ok-b.ensures.clump

pub returns-clause-words : goal.returns-clause-words
returns-clause-words g t c =
    let moved = length_permutation c.args.lights.now c.sort_along.new.lights c.sort_along.ensures.permutation in
    let front = c.split_at_mut-left.ensures.front_len in
    let back = c.split_at_mut-left.ensures.back_len in
    after_both c.args.words.now c.next_word-word.new.self c.grow.new.words c.grow-2.new.words (length c.split_at_mut-left.result.0.now) (length c.split_at_mut-left.result.1.now) (length c.args.lights.now)
    (omega (arith, front, c.if-half-eq0.false)) (omega (arith, back, moved, c.requires.some)) (omega (arith, front, back, moved))
    c.next_word-word.ensures.after c.in_ok-a.ensures.words c.in_ok-b.ensures.words

pub returns-clause-grown : goal.returns-clause-grown
returns-clause-grown g t c =
    let m = g.K.Kind.meaning in
    let lights = c.args.lights.now in
    let half = length c.args.lights.now / 2 in
    let ys = c.sort_along.new.lights in
    let front = c.split_at_mut-left.ensures.front_len in
    let rows_len : vec_len c.args.rows.now ≡ length c.args.rows.now.items = omega (arith, c.args.rows.now.ok.0) in
    let more : vec_len c.grow.new.rows ≡ vec_len c.push.new.self + (2 * length c.split_at_mut-left.result.0.now - 1) = omega (arith, c.in_ok-a.ensures.more, front, c.if-half-eq0.false) in
    let several : 1 < length c.args.lights.now = omega (arith, c.if-half-eq0.false) in
    λ all g' stands drew.
    let word : c.next_word-word.result ≡ word_of g' (length c.args.rows.now.items) = word_at g' c.args.words.now (length c.args.rows.now.items) c.next_word-word.result (drew ∙ ap (after g') rows_len) c.next_word-word.ensures.word in
    let drew_a : c.next_word-word.new.self ≡ after g' (vec_len c.push.new.self) = later g' c.args.words.now c.next_word-word.new.self (vec_len c.args.rows.now) 1 (vec_len c.push.new.self) drew c.next_word-word.ensures.after c.in_ok-push.ensures.len in
    let drew_b : c.grow.new.words ≡ after g' (vec_len c.grow.new.rows) = later g' c.next_word-word.new.self c.grow.new.words (vec_len c.push.new.self) (2 * length c.split_at_mut-left.result.0.now - 1) (vec_len c.grow.new.rows) drew_a c.in_ok-a.ensures.words more in
    grown_parts m (word_of g') all lights ys c.split_at_mut-left.result.0.now c.split_at_mut-left.result.1.now half c.args.rows.now.items c.push.new.self.items c.grow.new.rows.items c.grow-2.new.rows.items (leaf_row c.one.result c.index-lights-0.result.number) c.in_ok-a.a c.in_ok-b.b c.len-at.result c.join.result c.leading.result c.next_word-word.result several refl
    (ordered m all c.longest_axis-axis.result lights ys c.longest_axis-axis.ensures (all_stand m all lights c.requires.valid stands) c.sort_along.ensures.permutation c.sort_along.ensures.sorted)
    c.sort_along.ensures.permutation c.in_ok-push.ensures.items c.split_at_mut-left.ensures.front c.split_at_mut-left.ensures.back
    (c.in_ok-a.ensures.grown all g' (of_front (StandsIn all) half lights ys c.split_at_mut-left.result.0.now c.sort_along.ensures.permutation c.split_at_mut-left.ensures.front stands) drew_a)
    (c.in_ok-b.ensures.grown all g' (of_back (StandsIn all) half lights ys c.split_at_mut-left.result.1.now c.sort_along.ensures.permutation c.split_at_mut-left.ensures.back stands) drew_b)
    c.join.ensures c.leading.ensures word (c.len-at.ensures ∙ rows_len)
