use Rattle.std.proofs.Common.{rules, ◌∙◌}
use Rattle.lc_tool.proofs.Keeps.{counts_then, note_counts}
use Rattle.lc_tool.proofs.Noting.{noted_more, noted_refused, noted_put}
use Rattle.lc_tool.proofs.note.note.Goals as goal

pub returns-then-is_ok-clause-noted : goal.returns-then-is_ok-clause-noted
returns-then-is_ok-clause-noted g c =
    let q = c.put-then-is_ok.ensures in
    let second = noted_put c.as_bytes-then-is_ok.result.now _ _ c.put-then-is_ok.result q.same q.asked (search rules) q.part q.failed q.kept q.memory in
    rw (← c.as_bytes.ensures.value, ← c.as_bytes-then-is_ok.ensures.value)
    (noted_more c.as_bytes.result.now c.as_bytes-then-is_ok.result.now _ _ _ c.put.ensures.same c.put.ensures.asked (search rules) second)

pub returns-then-is_ok-clause-asked : goal.returns-then-is_ok-clause-asked
returns-then-is_ok-clause-asked g c = c.put-then-is_ok.ensures.same.asked ∙ c.put.ensures.same.asked

pub returns-then-is_ok-clause-counts : goal.returns-then-is_ok-clause-counts
returns-then-is_ok-clause-counts g c =
    counts_then _ _ _ (note_counts c.put.result _ _ c.put.ensures.counted) (note_counts c.put-then-is_ok.result _ _ c.put-then-is_ok.ensures.counted)

pub returns-else-is_ok-clause-counts : goal.returns-else-is_ok-clause-counts
returns-else-is_ok-clause-counts g c = note_counts c.put.result _ _ c.put.ensures.counted

pub returns-else-is_ok-clause-noted : goal.returns-else-is_ok-clause-noted
returns-else-is_ok-clause-noted g c =
    let p = c.put.ensures in
    rw (← c.as_bytes.ensures.value)
    (noted_refused c.as_bytes.result.now _ _ _ c.put.result (search rules) p.same p.asked p.part p.failed p.kept p.memory)
