use Rattle.std.proofs.Common.{arith}
use Rattle.lc_record.proofs.Lengths.{AreShort, numbers_short}
use Rattle.lc_record.proofs.line.line_text.Goals as goal

pub push_field-requires : goal.push_field-requires
push_field-requires c = let short : AreShort c.args.a.now = numbers_short c.args.a.now c.requires in omega arith

pub push_field-requires-2 : goal.push_field-requires-2
push_field-requires-2 c = let short : AreShort c.args.a.now = numbers_short c.args.a.now c.requires in omega arith

pub push_field-requires-3 : goal.push_field-requires-3
push_field-requires-3 c = let short : AreShort c.args.a.now = numbers_short c.args.a.now c.requires in omega arith

pub push_field-requires-4 : goal.push_field-requires-4
push_field-requires-4 c = let short : AreShort c.args.a.now = numbers_short c.args.a.now c.requires in omega arith

pub push_field-requires-5 : goal.push_field-requires-5
push_field-requires-5 c = let short : AreShort c.args.a.now = numbers_short c.args.a.now c.requires in omega arith

pub push_field-requires-6 : goal.push_field-requires-6
push_field-requires-6 c = let short : AreShort c.args.a.now = numbers_short c.args.a.now c.requires in omega arith

pub push_field-requires-7 : goal.push_field-requires-7
push_field-requires-7 c = let short : AreShort c.args.a.now = numbers_short c.args.a.now c.requires in omega arith

pub push_number-requires : goal.push_number-requires
push_number-requires c = let short : AreShort c.args.a.now = numbers_short c.args.a.now c.requires in omega arith

pub push-requires : goal.push-requires
push-requires c = let short : AreShort c.args.a.now = numbers_short c.args.a.now c.requires in omega arith

pub returns-clause-short : goal.returns-clause-short
returns-clause-short c = let short : AreShort c.args.a.now = numbers_short c.args.a.now c.requires in omega arith
