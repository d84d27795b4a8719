use Rattle.lc_tool.proofs.note.note_write_fault.Goals as goal

pub returns : goal.returns
returns g c = let word = c.word.ensures in rw (← word) (record { noted = c.note.ensures.noted; asked = c.note.ensures.asked })
