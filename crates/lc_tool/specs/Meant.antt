-- The command of the code, as the definitions have it.
use Rattle.lc_tool.specs.declared.words.Command.{Command as Read}
use Rattle.lc_tool.specs.declared.words.Command.TheVariants.{Probe, Render, Plain, Audit, Make}
use Rattle.lc_tool.specs.Words.{Command, probe, render, plain, audit, make}

abbrev pub meant : Read → Command
meant (Probe lights place direction) = probe lights.now place direction
meant (Render job) = render job.now
meant (Plain job) = plain job.now
meant (Audit job step) = audit job.now step
meant (Make number) = make number
