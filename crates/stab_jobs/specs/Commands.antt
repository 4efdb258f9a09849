-- Commands: which commands read a script.
-- Source: this project's own.
use Rattle.std.specs.Prelude.{Bool, true, false}
use Rattle.stab_jobs.specs.declared.job.Command.{Command}
use Rattle.stab_jobs.specs.declared.job.Command.TheVariants.{Edit}

-- whether a command reads a script
abbrev pub reads_script : Command → Bool
reads_script (Edit framed qubits stride) = true
reads_script command = false
