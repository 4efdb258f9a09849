-- Parts: what a run gave between some lengths of its lists and others.
-- Source: this project's own.
use Rattle.stab_run.specs.declared.records.Lengths.{Lengths}
use Rattle.stab_run.specs.Points.{RunOutput}
use Rattle.stab_run.specs.Cuts.{front_of, rest_of}

-- what an output has between some lengths and others
abbrev pub between : Lengths → Lengths → RunOutput → RunOutput
between from to o = rest_of from (front_of to o)
