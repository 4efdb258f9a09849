-- Cuts: what steps gave, in two parts: up to some lengths of its lists, and after them.
-- Source: this project's own.
use Rattle.std.specs.Prelude.{length, take, drop}
use Rattle.stab_run.specs.declared.records.Lengths.{Lengths}
use Rattle.stab_run.specs.Points.{RunOutput}

-- how long the lists of an output are: there is an outcome for each flag
abbrev pub lengths_of : RunOutput → Lengths
lengths_of o = record { records = length o.records; free = length o.free; detectors = length o.detectors; additions = length o.additions }

-- the lists of an output up to these lengths
abbrev pub front_of : Lengths → RunOutput → RunOutput
front_of l o = record {
  records = take l.records o.records;
  free = take l.free o.free;
  outcomes = take l.free o.outcomes;
  detectors = take l.detectors o.detectors;
  additions = take l.additions o.additions;
}

-- and what comes in them after these lengths
abbrev pub rest_of : Lengths → RunOutput → RunOutput
rest_of l o = record {
  records = drop l.records o.records;
  free = drop l.free o.free;
  outcomes = drop l.free o.outcomes;
  detectors = drop l.detectors o.detectors;
  additions = drop l.additions o.additions;
}
