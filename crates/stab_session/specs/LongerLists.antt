-- Longer lists: how long the lists of a run are once others are put after them.
-- Source: this project's own.
use Rattle.std.specs.Prelude.{ℕ, ◌+◌, ◌<◌}
use Rattle.stab_run.specs.declared.records.Lengths.{Lengths}

-- lengths with others added
abbrev pub longer : Lengths → Lengths → Lengths
longer a b = record {
  records = a.records + b.records;
  free = a.free + b.free;
  detectors = a.detectors + b.detectors;
  additions = a.additions + b.additions;
}

-- each of them stays below a limit with this much added
pub record AreBelow (limit more : ℕ) (l : Lengths) : Type 0 where
  pub records : l.records + more < limit
  pub free : l.free + more < limit
  pub detectors : l.detectors + more < limit
  pub additions : l.additions + more < limit
