-- Limits: how many steps may lie between two checkpoints of a run.
-- Source: this project's own.
use Rattle.std.specs.Prelude.{ℕ}

-- the greatest stride
abbrev pub most_stride : ℕ
most_stride = 65536
