-- Limits: how many observables a circuit has at most, and how far back a record is looked for at most.
-- Source: this project's own.
use Rattle.std.specs.Prelude.{ℕ}

-- the greatest number of observables
abbrev pub most_observables : ℕ
most_observables = 4096

-- the greatest k of rec[-k]
abbrev pub most_lookback : ℕ
most_lookback = 16777215
