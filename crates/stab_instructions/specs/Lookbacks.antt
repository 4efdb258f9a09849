-- Lookbacks: how far back a record may be looked for.
-- Source: Stim's circuit file format: rec[-k] counts back from the newest record.
use Rattle.std.specs.Prelude.{ℕ, ◌<◌, ◌≤◌}
use Rattle.stab_instructions.specs.Limits.{most_lookback}

-- a k of rec[-k]
abbrev pub IsLookback : ℕ → Type 0
IsLookback k = (0 < k) × (k ≤ most_lookback)
