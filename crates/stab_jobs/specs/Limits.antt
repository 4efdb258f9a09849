-- Limits: how many shots a command takes at most, how many a seed has, and the greatest stride.
-- Source: this project's own.
use Rattle.std.specs.Prelude.{ℕ}
use Rattle.stab_circuit.specs.Limits.{most_stride}

-- the greatest number of shots
abbrev pub most_shots : ℕ
most_shots = 1000000

-- the number of the last shot of a seed
abbrev pub last_shot : ℕ
last_shot = 18446744073709551615

-- how many shots a seed has
abbrev pub shots_of_seed : ℕ
shots_of_seed = 18446744073709551616

-- the shots that a command takes, one after another: the number of the first, and how many
pub record ShotRange : Type 0 where
  pub first : ℕ
  pub number : ℕ

-- the greatest stride that a job has: that of a session
abbrev pub stride_at_most : ℕ
stride_at_most = most_stride
