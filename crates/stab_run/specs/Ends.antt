-- Ends: points of two runs that no step after them distinguishes.
-- Source: this project's own.
use Rattle.std.specs.Prelude.{◌≡◌, ℕ, ◌≤◌}
use Rattle.stab_tableau.specs.Traces.{member}
use Rattle.stab_tableau.specs.Groups.{SameGroup}
use Rattle.stab_run.specs.Records.{looked_up}
use Rattle.stab_run.specs.Points.{Point}

-- two points have one group, the same number of the next coin, and the same records as far back as rec[-m]
pub record AgreeBack (n m : ℕ) (a b : Point) : Type 0 where
  pub group : SameGroup n (member a.trace) (member b.trace)
  pub coin : a.coin ≡ b.coin
  pub records : (k : ℕ) → k ≤ m → looked_up a.records k ≡ looked_up b.records k

-- a point, with another number for the next coin
abbrev pub with_coin : ℕ → Point → Point
with_coin c a = record { trace = a.trace; coin = c; records = a.records }
