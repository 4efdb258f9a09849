-- The headline: what a session is, after any list of edits, whatever its coins.
--
-- Its records, randomness, detectors and observables are those of the run of its present items on its n qubits with its coins, from the
-- first step on: nothing of earlier items is left in them. So are the signed strings that stabilise its state: what `sign_of` and
-- `reduced_rows` answer is said of the members of that run's group. Flag t is 1 if and only if neither sign of what was measured with coin
-- t was in the group, and so the coin decided; coins that are the same where the randomness is 1 make the same run.
-- Source: this project's own, over the stabiliser groups of Gottesman 1997.
use Rattle.std.specs.Prelude.{◌≡◌, ℕ, Bool}
use Rattle.stab_run.specs.Runs.{run_of}
use Rattle.stab_run.specs.Laws.{DependsOnCoinsAt}
use Rattle.stab_session.specs.Sessions.{SessionState}

-- what contracts see of a session is the run of its items, with the coins that its source of coins stands for
pub record IsRunOfItems {C : Type 0} (sequence : C → ℕ → Bool) (s : SessionState C) : Type 0 where
  pub records : s.records ≡ (run_of s.qubits (sequence s.coins) s.items).records
  pub free : s.free ≡ (run_of s.qubits (sequence s.coins) s.items).free
  pub detectors : s.detectors ≡ (run_of s.qubits (sequence s.coins) s.items).detectors
  pub observables : s.observables ≡ (run_of s.qubits (sequence s.coins) s.items).observables
  pub decided : DependsOnCoinsAt s.free s.qubits (sequence s.coins) s.items
