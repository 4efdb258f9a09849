-- Pivots stored: what is stored of a run beside its state, so that frames can be propagated over its steps.
-- Source: this project's own.
use Rattle.std.specs.Prelude.{◌≡◌, ℕ, ◌≤◌, min, Bool, List, All, length, drop}
use Rattle.stab_items.specs.Steps.{Step}
use Rattle.stab_run.specs.Points.{origin}
use Rattle.stab_frames.specs.Pivots.{PivotsState, IsNumbered, AreTrue, pivot_at, stored_with}
use Rattle.stab_items.specs.Steps.{LooksWithin}

-- strings that were stored of the run of these steps, which has this randomness, exchange its random outcomes; and the steps look back to
-- no more records than the lookback window
pub record KeepsPivotList (n : ℕ) (coins : ℕ → Bool) (xs : List Step) (strings : PivotsState) (free : List Bool) (window : ℕ) : Type 0 where
  pub size : strings.qubits ≡ n
  pub numbered : IsNumbered strings free
  pub are_true : AreTrue n coins (pivot_at strings.strings free) xs origin
  pub near : All (LooksWithin window) xs

-- strings with others after them, from one of these on, if this many outcomes are random in all
pub record IsSpliced (front others : PivotsState) (from count : ℕ) (new : PivotsState) : Type 0 where
  pub size : new.qubits ≡ front.qubits
  pub strings : new.strings ≡ stored_with front.most front.strings (drop from others.strings)
  pub numbered : length new.strings ≤ count → length new.strings ≡ min count new.most
