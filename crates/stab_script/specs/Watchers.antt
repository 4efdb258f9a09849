-- Watchers: what an input may keep of its reads, each together with an output as it was then.
-- Source: this project's own.
use Rattle.std.specs.Prelude.{◌≡◌, ℕ, List, [], ◌++◌, length, take, ◌⊎◌, Option, Some, None, Result, Ok, Err}
use Rattle.stab_io.specs.Devices.{OutputView}
use Rattle.stab_io.specs.declared.device.DeviceFault.{DeviceFault}

-- a read: how many bytes were written when it was made, and what it handed over
pub record Asked : Type 0 where
  pub written : ℕ
  pub given : List ℕ

-- what a read handed over, which is nothing if it failed
abbrev pub given_by : Result ℕ DeviceFault → List ℕ → List ℕ
given_by (Ok n) buf = take n buf
given_by (Err f) buf = []

-- a read that was made beside an output
abbrev pub asked : OutputView → Result ℕ DeviceFault → List ℕ → Asked
asked o r buf = record { written = length o.written; given = given_by r buf }

-- a log after more reads: it was given up, or has them after those that it had
abbrev pub Logs : Option (List Asked) → Option (List Asked) → List Asked → Type 0
Logs old new more = (new ≡ None) ⊎ ((before : List Asked) × (old ≡ Some before) × (new ≡ Some (before ++ more)))
