-- Logged inputs: an input in memory that keeps a log, what is known of it, and what it shows of itself as a device.
-- Source: this project's own.
use Rattle.std.specs.Prelude.{ℕ, Bool, true, false, List, Option, Some, None}
use Rattle.stab_io.specs.Devices.{InputView}
use Rattle.stab_script.specs.Watchers.{Asked}

-- an input in memory that is cut into pieces: what is unread, the most that one read gives, and its reads so far, if it keeps them
pub record LoggedBytes : Type 0 where
  pub unread : List ℕ
  pub piece : ℕ
  pub log : Option (List Asked)

-- a logged input as a device
abbrev pub logged_input : LoggedBytes → InputView
logged_input d = record { honest = true; unread = d.unread; failures = 0 }

-- the reads so far, if there is a log
abbrev pub log_of : Bool → List Asked → Option (List Asked)
log_of true reads = Some reads
log_of false reads = None
