-- Answers of std as a device reports them.
use Rattle.std.specs.Prelude.{◌≡◌, ℕ, ◌<◌, ◌⊎◌, Result, Ok, Err, IsErr, MatchResult}
use Rattle.stab_io.specs.declared.device.DeviceFault.{DeviceFault}
use Rattle.stab_io.specs.Devices.{counted_up}
use Rattle.stab_io.specs.StdDevices.{DeviceState}

-- a value is reported as it is, and an error as a failure, which is counted; nothing else of the device changes
abbrev pub Reports : {A E T : Type 0} → Result A E → DeviceState T → DeviceState T → Result A DeviceFault → Type 0
Reports answer old new r = MatchResult answer
    (λ value. (r ≡ Ok value) × (new ≡ old))
    (λ _. IsErr r × (new ≡ record old { failures = counted_up old.failures }))

-- an answer to a write of this many bytes stays as it is, except that an answer of none taken out of at least one becomes an error
abbrev pub TakesNoneAsError : {E : Type 0} → Result ℕ E → ℕ → Result ℕ E → Type 0
TakesNoneAsError answer given r = MatchResult r
    (λ n. (answer ≡ Ok n) × (0 < given → 0 < n))
    (λ e. (answer ≡ Err e) ⊎ ((answer ≡ Ok 0) × (0 < given)))
