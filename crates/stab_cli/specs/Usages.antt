-- Usages: how words that are no job are reported.
-- Source: this project's own.
use Rattle.std.specs.Prelude.{◌≡◌, ℕ, ◌⊎◌, string_bytes}
use Rattle.stab_io.specs.Devices.{OutputView, TookAndFlushed}
use Rattle.stab_io.specs.declared.refusal.Refusal.TheVariants.{WriteFault, OutOfMemory}
use Rattle.stab_io.specs.Refusals.{whole}
use Rattle.stab_report.specs.Endings.{FailsToSend}
use Rattle.stab_report.specs.FaultLines.{ReportsFault, TookOrFailed}
use Rattle.stab_args.specs.declared.words.Usage.{Usage}
use Rattle.stab_args.specs.declared.words.Usage.TheVariants.{Help, Fault as Wrong, Memory}

-- Words that are no job are reported, with this status: help on the output, which is flushed, with 0, or as a failed write with 1 if the
-- output failed; the text of bad arguments on the error output with 2; and refused memory as its fault with 1.
abbrev pub ReportsUsage : Usage → OutputView → OutputView → OutputView → OutputView → ℕ → Type 0
ReportsUsage (Help text) o o' e e' status =
    ((status ≡ 0) × TookAndFlushed o o' (string_bytes text) × (e' ≡ e))
    ⊎ ((status ≡ 1) × FailsToSend o o' (string_bytes text) × ReportsFault (whole WriteFault) e e')
ReportsUsage (Wrong text) o o' e e' status = (status ≡ 2) × (o' ≡ o) × TookOrFailed e e' (string_bytes text)
ReportsUsage Memory o o' e e' status = (status ≡ 1) × (o' ≡ o) × ReportsFault (whole OutOfMemory) e e'
