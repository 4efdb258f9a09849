-- Rows: how the lines of strings are sent.
-- Source: this project's own.
use Rattle.std.specs.Prelude.{◌≡◌, List, Result, Ok, Err}
use Rattle.stab_io.specs.Devices.{OutputView, TookAndFlushed}
use Rattle.stab_io.specs.Refusals.{whole}
use Rattle.stab_io.specs.declared.refusal.Refusal.TheVariants.{WriteFault}
use Rattle.stab_io.specs.declared.refusal.Fault.{Fault}
use Rattle.stab_pauli.specs.Paulis.{Signed}
use Rattle.stab_report.specs.Endings.{FailsToSend}
use Rattle.stab_report.specs.Rows.{lines_of}

-- the lines of these strings were sent: all of them, with a flush after them; or the output failed
abbrev pub SendsLines : {T : Type 0} → List Signed → OutputView → OutputView → Result T Fault → Type 0
SendsLines rows old new (Ok x) = TookAndFlushed old new (lines_of rows)
SendsLines rows old new (Err f) = (f ≡ whole WriteFault) × FailsToSend old new (lines_of rows)
