-- Stabilisers: how a call of `stabilisers` ends.
-- Source: this project's own.
use Rattle.std.specs.Prelude.{◌≡◌, Result}
use Rattle.stab_io.specs.Devices.{InputView, OutputView}
use Rattle.stab_io.specs.declared.refusal.Fault.{Fault}
use Rattle.stab_items.specs.Steps.{qubits_of}
use Rattle.stab_report.specs.Endings.{Ends, SendsFound}
use Rattle.stab_report.specs.Rows.{IsStabilisersText}
use Rattle.stab_report.specs.Sources.{run_of_shot}
use Rattle.stab_jobs.specs.declared.job.Source.{Source}

-- How a call of `stabilisers` ends, over an input and an output: it sends the stabilisers after shot 0, on as many qubits as the items name.
abbrev pub EndsStabilisers : {T : Type 0} → Source → InputView → InputView → OutputView → OutputView → Result T Fault → Type 0
EndsStabilisers source i i' o o' r = Ends (λ _. o' ≡ o) (λ items. SendsFound (IsStabilisersText (qubits_of items) (run_of_shot source items 0)) o o') i i' r
