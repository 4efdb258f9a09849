-- Missing observables: what is written to the error output of an observable that is asked for, but that the circuit lacks.
-- Source: this project's own.
use Rattle.std.specs.Prelude.{◌≡◌, ◌<◌, ◌≤◌, ◌⊎◌, ℕ, Bool, List, ◌++◌, codes, decimal, Option, Some, None, Result, Ok, Err}
use Rattle.stab_io.specs.Devices.{InputView, OutputView}
use Rattle.stab_io.specs.declared.refusal.Fault.{Fault}
use Rattle.stab_items.specs.Items.{Items}
use Rattle.stab_items.specs.Steps.{observables_of}
use Rattle.stab_report.specs.DoubtLines.{ReportsDoubts, doubts_of}
use Rattle.stab_report.specs.Endings.{GaveCircuit}
use Rattle.stab_report.specs.FaultLines.{TookOrFailed}

-- the line of an observable that a circuit with this many lacks
abbrev pub missing_line : (observable count : ℕ) → List ℕ
missing_line observable count = codes "stabsim: the circuit has no L" ++ (decimal observable ++ (codes ", observables: " ++ (decimal count ++ codes "\n")))

-- an observable that is asked for is reported if it is none of this many: its line was written, or the output failed once after some first
-- bytes of it; else the output is untouched
abbrev pub ReportsMissing : (observable : Option ℕ) → (count : ℕ) → OutputView → OutputView → Type 0
ReportsMissing None count old new = new ≡ old
ReportsMissing (Some j) count old new = ((j < count) × (new ≡ old)) ⊎ ((count ≤ j) × TookOrFailed old new (missing_line j count))

-- What a call that asks for an observable, or for none, leaves of the error output: doubtful marks are reported after a call without a fault,
-- and then an observable that the circuit lacks; else it is untouched.
abbrev pub WarnsOf : {T : Type 0} → (everywhere : Bool) → (observable : Option ℕ) → InputView → InputView → OutputView → OutputView → Result T Fault → Type 0
WarnsOf everywhere observable i i' e e' (Ok x) =
    (items : Items) × GaveCircuit i i' items × ((between : OutputView) × ReportsDoubts items (doubts_of everywhere items) e between × ReportsMissing observable (observables_of items) between e')
WarnsOf everywhere observable i i' e e' (Err f) = e' ≡ e
