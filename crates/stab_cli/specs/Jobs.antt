-- Jobs: how the command of a job ends, the status of a program's run, and how its fault is reported.
-- Source: this project's own.
use Rattle.std.specs.Prelude.{◌≡◌, ℕ, Bool, true, false, List, string_bytes, Option, None, Result, Ok, Err}
use Rattle.stab_io.specs.Devices.{InputView, OutputView}
use Rattle.stab_io.specs.declared.refusal.Fault.{Fault}
use Rattle.stab_report.specs.FaultLines.{TookOrFailed, reported_text}
use Rattle.stab_commands.specs.Outputs.{EndsRun, sample_of, detect_of}
use Rattle.stab_commands.specs.Stabilisers.{EndsStabilisers}
use Rattle.stab_commands.specs.Checks.{EndsCheck}
use Rattle.stab_report.specs.Deterministic.{EndsDeterministic}
use Rattle.stab_report.specs.SingleErrorTables.{EndsFaults}
use Rattle.stab_report.specs.CoinTables.{EndsCoins}
use Rattle.stab_report.specs.Reasons.{EndsExplain}
use Rattle.stab_report.specs.Questions.{EndsQuestion, ReportsQuestion, WarnsOfQuestion}
use Rattle.stab_report.specs.DoubtLines.{Warns}
use Rattle.stab_search.specs.Progress.{Heard}
use Rattle.stab_script.specs.Endings.{EndsPropagate, EndsPropagateEach}
use Rattle.stab_script.specs.ScriptEndings.{EndsEdit}
use Rattle.stab_script.specs.ScriptTurns.{EditsInTurn}
use Rattle.stab_script.specs.Watchers.{Asked}
use Rattle.stab_report.specs.declared.random.Random.{Random}
use Rattle.stab_jobs.specs.declared.job.Source.{Source}
use Rattle.stab_jobs.specs.declared.job.Command.{Command}
use Rattle.stab_jobs.specs.declared.job.Command.TheVariants.{Sample, Detect, Stabilisers, Check, Deterministic, Explain, Coins, Faults, Distance, Edit, Propagate, PropagateEach}
use Rattle.stab_jobs.specs.declared.job.Job.{Job}

-- a call that reads no script refuses no line of it
abbrev pub refusing_none : {T : Type 0} → Result T Fault → Result Bool Fault
refusing_none (Ok x) = Ok false
refusing_none (Err f) = Err f

-- no line of a script was refused, and the call ended in this way
abbrev pub RefusesNone : (Result (Unit {0}) Fault → Type 0) → Result Bool Fault → Type 0
RefusesNone ends r = (answer : Result (Unit {0}) Fault) × ends answer × (r ≡ refusing_none answer)

-- no bit was named as one that is not deterministic, no line of a script was refused, and the call ended in this way
abbrev pub NamesNone : (Result (Unit {0}) Fault → Type 0) → Result Bool Fault → Option Random → Type 0
NamesNone ends r random = (random ≡ None) × RefusesNone ends r

-- how the call of a command ends, with coins from the source, and words for where and for a string if it takes them: whether a line of the script was refused, and which bit, if any, was named as not deterministic
abbrev pub EndsCommand : Command → Source → (at word : List ℕ) → InputView → InputView → InputView → InputView → OutputView → OutputView → Result Bool Fault → Option Random → Type 0
EndsCommand (Sample format shots) source at word i i' s s' o o' r random = NamesNone (EndsRun (sample_of format shots.first shots.number source) i i' o o') r random
EndsCommand (Detect format shots append) source at word i i' s s' o o' r random = NamesNone (EndsRun (detect_of format append shots.first shots.number source) i i' o o') r random
EndsCommand Stabilisers source at word i i' s s' o o' r random = NamesNone (EndsStabilisers source i i' o o') r random
EndsCommand Check source at word i i' s s' o o' r random = NamesNone (EndsCheck i i' o o') r random
EndsCommand (Deterministic format) source at word i i' s s' o o' r random = NamesNone (EndsDeterministic format i i' o o') r random
EndsCommand Explain source at word i i' s s' o o' r random = NamesNone (EndsExplain i i' o o') r random
EndsCommand (Coins layout) source at word i i' s s' o o' r random = NamesNone (EndsCoins layout i i' o o') r random
EndsCommand (Faults layout everywhere deterministic_only) source at word i i' s s' o o' r random = RefusesNone (λ answer. EndsFaults layout everywhere deterministic_only i i' o o' answer random) r
EndsCommand (Distance question options) source at word i i' s s' o o' r random = RefusesNone (λ answer. EndsQuestion question options i i' o o' answer random) r
EndsCommand (Propagate every) source at word i i' s s' o o' r random = NamesNone (EndsPropagate every at word i i' o o') r random
EndsCommand (PropagateEach everywhere) source at word i i' s s' o o' r random = NamesNone (EndsPropagateEach everywhere i i' o o') r random
EndsCommand (Edit framed qubits stride) source at word i i' s s' o o' r random = (random ≡ None) × EndsEdit framed qubits source i i' s s' o o' r

-- how a command reads a script: `edit` in turn with its replies, and any other not at all
abbrev pub CommandInTurn : Command → Source → InputView → InputView → InputView → InputView → OutputView → OutputView → Option (List Asked) → Option (List Asked) → Result Bool Fault → Type 0
CommandInTurn (Edit framed qubits stride) source i i' s s' o o' log log' r = EditsInTurn framed qubits source i i' s s' o o' log log' r
CommandInTurn command source i i' s s' o o' log log' r = log' ≡ log

-- what is heard of a call: what `distance` reports, and of any other command nothing
abbrev pub CommandReports : Command → InputView → InputView → Option (List Heard) → Option (List Heard) → Result Bool Fault → Type 0
CommandReports (Distance question options) i i' old new r = RefusesNone (ReportsQuestion question options i i' old new) r
CommandReports command i i' old new r = new ≡ old

-- the status of a run: 0 without a fault, 3 if a line of the script was refused, 1 with a fault
abbrev pub status_of : Result Bool Fault → ℕ
status_of (Ok false) = 0
status_of (Ok true) = 3
status_of (Err f) = 1

-- what the call of a command leaves of the error output: `check` and `faults` report marks that may be meant in another way, after a call
-- without a fault, and `distance` as its question has it; else it is untouched
abbrev pub CommandWarns : Command → InputView → InputView → OutputView → OutputView → Result Bool Fault → Type 0
CommandWarns Check i i' old new r = Warns false i i' old new r
CommandWarns (Faults layout everywhere deterministic_only) i i' old new r = Warns everywhere i i' old new r
CommandWarns (Distance question options) i i' old new r = WarnsOfQuestion question options i i' old new r
CommandWarns command i i' old new r = new ≡ old

-- a run's fault is reported, with the bit that it names, if any; and without a fault the error output is as the call of the command leaves it
abbrev pub ReportsRunFault : Command → InputView → InputView → Result Bool Fault → Option Random → OutputView → OutputView → Type 0
ReportsRunFault command i i' (Ok x) random old new = CommandWarns command i i' old new (Ok x)
ReportsRunFault command i i' (Err f) random old new = TookOrFailed old new (reported_text f random)

-- How a run of a job ends: as the call of its command ends, with that call's status, and its fault reported.
pub record EndsJob (job : Job) (i i' s s' : InputView) (o o' e e' : OutputView) (status : ℕ) : Type 0 where
  pub answer : Result Bool Fault
  pub random : Option Random
  pub ends : EndsCommand job.command job.source (string_bytes job.at) (string_bytes job.string) i i' s s' o o' answer random
  pub status_is : status ≡ status_of answer
  pub reported : ReportsRunFault job.command i i' answer random e e'

-- how the run of a job with this status reads a script: as the call of its command does
abbrev pub JobInTurn : Job → InputView → InputView → InputView → InputView → OutputView → OutputView → Option (List Asked) → Option (List Asked) → (status : ℕ) → Type 0
JobInTurn job i i' s s' o o' log log' status = (answer : Result Bool Fault) × (status ≡ status_of answer) × CommandInTurn job.command job.source i i' s s' o o' log log' answer

-- What is heard of a run of a job that ends with this status: what the call of its command reports.
abbrev pub JobReports : Job → InputView → InputView → Option (List Heard) → Option (List Heard) → (status : ℕ) → Type 0
JobReports job i i' old new status = (answer : Result Bool Fault) × CommandReports job.command i i' old new answer × (status ≡ status_of answer)
