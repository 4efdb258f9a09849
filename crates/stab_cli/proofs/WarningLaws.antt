-- Laws of warnings: a call that reads no script refuses no line of it, and leaves the error output alike.
use Rattle.std.proofs.Common.{◌≡◌, sym, subst, Bool}
use Rattle.std.specs.Prelude.{Result, Ok, Err}
use Rattle.stab_io.specs.Devices.{InputView, OutputView}
use Rattle.stab_io.specs.declared.refusal.Fault.{Fault}
use Rattle.stab_report.specs.DoubtLines.{Warns}
use Rattle.stab_report.specs.Questions.{WarnsOfQuestion}
use Rattle.stab_jobs.specs.declared.job.Command.{Command}
use Rattle.stab_jobs.specs.declared.job.Command.TheVariants.{Sample, Detect, Stabilisers, Check, Deterministic, Explain, Coins, Faults, Distance, Edit, Propagate, PropagateEach}
use Rattle.stab_jobs.specs.declared.job.DistanceOptions.{DistanceOptions}
use Rattle.stab_jobs.specs.declared.job.Question.{Question}
use Rattle.stab_jobs.specs.declared.job.Question.TheVariants.{Least, Counted, Each, Part, Errors}
use Rattle.stab_cli.specs.Jobs.{CommandWarns, refusing_none}

-- what is left of the error output does not depend on the answer's value
warned : (everywhere : Bool) (i i' : InputView) (e e' : OutputView) (answer : Result (Unit {0}) Fault) → Warns everywhere i i' e e' answer → Warns everywhere i i' e e' (refusing_none answer)
warned everywhere i i' e e' (Ok x) warns = warns
warned everywhere i i' e e' (Err f) warns = warns

pub warned_alike : (everywhere : Bool) (i i' : InputView) (e e' : OutputView) (answer : Result (Unit {0}) Fault) (r : Result Bool Fault) → r ≡ refusing_none answer → Warns everywhere i i' e e' answer → Warns everywhere i i' e e' r
warned_alike everywhere i i' e e' answer r is warns = subst (λ s. Warns everywhere i i' e e' s) (sym is) (warned everywhere i i' e e' answer warns)

-- the same of a call that answers a question
warned_question : (question : Question) (options : DistanceOptions) (i i' : InputView) (e e' : OutputView) (answer : Result (Unit {0}) Fault) → WarnsOfQuestion question options i i' e e' answer
    → WarnsOfQuestion question options i i' e e' (refusing_none answer)
warned_question Least options i i' e e' (Ok x) warns = warns
warned_question Least options i i' e e' (Err f) warns = warns
warned_question Counted options i i' e e' (Ok x) warns = warns
warned_question Counted options i i' e e' (Err f) warns = warns
warned_question Each options i i' e e' answer warns = warned options.everywhere i i' e e' answer warns
warned_question (Part part) options i i' e e' answer warns = warned options.everywhere i i' e e' answer warns
warned_question (Errors layout) options i i' e e' answer warns = warned options.everywhere i i' e e' answer warns

pub warned_by_question : (question : Question) (options : DistanceOptions) (i i' : InputView) (e e' : OutputView) (answer : Result (Unit {0}) Fault) (r : Result Bool Fault) → r ≡ refusing_none answer
    → WarnsOfQuestion question options i i' e e' answer → WarnsOfQuestion question options i i' e e' r
warned_by_question question options i i' e e' answer r is warns = subst (λ s. WarnsOfQuestion question options i i' e e' s) (sym is) (warned_question question options i i' e e' answer warns)

-- after a fault the error output is as it was
pub untouched : (command : Command) (i i' : InputView) (e e' : OutputView) (f : Fault) → CommandWarns command i i' e e' (Err f) → e' ≡ e
untouched (Sample format shots) i i' e e' f same = same
untouched (Detect format shots append) i i' e e' f same = same
untouched Stabilisers i i' e e' f same = same
untouched Check i i' e e' f same = same
untouched (Deterministic format) i i' e e' f same = same
untouched Explain i i' e e' f same = same
untouched (Coins layout) i i' e e' f same = same
untouched (Faults layout everywhere deterministic_only) i i' e e' f same = same
untouched (Distance Least options) i i' e e' f same = same
untouched (Distance Counted options) i i' e e' f same = same
untouched (Distance Each options) i i' e e' f same = same
untouched (Distance (Part part) options) i i' e e' f same = same
untouched (Distance (Errors layout) options) i i' e e' f same = same
untouched (Propagate every) i i' e e' f same = same
untouched (PropagateEach everywhere) i i' e e' f same = same
untouched (Edit framed qubits stride) i i' e e' f same = same
