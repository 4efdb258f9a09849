-- Questions: how a call of `distance` ends, what is heard of it, and what it leaves of the error output, by what it is asked.
-- Source: this project's own.
use Rattle.std.specs.Prelude.{List, Option, Result}
use Rattle.stab_io.specs.Devices.{InputView, OutputView}
use Rattle.stab_io.specs.declared.refusal.Fault.{Fault}
use Rattle.stab_search.specs.Progress.{Heard}
use Rattle.stab_jobs.specs.declared.job.DistanceOptions.{DistanceOptions}
use Rattle.stab_jobs.specs.declared.job.Question.{Question}
use Rattle.stab_jobs.specs.declared.job.Question.TheVariants.{Least, Counted, Each, Part, Errors}
use Rattle.stab_report.specs.declared.random.Random.{Random}
use Rattle.stab_report.specs.Distances.{EndsCounted, EndsDistance, EndsEach, EndsSearched, ReportsDistance, ReportsErrors, of_all}
use Rattle.stab_report.specs.PartTexts.{EndsPart, of_part}
use Rattle.stab_report.specs.DoubtLines.{Warns}
use Rattle.stab_report.specs.MissingObservables.{WarnsOf}

-- How a call ends that answers a question about the errors of a circuit, over an input and an output, with a bit that it names or none.
abbrev pub EndsQuestion : {T : Type 0} → Question → DistanceOptions → InputView → InputView → OutputView → OutputView → Result T Fault → Option Random → Type 0
EndsQuestion Least options i i' o o' r random = EndsDistance options i i' o o' r random
EndsQuestion Counted options i i' o o' r random = EndsCounted options i i' o o' r random
EndsQuestion Each options i i' o o' r random = EndsEach options i i' o o' r random
EndsQuestion (Part part) options i i' o o' r random = EndsPart part options i i' o o' r random
EndsQuestion (Errors layout) options i i' o o' r random = EndsSearched layout options i i' o o' r random

-- What is heard of it: how far its search is, or how many errors it looks at for each observable or in a part, or writes.
abbrev pub ReportsQuestion : {T : Type 0} → Question → DistanceOptions → InputView → InputView → Option (List Heard) → Option (List Heard) → Result T Fault → Type 0
ReportsQuestion Least options i i' old new r = ReportsDistance options i i' old new r
ReportsQuestion Counted options i i' old new r = ReportsDistance (of_all options) i i' old new r
ReportsQuestion Each options i i' old new r = ReportsErrors options i i' old new r
ReportsQuestion (Part part) options i i' old new r = ReportsErrors (of_part options) i i' old new r
ReportsQuestion (Errors layout) options i i' old new r = ReportsErrors options i i' old new r

-- What it leaves of the error output: after a call without a fault, marks that may be meant in another way, and an observable that is asked
-- for and that the circuit lacks; else it is untouched.
abbrev pub WarnsOfQuestion : {T : Type 0} → Question → DistanceOptions → InputView → InputView → OutputView → OutputView → Result T Fault → Type 0
WarnsOfQuestion Least options i i' old new r = WarnsOf options.everywhere options.observable i i' old new r
WarnsOfQuestion Counted options i i' old new r = WarnsOf options.everywhere options.observable i i' old new r
WarnsOfQuestion Each options i i' old new r = Warns options.everywhere i i' old new r
WarnsOfQuestion (Part part) options i i' old new r = Warns options.everywhere i i' old new r
WarnsOfQuestion (Errors layout) options i i' old new r = Warns options.everywhere i i' old new r
