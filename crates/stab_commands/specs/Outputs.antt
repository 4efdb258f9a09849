-- Outputs: what `sample` and `detect` write for the items of a circuit, and how a call of one ends.
-- Source: Stim's commands `sample` and `detect`. It differs in that a shot's coins are given, and that a detector is the parity of
-- its records.
use Rattle.std.specs.Prelude.{◌≡◌, ℕ, ◌+◌, Bool, true, false, List, ◌++◌, length, Result}
use Rattle.stab_io.specs.Devices.{InputView, OutputView}
use Rattle.stab_io.specs.declared.refusal.Fault.{Fault}
use Rattle.stab_items.specs.Items.{Items}
use Rattle.stab_run.specs.Runs.{State}
use Rattle.stab_results.specs.declared.format.Format.{Format}
use Rattle.stab_results.specs.declared.format.Kinds.TheVariants.{Measurements, Detectors}
use Rattle.stab_results.specs.Formats.{shot_bytes}
use Rattle.stab_report.specs.Endings.{Ends, Sends}
use Rattle.stab_jobs.specs.declared.job.Source.{Source}
use Rattle.stab_report.specs.Sources.{run_of_shot}
use Rattle.stab_report.specs.Texts.{texts_from as of_shots}

-- what `sample` writes for the items: the records of each shot
abbrev pub sample_of : Format → (first shots : ℕ) → Source → Items → List ℕ
sample_of format first shots source items = of_shots (λ shot. shot_bytes format Measurements (run_of_shot source items shot).records) first shots

-- a run's detectors, and after them its observables if they are appended
abbrev pub detected : Format → (append : Bool) → State → List ℕ
detected format false run = shot_bytes format (Detectors (length run.detectors)) run.detectors
detected format true run = shot_bytes format (Detectors (length run.detectors)) (run.detectors ++ run.observables)

-- what `detect` writes for the items
abbrev pub detect_of : Format → (append : Bool) → (first shots : ℕ) → Source → Items → List ℕ
detect_of format append first shots source items = of_shots (λ shot. detected format append (run_of_shot source items shot)) first shots

-- what `sample` writes for some shots, and after it for those that follow them, is what it writes for all of these
abbrev pub SampledPartsJoin : Type 0
SampledPartsJoin =
    (format : Format) (first n m : ℕ) (source : Source) (items : Items) →
    sample_of format first n source items ++ sample_of format (first + n) m source items ≡ sample_of format first (n + m) source items

-- the same for `detect`
abbrev pub DetectedPartsJoin : Type 0
DetectedPartsJoin =
    (format : Format) (append : Bool) (first n m : ℕ) (source : Source) (items : Items) →
    detect_of format append first n source items ++ detect_of format append (first + n) m source items ≡ detect_of format append first (n + m) source items

-- How a call of one of them ends, over an input and an output, if it writes this output for the items of a circuit.
abbrev pub EndsRun : {T : Type 0} → (Items → List ℕ) → InputView → InputView → OutputView → OutputView → Result T Fault → Type 0
EndsRun output i i' o o' r = Ends (λ _. o' ≡ o) (λ items. Sends (output items) o o') i i' r
