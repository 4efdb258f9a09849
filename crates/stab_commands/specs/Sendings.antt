-- Sendings: what is shown of a run, and what a call leaves of an output to which it sends bytes without a flush.
-- Source: this project's own.
use Rattle.std.specs.Prelude.{◌≡◌, ℕ, Bool, true, false, List, ◌++◌, length}
use Rattle.stab_run.specs.Runs.{State}
use Rattle.stab_items.specs.Items.{Items}
use Rattle.stab_results.specs.declared.format.Format.{Format}
use Rattle.stab_results.specs.declared.format.Kinds.{Kinds}
use Rattle.stab_results.specs.declared.format.Kinds.TheVariants.{Measurements, Detectors as Detected}
use Rattle.stab_results.specs.Formats.{shot_bytes}
use Rattle.stab_jobs.specs.declared.job.Source.{Source}
use Rattle.stab_commands.specs.declared.bits.Shown.{Shown}
use Rattle.stab_commands.specs.declared.bits.Shown.TheVariants.{Records, Detectors, DetectorsAndObservables}
use Rattle.stab_jobs.specs.Limits.{ShotRange}
use Rattle.stab_commands.specs.Outputs.{detected}
use Rattle.stab_report.specs.Texts.{texts_from as of_shots}
use Rattle.stab_report.specs.Sources.{run_of_shot}

-- what kinds of bits are shown of a shot with this many detectors
abbrev pub shown_kinds : Shown → ℕ → Kinds
shown_kinds Records detectors = Measurements
shown_kinds Detectors detectors = Detected detectors
shown_kinds DetectorsAndObservables detectors = Detected detectors

-- what is shown, by records, detectors and observables
abbrev pub shown_items : {T : Type 0} → Shown → (records detectors observables : List T) → List T
shown_items Records records detectors observables = records
shown_items Detectors records detectors observables = detectors
shown_items DetectorsAndObservables records detectors observables = detectors ++ observables

-- these bits, of these kinds, are what is shown of a run
abbrev pub IsShown : Shown → State → Kinds → List Bool → Type 0
IsShown Records run kinds bits = (kinds ≡ Measurements) × (bits ≡ run.records)
IsShown Detectors run kinds bits = (kinds ≡ Detected (length run.detectors)) × (bits ≡ run.detectors)
IsShown DetectorsAndObservables run kinds bits = (kinds ≡ Detected (length run.detectors)) × (bits ≡ run.detectors ++ run.observables)

-- the bytes of what is shown of a run
abbrev pub shown_bytes : Format → Shown → State → List ℕ
shown_bytes format Records run = shot_bytes format Measurements run.records
shown_bytes format Detectors run = detected format false run
shown_bytes format DetectorsAndObservables run = detected format true run

-- what is shown of these shots of the items
abbrev pub shots_of : Format → Shown → ShotRange → Source → Items → List ℕ
shots_of format shown shots source items = of_shots (λ shot. shown_bytes format shown (run_of_shot source items shot)) shots.first shots.number
