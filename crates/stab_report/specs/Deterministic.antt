-- Deterministic: what `deterministic` writes for the items of a circuit, and how a call of it ends.
-- Source: this project's own.
use Rattle.std.specs.Prelude.{◌≡◌, ℕ, Bool, List, Result}
use Rattle.stab_io.specs.Devices.{InputView, OutputView}
use Rattle.stab_io.specs.declared.refusal.Fault.{Fault}
use Rattle.stab_items.specs.Items.{Items}
use Rattle.stab_items.specs.Steps.{unroll, qubits_of, detectors_of}
use Rattle.stab_results.specs.declared.format.Format.{Format}
use Rattle.stab_results.specs.declared.format.Kinds.{Kinds}
use Rattle.stab_results.specs.declared.format.Kinds.TheVariants.{Detectors}
use Rattle.stab_results.specs.Formats.{shot_bytes}
use Rattle.stab_regions.specs.SingleErrors.{AreDeterministic}
use Rattle.stab_report.specs.Endings.{Ends, SendsFound}

-- the bits of a circuit are its detectors, and after them its observables
abbrev pub kinds_of : Items → Kinds
kinds_of items = Detectors (detectors_of (unroll items))

-- a shot of the bits that say for each detector and each observable whether it is the same for all random bits
abbrev pub IsDeterministicText : Format → Items → List ℕ → Type 0
IsDeterministicText format items bytes = (deterministic : List Bool) × AreDeterministic (qubits_of items) items deterministic × (bytes ≡ shot_bytes format (kinds_of items) deterministic)

-- How a call of `deterministic` ends, over an input and an output.
abbrev pub EndsDeterministic : {T : Type 0} → Format → InputView → InputView → OutputView → OutputView → Result T Fault → Type 0
EndsDeterministic format i i' o o' r = Ends (λ _. o' ≡ o) (λ items. SendsFound (IsDeterministicText format items) o o') i i' r
