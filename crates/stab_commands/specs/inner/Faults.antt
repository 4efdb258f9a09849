-- Faults: what the parts of `faults` find and send.
-- Source: this project's own.
use Rattle.std.specs.Prelude.{◌≡◌, ℕ, List, [], ◌∷◌, Option, Some, None, Result, Ok, Err, ◌⊎◌}
use Rattle.stab_io.specs.Devices.{OutputView, TookAndFlushed}
use Rattle.stab_io.specs.declared.refusal.Refusal.TheVariants.{WriteFault, OutOfMemory}
use Rattle.stab_io.specs.declared.refusal.Fault.{Fault}
use Rattle.stab_io.specs.Refusals.{whole}
use Rattle.stab_items.specs.Steps.{Step}
use Rattle.stab_report.specs.declared.random.Bit.{Bit}
use Rattle.stab_report.specs.Endings.{FailsToSend}
use Rattle.stab_report.specs.ItemPaths.{steps_before_bit}

-- a step makes a bit, or is passed on the way to the first that makes what is then called so
abbrev pub PassesStep : Bit → Step → Option Bit → Type 0
PassesStep b x None = (xs : List Step) → steps_before_bit b (x ∷ xs) ≡ []
PassesStep b x (Some rest) = (xs : List Step) → steps_before_bit b (x ∷ xs) ≡ x ∷ steps_before_bit rest xs

-- these bytes were sent: all were written, and flushed once; or the output failed; or the answer is 20 before the first
abbrev pub SendsAtOnce : {T : Type 0} → List ℕ → OutputView → OutputView → Result T Fault → Type 0
SendsAtOnce bytes old new (Ok x) = TookAndFlushed old new bytes
SendsAtOnce bytes old new (Err f) = ((f ≡ whole WriteFault) × FailsToSend old new bytes) ⊎ ((f ≡ whole OutOfMemory) × (new ≡ old))
