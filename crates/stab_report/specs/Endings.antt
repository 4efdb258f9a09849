-- Endings: how a call ends that reads a circuit and goes on with it, and how it ends when it sends bytes.
-- Source: this project's own.
use Rattle.std.specs.Prelude.{◌≡◌, List, [], ℕ, ◌⊎◌, Result, Ok, Err}
use Rattle.stab_io.specs.Devices.{InputView, OutputView, Took, TookAndFailed, TookSome, TookAndFlushed, TookAndFlushFailed, CutOff}
use Rattle.stab_io.specs.declared.refusal.Refusal.TheVariants.{WriteFault, OutOfMemory}
use Rattle.stab_io.specs.declared.refusal.Fault.{Fault}
use Rattle.stab_io.specs.Refusals.{whole}
use Rattle.stab_circuit.specs.Inputs.{GaveText, RefusesText}
use Rattle.stab_items.specs.Items.{Items}
use Rattle.stab_circuit.specs.Readings.{IsCircuit, IsFaultOf}

-- the output was flushed; or the flush failed, which is a fault without a line
abbrev pub FlushesOrFault : {T : Type 0} → OutputView → OutputView → Result T Fault → Type 0
FlushesOrFault old new (Ok x) = TookAndFlushed old new []
FlushesOrFault old new (Err f) = (f ≡ whole WriteFault) × TookAndFlushFailed old new []

-- the output failed once: in a write, after some first bytes of these, or in the one flush after them all
abbrev pub FailsToSend : OutputView → OutputView → List ℕ → Type 0
FailsToSend old new bytes = TookAndFailed old new bytes ⊎ TookAndFlushFailed old new bytes

-- These bytes were sent: all of them were written, and flushed once; or the output failed; or the answer is 20 after some first bytes.
abbrev pub Sends : {T : Type 0} → List ℕ → OutputView → OutputView → Result T Fault → Type 0
Sends bytes old new (Ok x) = TookAndFlushed old new bytes
Sends bytes old new (Err f) = ((f ≡ whole WriteFault) × FailsToSend old new bytes) ⊎ ((f ≡ whole OutOfMemory) × TookSome old new bytes)

-- these bytes were sent without a flush: all of them, or cut off after a prefix
abbrev pub SendsUnflushed : {T : Type 0} → List ℕ → OutputView → OutputView → Result T Fault → Type 0
SendsUnflushed bytes old new (Ok x) = Took old new bytes
SendsUnflushed bytes old new (Err f) = CutOff old new bytes f

-- Bytes like these were sent, which were gathered first: all were written, and flushed once; or the output failed; or the answer is 20
-- before the first.
abbrev pub SendsFound : {T : Type 0} → (List ℕ → Type 0) → OutputView → OutputView → Result T Fault → Type 0
SendsFound are old new (Ok x) = (bytes : List ℕ) × are bytes × TookAndFlushed old new bytes
SendsFound are old new (Err f) =
    ((f ≡ whole WriteFault) × (bytes : List ℕ) × are bytes × FailsToSend old new bytes) ⊎ ((f ≡ whole OutOfMemory) × (new ≡ old))

-- the input gave a text whole that stands for a circuit of these items
abbrev pub GaveCircuit : InputView → InputView → Items → Type 0
GaveCircuit old new items = (text : List ℕ) × GaveText old new text × IsCircuit text items

-- How a call ends that reads a circuit and goes on with its items: the text was refused, and this holds of all else; or it was given whole, and
-- the rest says how the call went on.
abbrev pub Ends : {T : Type 0} → (refused : Fault → Type 0) → (rest : Items → Result T Fault → Type 0) → InputView → InputView → Result T Fault → Type 0
Ends refused rest old new (Ok x) = (items : Items) × GaveCircuit old new items × rest items (Ok x)
Ends refused rest old new (Err f) = (refused f × RefusesText IsFaultOf old new f) ⊎ ((items : Items) × GaveCircuit old new items × rest items (Err f))
