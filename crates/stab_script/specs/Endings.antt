-- Endings: how a call of `propagate` ends.
-- Source: this project's own.
use Rattle.std.specs.Prelude.{◌≡◌, ℕ, Bool, List, Result, Ok, Err, ◌⊎◌}
use Rattle.stab_io.specs.Devices.{InputView, OutputView}
use Rattle.stab_io.specs.declared.refusal.Refusal.{Refusal}
use Rattle.stab_io.specs.declared.refusal.Refusal.TheVariants.{OutOfMemory}
use Rattle.stab_io.specs.declared.refusal.Fault.{Fault}
use Rattle.stab_io.specs.Refusals.{whole}
use Rattle.stab_items.specs.Items.{Items}
use Rattle.stab_items.specs.Steps.{qubits_of}
use Rattle.stab_report.specs.Endings.{Ends, Sends, SendsFound}
use Rattle.stab_script.specs.Words.{PutIn, put_in_of}
use Rattle.stab_script.specs.WayTexts.{IsWayText}
use Rattle.stab_script.specs.EachTexts.{AreErrorLines}

-- a word is refused before anything is written, or the way of the string is sent
abbrev pub SendsWay : {T : Type 0} → Items → (every : Bool) → Result PutIn Refusal → OutputView → OutputView → Result T Fault → Type 0
SendsWay items every (Err refusal) old new r = (new ≡ old) × ((r ≡ Err (whole refusal)) ⊎ (r ≡ Err (whole OutOfMemory)))
SendsWay items every (Ok put) old new r = SendsFound (IsWayText items every put) old new r

-- How a call of `propagate` with the words for where and for a string ends, over an input and an output; the string at every tick may be asked for.
abbrev pub EndsPropagate : {T : Type 0} → (every : Bool) → (at word : List ℕ) → InputView → InputView → OutputView → OutputView → Result T Fault → Type 0
EndsPropagate every at word i i' o o' r = Ends (λ _. o' ≡ o) (λ items. SendsWay items every (put_in_of (qubits_of items) items at word) o o') i i' r

-- lines of errors were sent
abbrev pub SendsErrors : {T : Type 0} → (everywhere : Bool) → Items → OutputView → OutputView → Result T Fault → Type 0
SendsErrors everywhere items old new r = (bytes : List ℕ) × AreErrorLines everywhere items bytes × Sends bytes old new r

-- How a call of `propagate` for each error ends: those that the circuit marks, or errors everywhere.
abbrev pub EndsPropagateEach : {T : Type 0} → (everywhere : Bool) → InputView → InputView → OutputView → OutputView → Result T Fault → Type 0
EndsPropagateEach everywhere i i' o o' r = Ends (λ _. o' ≡ o) (λ items. SendsErrors everywhere items o o') i i' r
