-- Script endings: how a call of `edit` ends that reads a circuit and then a script.
-- Source: this project's own.
use Rattle.std.specs.Prelude.{◌≡◌, ◌<◌, ◌≤◌, ◌+◌, ℕ, Bool, false, IsTrue, List, ◌++◌, length, take, ◌⊎◌, Option, Some, None, Result, Ok, Err}
use Rattle.stab_io.specs.Devices.{InputView, OutputView, Gave, GaveAndFailed, GaveAll, Took, CutOff, TookAndFlushed, TookAndFlushFailed}
use Rattle.stab_io.specs.declared.refusal.Refusal.TheVariants.{TooLong, ReadFault, WriteFault}
use Rattle.stab_io.specs.declared.refusal.Fault.{Fault}
use Rattle.stab_io.specs.Refusals.{whole, IsCallFault}
use Rattle.stab_items.specs.Items.{Items}
use Rattle.stab_circuit.specs.Inputs.{most_read}
use Rattle.stab_items.specs.Steps.{qubits_of, check_within}
use Rattle.stab_report.specs.Endings.{Ends}
use Rattle.stab_report.specs.Sources.{coins_of_shot}
use Rattle.stab_jobs.specs.declared.job.Source.{Source}
use Rattle.stab_script.specs.Scripts.{Environment, Request, Held, Answer, IsPlainAnswer, IsAnswer, AreAnswers, held_at_first, requests_in, requests_of, most_script}

-- the script was read to its end: its answer was written and flushed once, and the call says whether a line was refused
pub record AnswersScript (answered : List Request → Answer → Type 0) (s s' : InputView) (o o' : OutputView) (refused : Bool) : Type 0 where
  pub script : List ℕ
  pub within : length script ≤ most_script
  pub gave : GaveAll s s' script
  pub answer : Answer
  pub answers : answered (requests_of script) answer
  pub sent : TookAndFlushed o o' answer.reply
  pub flag : refused ≡ answer.refused

-- the output failed, or the answer is 20: the replies to some first requests of the script were written, the last perhaps in part
pub record BreaksOff (answered : List Request → Answer → Type 0) (s s' : InputView) (o o' : OutputView) (f : Fault) : Type 0 where
  pub bytes : List ℕ
  pub unread : List ℕ
  pub gave : Gave s s' bytes
  pub left : IsTrue s.honest → s'.unread ≡ unread
  pub first : List Request
  pub rest : List Request
  pub split : requests_of (bytes ++ unread) ≡ first ++ rest
  pub answer : Answer
  pub answers : answered first answer
  pub cut : CutOff o o' answer.reply f ⊎ ((f ≡ whole WriteFault) × TookAndFlushFailed o o' answer.reply)

-- why reading a script ends within it: its input failed, or it is too long, and then at most one read went past the limit
abbrev pub EndsWithin : InputView → InputView → List ℕ → Fault → Type 0
EndsWithin s s' bytes f =
    ((f ≡ whole ReadFault) × GaveAndFailed s s' bytes × (length bytes ≤ most_script))
    ⊎ ((f ≡ whole TooLong) × Gave s s' bytes × (most_script < length bytes) × (length bytes ≤ most_script + most_read))

-- reading ended within the script: exactly the replies were written to what the bytes within the limit asked for, in whole lines
-- and with nothing that was still gathered
pub record AnswersFront (answered : List Request → Answer → Type 0) (s s' : InputView) (o o' : OutputView) (f : Fault) : Type 0 where
  pub bytes : List ℕ
  pub within : EndsWithin s s' bytes f
  pub answer : Answer
  pub answers : answered (requests_in (take most_script bytes)) answer
  pub took : Took o o' answer.reply

-- how a script ends whose requests are answered so
abbrev pub EndsScript : (List Request → Answer → Type 0) → InputView → InputView → OutputView → OutputView → Result Bool Fault → Type 0
EndsScript answered s s' o o' (Ok refused) = AnswersScript answered s s' o o' refused
EndsScript answered s s' o o' (Err f) = BreaksOff answered s s' o o' f ⊎ AnswersFront answered s s' o o' f

-- on how many qubits the items are edited: as many as were asked for, or as they name
abbrev pub qubits_for : Option ℕ → Items → ℕ
qubits_for (Some n) items = n
qubits_for None items = qubits_of items

-- what a script is answered by: whether it is counted, the qubits, and the coins of shot 0
abbrev pub environment_of : (counted : Bool) → Option ℕ → Source → Items → Environment
environment_of counted qubits source items = record { counted = counted; qubits = qubits_for qubits items; coins = coins_of_shot source 0 }

-- how a call ends that opens a session on these items and answers a script so: the items, on this many qubits, or memory were refused before the
-- script was read, or the script ended
abbrev pub EndsOn : (List Request → Answer → Type 0) → (qubits : ℕ) → Items → InputView → InputView → OutputView → OutputView → Result Bool Fault → Type 0
EndsOn answered n items s s' o o' (Ok refused) = (check_within n items ≡ None) × EndsScript answered s s' o o' (Ok refused)
EndsOn answered n items s s' o o' (Err f) =
    (IsCallFault (check_within n items) f × (s' ≡ s) × (o' ≡ o)) ⊎ ((check_within n items ≡ None) × EndsScript answered s s' o o' (Err f))

-- how a call of `edit` ends that answers requests so, over the inputs of a circuit and of a script, and an output
abbrev pub EndsEditBy : (Environment → Held → Request → Answer → Type 0) → (counted : Bool) → Option ℕ → Source → InputView → InputView → InputView → InputView → OutputView → OutputView → Result Bool Fault → Type 0
EndsEditBy answers counted qubits source i i' s s' o o' r =
    Ends (λ _. (s' ≡ s) × (o' ≡ o))
    (λ items. EndsOn (AreAnswers (answers (environment_of counted qubits source items)) (held_at_first (environment_of counted qubits source items) items)) (qubits_for qubits items) items s s' o o')
    i i' r

-- How a call of `edit` ends whose script is not counted.
abbrev pub EndsPlainEdit : Option ℕ → Source → InputView → InputView → InputView → InputView → OutputView → OutputView → Result Bool Fault → Type 0
EndsPlainEdit qubits source i i' s s' o o' r = EndsEditBy IsPlainAnswer false qubits source i i' s s' o o' r

-- How a call of `edit` ends.
abbrev pub EndsEdit : (counted : Bool) → Option ℕ → Source → InputView → InputView → InputView → InputView → OutputView → OutputView → Result Bool Fault → Type 0
EndsEdit counted qubits source i i' s s' o o' r = EndsEditBy IsAnswer counted qubits source i i' s s' o o' r
