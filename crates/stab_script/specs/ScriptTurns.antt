-- Script turns: the replies of a script are those of one answer, and each is written before more of the script is asked for.
-- Source: this project's own.
use Rattle.std.specs.Prelude.{◌≡◌, ℕ, ◌+◌, Bool, IsTrue, List, [], ◌∷◌, ◌++◌, length, ◌⊎◌, Option, Some, None, Result}
use Rattle.stab_io.specs.Devices.{InputView, OutputView}
use Rattle.stab_io.specs.declared.refusal.Fault.{Fault}
use Rattle.stab_items.specs.Items.{Items}
use Rattle.stab_report.specs.Endings.{GaveCircuit}
use Rattle.stab_jobs.specs.declared.job.Source.{Source}
use Rattle.stab_script.specs.Scripts.{Environment, Held, Request, Answer, IsAnswerToAll, both, held_at_first, requests_in}
use Rattle.stab_script.specs.ScriptEndings.{environment_of, EndsScript}
use Rattle.stab_script.specs.Watchers.{Asked}

-- what reads handed over, one after another
abbrev pub all_given : List Asked → List ℕ
all_given [] = []
all_given (a ∷ later) = a.given ++ all_given later

-- an answer to requests begins with one to the first of them, and goes on with one to the rest
abbrev pub AnswerGoesOn : Environment → Held → (first rest : List Request) → (front whole : Answer) → Type 0
AnswerGoesOn s held first rest front whole = IsAnswerToAll s held first front × ((later : Answer) × IsAnswerToAll s front.held rest later × (whole ≡ both front later))

-- when more was asked for, exactly the replies to these first bytes of a script were written, in whole lines and after what was there at first:
-- with them the answer to these requests begins
abbrev pub Answered : Environment → Items → (start : ℕ) → List Request → Answer → (before : List ℕ) → Asked → Type 0
Answered environment items start requests answer before a =
    (front : Answer) × (rest : List Request) × (requests ≡ requests_in before ++ rest) × AnswerGoesOn environment (held_at_first environment items) (requests_in before) rest front answer
    × (a.written ≡ start + length front.reply)

-- the same at each read, if these bytes were handed over before the first
abbrev pub InTurn : Environment → Items → (start : ℕ) → List Request → Answer → (before : List ℕ) → List Asked → Type 0
InTurn environment items start requests answer before [] = Unit {0}
InTurn environment items start requests answer before (a ∷ later) = Answered environment items start requests answer before a × InTurn environment items start requests answer (before ++ a.given) later

-- an answer to requests, in turn with these reads
abbrev pub AnswersInTurn : Environment → Items → OutputView → List Asked → List Request → Answer → Type 0
AnswersInTurn environment items o reads requests answer =
    IsAnswerToAll environment (held_at_first environment items) requests answer × (IsTrue o.honest → InTurn environment items (length o.written) requests answer [] reads)

-- a log has the reads of a script besides those that it had, and the script ended with an answer that is in turn with them
pub record LogsInTurn (environment : Environment) (items : Items) (s s' : InputView) (o o' : OutputView) (log log' : Option (List Asked)) (r : Result Bool Fault) : Type 0 where
  pub before : List Asked
  pub reads : List Asked
  pub had : log ≡ Some before
  pub has : log' ≡ Some (before ++ reads)
  pub given : IsTrue s.honest → s.unread ≡ all_given reads ++ s'.unread
  pub ends : EndsScript (AnswersInTurn environment items o reads) s s' o o' r

-- the log of a script's reads was given up, or has all of them, in turn with the answer
abbrev pub TakesTurns : Environment → Items → InputView → InputView → OutputView → OutputView → Option (List Asked) → Option (List Asked) → Result Bool Fault → Type 0
TakesTurns environment items s s' o o' log log' r = (log' ≡ None) ⊎ LogsInTurn environment items s s' o o' log log' r

-- How the script of a call of `edit` is read: not at all, or in turn with its answer, on the items of the circuit that was given.
abbrev pub EditsInTurn : (counted : Bool) → Option ℕ → Source → InputView → InputView → InputView → InputView → OutputView → OutputView → Option (List Asked) → Option (List Asked) → Result Bool Fault → Type 0
EditsInTurn counted qubits source i i' s s' o o' log log' r =
    ((s' ≡ s) × (o' ≡ o) × (log' ≡ log)) ⊎ ((items : Items) × GaveCircuit i i' items × TakesTurns (environment_of counted qubits source items) items s s' o o' log log' r)
