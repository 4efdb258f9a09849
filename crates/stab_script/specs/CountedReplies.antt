-- Counted replies: the number of lines before a reply, and the numbers of a circuit.
-- Source: this project's own.
use Rattle.std.specs.Prelude.{ℕ, ◌==◌, Bool, true, false, List, [], ◌++◌, length, codes, decimal, Result, Ok, Err}
use Rattle.std.specs.List.{count_by}
use Rattle.stab_io.specs.declared.refusal.Refusal.{Refusal}
use Rattle.stab_items.specs.Items.{Items}
use Rattle.stab_items.specs.Steps.{unroll}
use Rattle.stab_run.specs.Runs.{State}
use Rattle.stab_script.specs.declared.reply.SessionNumbers.{SessionNumbers}

-- how many lines a text has: one for each LF
abbrev pub lines_in : List ℕ → ℕ
lines_in text = count_by (λ b. b == 10) text

-- the text of what was found, unless that was refused
abbrev pub text_found : {A : Type 0} → (A → List ℕ) → Result A Refusal → Result (List ℕ) Refusal
text_found text (Ok x) = Ok (text x)
text_found text (Err r) = Err r

-- a reply that is no refusal; a counted one says first how many lines it has
abbrev pub reply_text : (counted : Bool) → List ℕ → List ℕ
reply_text false text = text
reply_text true text = codes "ok " ++ (decimal (lines_in text) ++ (codes "\n" ++ text))

-- the reply to an edit that was made
abbrev pub made_text : (counted : Bool) → List ℕ
made_text false = codes "ok\n"
made_text true = codes "ok 0\n"

-- the numbers of a session: of its qubits, and of the steps, records, detectors and observables of its run
abbrev pub session_numbers : (qubits : ℕ) → State → Items → SessionNumbers
session_numbers qubits run items = record {
  qubits = qubits;
  steps = length (unroll items);
  records = length run.records;
  detectors = length run.detectors;
  observables = length run.observables;
}

-- the line of the numbers, with spaces between them
abbrev pub numbers_line : SessionNumbers → List ℕ
numbers_line n =
    decimal n.qubits ++ (codes " " ++ (decimal n.steps ++ (codes " " ++ (decimal n.records ++ (codes " " ++ (decimal n.detectors ++ (codes " " ++ (decimal n.observables ++ codes "\n"))))))))

-- the first line of what a counted script is answered, which no other has
abbrev pub greeting : (counted : Bool) → SessionNumbers → List ℕ
greeting false numbers = []
greeting true numbers = codes "ready 1 " ++ numbers_line numbers
