-- Checks: the numbers of a circuit, what `check` writes for its items, and how a call of it ends.
-- Source: this project's own; what is counted, but coins, has Stim's names.
use Rattle.std.specs.Prelude.{ℕ, Bool, List, [], ◌∷◌, ◌++◌, length, codes, decimal, ◌≡◌, ◌≢◌, ◌⊎◌, Result}
use Rattle.std.specs.List.{flat_map}
use Rattle.stab_io.specs.Devices.{InputView, OutputView}
use Rattle.stab_io.specs.declared.refusal.Refusal.TheVariants.{ReadFault, OutOfMemory}
use Rattle.stab_io.specs.declared.refusal.Fault.{Fault}
use Rattle.stab_items.specs.Items.{Items, entries}
use Rattle.stab_items.specs.Steps.{unroll, records_of, qubits_of, observables_of, detectors_of}
use Rattle.stab_run.specs.Points.{all_coins_of}
use Rattle.stab_run.specs.Runs.{State, run_of}
use Rattle.stab_report.specs.Endings.{Ends, Sends}
use Rattle.stab_commands.specs.declared.check.Numbers.{Numbers}

-- the numbers of a circuit of these items: of its items those of the outermost list, a block being one, and of all else that of its unrolled steps
abbrev pub numbers_of : Items → Numbers
numbers_of items = record {
  qubits = qubits_of items;
  items = length (entries items);
  steps = length (unroll items);
  records = records_of (unroll items);
  detectors = detectors_of (unroll items);
  observables = observables_of items;
  coins = all_coins_of (unroll items);
}

-- a run has as many records, detectors, observables and coin numbers
pub record IsCountedBy (numbers : Numbers) (run : State) : Type 0 where
  pub records : length run.records ≡ numbers.records
  pub detectors : length run.detectors ≡ numbers.detectors
  pub observables : length run.observables ≡ numbers.observables
  pub coins : run.coin ≡ numbers.coins

-- the numbers of a circuit are those of any run of it
abbrev pub NumbersAreOfRuns : Type 0
NumbersAreOfRuns = (n : ℕ) (coins : ℕ → Bool) (items : Items) → IsCountedBy (numbers_of items) (run_of n coins items)

-- the line of a number: its name, and its decimal digits
abbrev pub number_line : (name : List ℕ) → ℕ → List ℕ
number_line name n = name ++ (codes ": " ++ (decimal n ++ codes "\n"))

-- a circuit's numbers under their names
abbrev pub named_numbers : Numbers → List (List ℕ × ℕ)
named_numbers n = (codes "qubits", n.qubits) ∷ (codes "items", n.items) ∷ (codes "steps", n.steps) ∷ (codes "records", n.records)
    ∷ (codes "detectors", n.detectors) ∷ (codes "observables", n.observables) ∷ (codes "coins", n.coins) ∷ []

-- the lines of a circuit's numbers
abbrev pub numbers_text : Numbers → List ℕ
numbers_text n = flat_map (λ l. number_line l.0 l.1) (named_numbers n)

-- what `check` writes for the items
abbrev pub check_text : Items → List ℕ
check_text items = numbers_text (numbers_of items)

-- some bytes were sent, or some first bytes of them: what they say is no part of this
abbrev pub SendsSome : OutputView → OutputView → Type 0
SendsSome old new = (bytes : List ℕ) × (answer : Result (Unit {0}) Fault) × Sends bytes old new answer

-- some bytes were sent that explain why a text was refused; nothing, if the input failed or the answer is 20
abbrev pub Explains : OutputView → OutputView → Fault → Type 0
Explains old new f = (new ≡ old) ⊎ ((f.refusal ≢ ReadFault) × (f.refusal ≢ OutOfMemory) × SendsSome old new)

-- How a call of `check` ends, over an input and an output.
abbrev pub EndsCheck : {T : Type 0} → InputView → InputView → OutputView → OutputView → Result T Fault → Type 0
EndsCheck i i' o o' r = Ends (Explains o o') (λ items. Sends (check_text items) o o') i i' r
