-- Program states: what a running program holds, and how it follows a run.
-- Source: this project's own.
use Rattle.std.specs.Prelude.{◌≡◌, ◌≢◌, ℕ, ◌+◌, ◌<◌, ◌≤◌, Bool, true, false, List, [], ◌∷◌, All, length}
use Rattle.stab_gates.specs.declared.letter.Letter.{Letter}
use Rattle.stab_pauli.specs.Paulis.{Signed}
use Rattle.stab_tableau.specs.Gates.{back}
use Rattle.stab_tableau.specs.Traces.{member}
use Rattle.stab_tableau.specs.Groups.{SameGroup}
use Rattle.stab_tableau.specs.Tableaus.{TableauState, stabilises}
use Rattle.stab_items.specs.Steps.{Step, one, two, controlled, collapse, product, detector, observable}
use Rattle.stab_run.specs.declared.records.Outputs.{Outputs}
use Rattle.stab_run.specs.Runs.{gate_of, measured_by}
use Rattle.stab_run.specs.StepPivots.{HasPivot}
use Rattle.stab_run.specs.Points.{Point, RunOutput, joined, point_after, outputs, all_coins_of}

-- the qubits of a step are below n, and those of a pair differ
abbrev pub StepFits : ℕ → Step → Type 0
StepFits n (one g q) = q < n
StepFits n (two g a b) = (a < n) × (b < n) × (b ≢ a)
StepFits n (controlled l k q) = q < n
StepFits n (collapse l q recorded inverted resets) = q < n
StepFits n (product factors inverted) = All (λ f. f.qubit < n) factors
StepFits n (detector ks) = Unit {0}
StepFits n (observable j ks) = Unit {0}

-- what the program has gathered, as an output
abbrev pub output_of : Outputs → RunOutput
output_of o = record { records = o.records.items; free = o.free.items; outcomes = o.outcomes.items; detectors = o.detectors.items; additions = o.additions.items }

-- the strings that stabilise, by those before, if a letter was applied to the qubit if the bit is 1
abbrev pub applied_by : Bool → Letter → ℕ → (Signed → Bool) → Signed → Bool
applied_by true l q stabilised p = stabilised (back (gate_of l) q p)
applied_by false l q stabilised p = stabilised p

-- which strings the program's tableau stabilises, and what it has gathered
pub record ProgramState : Type 0 where
  pub stabilised : Signed → Bool
  pub output : RunOutput

-- the state of a tableau and an output
abbrev pub program_state : TableauState → RunOutput → ProgramState
program_state tableau output = record { stabilised = stabilises tableau; output = output }

-- the program is at the point: the same strings of n letters, number of the next coin and records
pub record IsAt (n : ℕ) (s : ProgramState) (p : Point) : Type 0 where
  pub group : SameGroup n s.stabilised (member p.trace)
  pub coin : length s.output.free ≡ p.coin
  pub records : s.output.records ≡ p.records

-- from the point the program went where the steps end, and gathered what they give
pub record ProgramComesTo (n : ℕ) (coins : ℕ → Bool) (xs : List Step) (old new : ProgramState) (p : Point) : Type 0 where
  pub shows : IsAt n new (point_after n coins xs p)
  pub output : new.output ≡ joined old.output (outputs n coins xs p)

-- the program went through the steps, from whatever point it was at
abbrev pub IsRun : ℕ → (ℕ → Bool) → List Step → ProgramState → ProgramState → Type 0
IsRun n coins xs old new = (p : Point) → IsAt n old p → ProgramComesTo n coins xs old new p

-- the program went through a step; whether a coin decided its outcome is said, and letters that exchange its outcomes if one did
pub record IsRunWithPivot (n : ℕ) (coins : ℕ → Bool) (x : Step) (old new : ProgramState) (free : Bool) (letters : List Letter) : Type 0 where
  pub run : IsRun n coins (x ∷ []) old new
  pub pivot : HasPivot n old.stabilised (measured_by n x) free letters

-- what steps cost at most, also if they stop on the way: `later` and `after` count steps carried out and coins asked for where `applied` and
-- `asked` did so before; a step asks for one coin at most
pub record CostsAtMost (xs : List Step) (applied later asked after : ℕ) : Type 0 where
  pub most : later ≤ applied + length xs
  pub asks : after ≤ asked + all_coins_of xs
  pub asks_counted : applied + after ≤ later + asked
