-- Passes: the steps that a pass backwards may go on before, and that it does, whatever it holds.
use Rattle.std.specs.Prelude.{ℕ, ◌<◌, ◌≤◌, List, ◌++◌, All}
use Rattle.stab_items.specs.Items.{Items}
use Rattle.stab_items.specs.Steps.{Step, observable, records_of, detectors_of, observables_of, unroll, HasDistinctQubits}
use Rattle.stab_run.specs.ProgramStates.{StepFits}
use Rattle.stab_regions.specs.declared.counts.Counts.{Counts}

-- an observable is one of this many
abbrev pub NamesBelow : ℕ → Step → Type 0
NamesBelow count (observable j ks) = j < count
NamesBelow count x = Unit {0}

-- how many there are of what is counted, of a circuit on n qubits
abbrev pub numbers_before : ℕ → Items → Counts
numbers_before n items = record { qubits = n; records = records_of (unroll items); detectors = detectors_of (unroll items); observables = observables_of items }

-- steps are on the qubits, and make and name no more than is counted
pub record FitsCounts (c : Counts) (xs : List Step) : Type 0 where
  pub steps : All (StepFits c.qubits) xs
  pub records : records_of xs ≤ c.records
  pub detectors : detectors_of xs ≤ c.detectors
  pub observables : All (NamesBelow c.observables) xs

-- a pass may go on before these steps
pub record MayPass (c : Counts) (xs back : List Step) : Type 0 where
  pub fits : FitsCounts c (xs ++ back)
  pub distinct : All HasDistinctQubits xs

-- it is somewhere after such steps
pub record StandsAfter (At : Counts → List Step → Type 0) (xs : List Step) : Type 0 where
  pub counts : Counts
  pub back : List Step
  pub at : At counts back
  pub passes : MayPass counts xs back

-- and goes on before them
abbrev pub GoesBefore : List Step → (Old New : Counts → List Step → Type 0) → Type 0
GoesBefore xs Old New = (c : Counts) (back : List Step) → MayPass c xs back → Old c back → New c (xs ++ back)
