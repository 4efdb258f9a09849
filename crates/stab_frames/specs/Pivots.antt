-- Pivots: strings by which the random outcomes of a run come from each other, the first of them in their order, and what they are pivots of.
-- Source: this project's own.
use Rattle.std.specs.Prelude.{◌≡◌, ℕ, ◌+◌, ◌-◌, Bool, false, List, [], ◌∷◌, ◌++◌, length, take, drop, min, max, slice_get, slice_index_or, nat_le, if◌then◌else◌, Option, None, IfSome}
use Rattle.stab_gates.specs.declared.letter.Letter.{Letter}
use Rattle.stab_tableau.specs.Traces.{member}
use Rattle.stab_tableau.specs.Pivots.{IsPivot}
use Rattle.stab_items.specs.Steps.{Step}
use Rattle.stab_run.specs.Records.{ones}
use Rattle.stab_run.specs.Runs.{measured_by}
use Rattle.stab_run.specs.Points.{Point, origin, next_point, point_after}
use Rattle.stab_run.specs.ProgramStates.{ProgramState, IsAt}
use Rattle.stab_frames.specs.Limits.{most_strings}

-- strings of this many letters each, and how many may be stored
pub record PivotsState : Type 0 where
  pub qubits : ℕ
  pub most : ℕ
  pub strings : List (List Letter)

-- the pivot of a coin number, by the pivots and the run's randomness: if the outcome was random, the string at its position among these, if it was stored
abbrev pub pivot_at : List (List Letter) → List Bool → ℕ → Option (List Letter)
pivot_at strings free t = if slice_index_or free t false then slice_get strings (ones (take t free)) else None

-- there is a string for each random outcome, as far as they are stored
abbrev pub IsNumbered : PivotsState → List Bool → Type 0
IsNumbered preserved free = length preserved.strings ≡ min (ones free) preserved.most

-- what is stored as the pivot of what a step at a point measures, if anything, is one
abbrev pub IsTrueAt : ℕ → (ℕ → Option (List Letter)) → Step → Point → Type 0
IsTrueAt n strings x a = IfSome (measured_by n x) (λ m. IfSome (strings a.coin) (λ s. IsPivot n (member a.trace) m s))

-- so do those recorded of what steps measure
abbrev pub AreTrue : ℕ → (ℕ → Bool) → (ℕ → Option (List Letter)) → List Step → Point → Type 0
AreTrue n coins strings [] a = Unit {0}
AreTrue n coins strings (x ∷ xs) a = IsTrueAt n strings x a × AreTrue n coins strings xs (next_point n coins x a)

-- strings with others after them, cut to as many as may be stored
abbrev pub stored_with : (most : ℕ) → List (List Letter) → List (List Letter) → List (List Letter)
stored_with most strings more = take most (strings ++ more)

-- the strings from one number up to another with themselves after the others again: since they are shared, as many more may be stored
abbrev pub stored_again : (from to : ℕ) → PivotsState → PivotsState
stored_again from to preserved = record preserved {
  most = preserved.most + length (drop from (take to preserved.strings));
  strings = preserved.strings ++ drop from (take to preserved.strings);
}

-- how many of the strings that may be stored are used up: those that are there again use up none
abbrev pub own_strings : PivotsState → ℕ
own_strings preserved = (length preserved.strings + most_strings preserved.qubits) - preserved.most

-- the first ones, up to this many: no more may follow than up to the limit
abbrev pub cut_to : ℕ → PivotsState → PivotsState
cut_to count preserved = record preserved {
  most = min preserved.most (max (most_strings preserved.qubits) count);
  strings = take count preserved.strings;
}

-- the same: if there are as many, others may follow up to the limit
abbrev pub front_stored : ℕ → PivotsState → PivotsState
front_stored count preserved = record {
  qubits = preserved.qubits;
  most = if nat_le count (length preserved.strings) then max (most_strings preserved.qubits) count else preserved.most;
  strings = take count preserved.strings;
}

-- a program that passed steps stored its strings numbered, and true of the steps that led to where it was, and of these
abbrev pub KeepsTrue : ℕ → (ℕ → Bool) → List Step → PivotsState → PivotsState → ProgramState → ProgramState → Type 0
KeepsTrue n coins ys preserved stored_after old new =
    (xs : List Step) → IsAt n old (point_after n coins xs origin) → IsNumbered preserved old.output.free → AreTrue n coins (pivot_at preserved.strings old.output.free) xs origin →
    IsNumbered stored_after new.output.free × AreTrue n coins (pivot_at stored_after.strings new.output.free) (xs ++ ys) origin
