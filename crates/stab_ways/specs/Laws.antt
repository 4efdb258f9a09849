-- Laws of strings that are put in: what runs show of them, and that what is listed of one is the string there.
use Rattle.std.specs.Prelude.{◌≡◌, ℕ, ◌≤◌, ◌<◌, Bool, false, List, ◌∷◌, ◌++◌, All, length, take, drop, slice_index_or}
use Rattle.stab_gates.specs.declared.letter.Letter.{Letter}
use Rattle.stab_tableau.specs.Traces.{member}
use Rattle.stab_tableau.specs.Conjugations.{IsConjugated}
use Rattle.stab_items.specs.Items.{Items}
use Rattle.stab_items.specs.Steps.{Step, one, unroll}
use Rattle.stab_pauli.specs.Paulis.{single}
use Rattle.stab_run.specs.Runs.{start, run, gate_of}
use Rattle.stab_run.specs.Points.{origin, point_after}
use Rattle.stab_run.specs.ProgramStates.{StepFits}
use Rattle.stab_frames.specs.FirstSteps.{IsFlippedRun}
use Rattle.stab_ways.specs.Ways.{Turn, placed, string_turns}
use Rattle.stab_ways.specs.PutIn.{with_string_in, string_after, string_flips, coins_exchanged}

-- with other coins the run of the steps with a string put in after k of them has the records, randomness, detectors and observables of the run
-- without it, flipped as the string flips them; and after each m steps its state is the other's, with what the string is there applied
pub record FlipsRun (n k : ℕ) (string : List Letter) (xs : List Step) (coins others : ℕ → Bool) : Type 0 where
  pub run : IsFlippedRun n coins others xs (with_string_in k string xs) (string_flips n k string xs)
  pub states : (m : ℕ) → k ≤ m → IsConjugated n (string_after n k string xs m) (member (point_after n coins (take m xs) origin).trace)
      (member (point_after n others (with_string_in k string (take m xs)) origin).trace)

-- the coins of the random outcomes that it flips, exchanged
abbrev pub coins_with : ℕ → ℕ → List Letter → List Step → (ℕ → Bool) → ℕ → Bool
coins_with n k string xs coins = coins_exchanged (run n coins xs (start 0)).free (string_flips n k string xs).outcomes coins

-- so it is with exactly these coins exchanged, whatever the coins
abbrev pub StringsFlipRuns : Type 0
StringsFlipRuns =
    (n k : ℕ) (string : List Letter) (xs : List Step) (coins : ℕ → Bool) → All (StepFits n) xs → length string ≡ n →
    FlipsRun n k string xs coins (coins_with n k string xs coins)

-- a letter that is put in as one gate flips what the string does that has no other letter
abbrev pub LettersFlipRuns : Type 0
LettersFlipRuns =
    (n k : ℕ) (l : Letter) (q : ℕ) (xs : List Step) (coins : ℕ → Bool) → All (StepFits n) xs → q < n →
    IsFlippedRun n coins (coins_with n k (single n q l).letters xs coins) xs (take k xs ++ one (gate_of l) q ∷ drop k xs) (string_flips n k (single n q l).letters xs)

-- and where no outcome is random, the coins are the same
abbrev pub FixedOutcomesKeepCoins : Type 0
FixedOutcomesKeepCoins =
    (n k : ℕ) (string : List Letter) (xs : List Step) (coins : ℕ → Bool) → ((t : ℕ) → slice_index_or (run n coins xs (start 0)).free t false ≡ false) →
    (t : ℕ) → coins_with n k string xs coins t ≡ coins t

-- what is listed after some steps is the string after them, and they are no fewer than those in front of where it was put in
pub record IsStringThere (n k : ℕ) (string : List Letter) (xs : List Step) (t : Turn) : Type 0 where
  pub from : k ≤ t.after
  pub is : t.string ≡ placed 0 (string_after n k string xs t.after)

-- so it is with all that is listed, at ticks and where a string is another one
abbrev pub TurnsAreStrings : Type 0
TurnsAreStrings =
    (every : Bool) (n k : ℕ) (string : List Letter) (items : Items) → All (IsStringThere n k string (unroll items)) (string_turns every n k string items)
