-- Laws of runs: a state is a point with what was given so far; a coin that does not decide makes no difference; the trace of
-- a run is sound; and the future depends on the group, the number of the next coin and the records alone: on these as far back as
-- steps look, and on that number if a coin decides.
-- Source: Aaronson and Gottesman 2004, section III: an outcome is fixed, or it may be either. That a coin is given for each, and what
-- the future depends on, is this project's own.
use Rattle.std.specs.Prelude.{◌≡◌, ℕ, ◌+◌, Bool, true, false, List, All, None, slice_index_or}
use Rattle.stab_pauli.specs.Paulis.{Signed}
use Rattle.stab_tableau.specs.Traces.{Event, member, outcome, is_random, Fits, IsSound}
use Rattle.stab_tableau.specs.Groups.{SameGroup}
use Rattle.stab_items.specs.Items.{Items}
use Rattle.stab_items.specs.Steps.{Step, unroll, records_of, looks_too_far, check_within}
use Rattle.stab_items.specs.Steps.{HasDistinctQubits}
use Rattle.stab_items.specs.Circuits.{AreLinesOf}
use Rattle.stab_run.specs.Records.{ones}
use Rattle.stab_run.specs.Runs.{State, run, run_of}
use Rattle.stab_run.specs.Points.{Point, all_coins_of, point_after, outputs, point_of, state_at}
use Rattle.stab_run.specs.ProgramStates.{StepFits}
use Rattle.stab_run.specs.Ends.{AgreeBack, with_coin}

-- a run ends at the point where its steps end, with what they give put after what there was
abbrev pub RunsArePointsWithOutputs : Type 0
RunsArePointsWithOutputs =
    (n : ℕ) (coins : ℕ → Bool) (xs : List Step) (s : State) →
    run n coins xs s ≡ state_at (point_after n coins xs (point_of s)) (outputs n coins xs (point_of s)) s

-- a random outcome is the coin, and any other does not depend on it
abbrev pub CoinsDecideRandomOutcomes : Type 0
CoinsDecideRandomOutcomes =
    (trace : List Event) (p : Signed) →
    (is_random trace p ≡ true → (coin : Bool) → outcome trace p coin ≡ coin)
    × (is_random trace p ≡ false → (coin other : Bool) → outcome trace p coin ≡ outcome trace p other)

-- two sequences of coins have the same coins where the randomness is 1
abbrev pub AgreeWhere : List Bool → (ℕ → Bool) → (ℕ → Bool) → Type 0
AgreeWhere randomness coins others = (t : ℕ) → slice_index_or randomness t false ≡ true → coins t ≡ others t

-- other coins that are the same where the randomness is 1 make the same run
abbrev pub DependsOnCoinsAt : List Bool → ℕ → (ℕ → Bool) → Items → Type 0
DependsOnCoinsAt randomness n coins items = (others : ℕ → Bool) → AgreeWhere randomness coins others → run_of n others items ≡ run_of n coins items

-- a run depends on the coins that its own randomness names
abbrev pub RunsDependOnDecidingCoins : Type 0
RunsDependOnDecidingCoins = (n : ℕ) (coins : ℕ → Bool) (items : Items) → DependsOnCoinsAt (run_of n coins items).free n coins items

-- what happens in a run is on n qubits, and no projection is on an outcome that the state before it rules out
abbrev pub IsSoundRun : ℕ → (ℕ → Bool) → Items → Type 0
IsSoundRun n coins items = Fits n (run_of n coins items).trace × IsSound (run_of n coins items).trace

-- that is so for all items that lines stand for, if nothing refuses them on n qubits
abbrev pub RunsAreSound : Type 0
RunsAreSound = (n : ℕ) (coins : ℕ → Bool) (lines : List (List ℕ)) (items : Items) → AreLinesOf lines items → check_within n items ≡ None → IsSoundRun n coins items

-- the qubits of each step are below n, and those of a pair differ, if nothing refuses the items on n qubits and no step pairs
-- a qubit with itself, which no lines' steps do
abbrev pub CheckedStepsFit : Type 0
CheckedStepsFit = (n : ℕ) (items : Items) → check_within n items ≡ None → All HasDistinctQubits (unroll items) → All (StepFits n) (unroll items)

-- two points have one group on n qubits, and the same number of the next coin and records
pub record AgreeAt (n : ℕ) (a b : Point) : Type 0 where
  pub group : SameGroup n (member a.trace) (member b.trace)
  pub coin : a.coin ≡ b.coin
  pub records : a.records ≡ b.records

-- such points give the same by all steps, whichever qubits they are on, and come to such points again
abbrev pub SameFuture : Type 0
SameFuture =
    (n : ℕ) (coins : ℕ → Bool) (xs : List Step) (a b : Point) → AgreeAt n a b →
    (outputs n coins xs a ≡ outputs n coins xs b) × AgreeAt n (point_after n coins xs a) (point_after n coins xs b)

-- points that agree as far back as steps look give the same by these steps, and then agree further back by the records of the steps
abbrev pub SameFutureBack : Type 0
SameFutureBack =
    (n : ℕ) (coins : ℕ → Bool) (m : ℕ) (xs : List Step) (a b : Point) → looks_too_far m xs ≡ false → AgreeBack n m a b →
    (outputs n coins xs a ≡ outputs n coins xs b) × AgreeBack n (m + records_of xs) (point_after n coins xs a) (point_after n coins xs b)

-- if no coin decides, steps give the same whichever number the next coin has, and come to the same except that number
abbrev pub FixedOutcomesNeedNoCoins : Type 0
FixedOutcomesNeedNoCoins =
    (n : ℕ) (coins : ℕ → Bool) (c : ℕ) (xs : List Step) (a : Point) → ones (outputs n coins xs a).free ≡ 0 →
    (outputs n coins xs (with_coin c a) ≡ outputs n coins xs a)
    × (point_after n coins xs (with_coin c a) ≡ with_coin (c + all_coins_of xs) (point_after n coins xs a))
