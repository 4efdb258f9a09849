-- Sound runs: steps on n qubits keep a trace on n qubits and sound.
use Rattle.stab_run.proofs.Names.{◌≡◌, ℕ, ◌<◌, refl, subst, Bool, true, false, List, [], ◌∷◌, All, length, None, All-head, All-tail, Letter, Signed, single, Event, projected, outcome, Fits, IsSound, length-one_letter, IsSound-outcome, Items, Step, one, two, controlled, collapse, product, detector, observable, unroll, observables_of, check_within, HasDistinctQubits, State, start, string_of, applied_where, effect, run, run_of, Point, nothing, trace_after, state_at, IsSoundRun, StepFits}
use Rattle.stab_run.proofs.ProductLemmas.{length-string_of}
use Rattle.stab_run.proofs.StateLemmas.{next-point}
use Rattle.stab_run.proofs.FitLemmas.{check-fits}

-- the trace is on n qubits and sound
pub record IsGood (n : ℕ) (trace : List Event) : Type 0 where
  pub fits : Fits n trace
  pub sound : IsSound trace

pub good-applied : (n : ℕ) (bit : Bool) (l : Letter) (q : ℕ) (t : List Event) → q < n → IsGood n t → IsGood n (applied_where bit l q t)
good-applied n true l q t lt good = record { fits = (lt, good.fits); sound = good.sound }
good-applied n false l q t lt good = good

pub good-projected : (n : ℕ) (p : Signed) (t : List Event) (coin : Bool) → length p.letters ≡ n → IsGood n t → IsGood n (projected p (outcome t p coin) ∷ t)
good-projected n p t coin size good = record { fits = (size, good.fits); sound = IsSound-outcome n t good.fits good.sound p size coin }

good-effect : (n : ℕ) (coins : ℕ → Bool) (x : Step) (s : State) → StepFits n x → IsGood n s.trace → IsGood n (effect n coins x s).trace
good-effect n coins (one g q) s fits good = record { fits = (fits, good.fits); sound = good.sound }
good-effect n coins (two g a b) s fits good = record { fits = (fits, good.fits); sound = good.sound }
good-effect n coins (controlled l k q) s fits good = good-applied n _ l q _ fits good
good-effect n coins (collapse l q recorded inverted resets) s fits good =
    good-applied n _ _ q _ fits (good-projected n (single n q l) s.trace (coins s.coin) (length-one_letter n q l) good)
good-effect n coins (product factors inverted) s fits good =
    good-projected n (string_of n factors) s.trace (coins s.coin) (length-string_of n factors) good
good-effect n coins (detector ks) s fits good = good
good-effect n coins (observable j ks) s fits good = good

-- and at a point: that of a state which has given nothing
pub good-next : (n : ℕ) (coins : ℕ → Bool) (x : Step) (p : Point) → StepFits n x → IsGood n p.trace → IsGood n (trace_after n coins x p)
good-next n coins x p fits good =
    let s : State = state_at p nothing (start 0) in
    subst (λ (q : Point). IsGood n q.trace) (next-point n coins x s) (good-effect n coins x s fits good)

good-run : (n : ℕ) (coins : ℕ → Bool) (xs : List Step) (s : State) → All (StepFits n) xs → IsGood n s.trace → IsGood n (run n coins xs s).trace
good-run n coins [] s fits good = good
good-run n coins (x ∷ xs) s fits good =
    good-run n coins xs (effect n coins x s) (All-tail (StepFits n) x xs fits) (good-effect n coins x s (All-head (StepFits n) x xs fits) good)

pub sound-run : (n : ℕ) (coins : ℕ → Bool) (items : Items) → check_within n items ≡ None → All HasDistinctQubits (unroll items)
    → IsSoundRun n coins items
unfolding run_of
sound-run n coins items checked distinct =
    let good = good-run n coins (unroll items) (start (observables_of items)) (check-fits n items (unroll items) checked refl distinct) (record { fits = tt; sound = tt }) in
    (good.fits, good.sound)
