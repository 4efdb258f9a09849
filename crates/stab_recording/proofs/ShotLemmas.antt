-- Shots: what a program gathered that went through all steps from the first on is what the run gives.
use Rattle.stab_recording.proofs.Names.{◌≡◌, ℕ, sym, ◌∙◌, ap, subst, Bool, false, List, replicate, Result, IfOk, IfOk-weaker, Items, Step, unroll, observables_of, State, run, run_of, start, RunOutput, origin, point_after, outputs, with_additions, state_at, run-state, records-are-records, Shot, IsShotOf}

-- a shot of what was gathered is that of the run
pub shot-of_output : (n : ℕ) (coins : ℕ → Bool) (xs : List Step) (count : ℕ) (o : RunOutput) → o ≡ outputs n coins xs origin → (shot : Shot) → shot.records.items ≡ o.records
    → shot.free.items ≡ o.free → shot.detectors.items ≡ o.detectors → shot.observables.items ≡ with_additions o.additions (replicate count false)
    → IsShotOf (run n coins xs (start count)) shot
shot-of_output n coins xs count o is shot records free detectors observables = record {
  records = records ∙ ap (λ (o : RunOutput). o.records) is ∙ records-are-records n coins xs ∙ sym (ap (λ (s : State). s.records) same_state);
  free = free ∙ ap (λ (o : RunOutput). o.free) is ∙ sym (ap (λ (s : State). s.free) same_state);
  detectors = detectors ∙ ap (λ (o : RunOutput). o.detectors) is ∙ sym (ap (λ (s : State). s.detectors) same_state);
  observables =
      observables
      ∙ ap (λ (o : RunOutput). with_additions o.additions (replicate count false)) is
      ∙ sym (ap (λ (s : State). s.observables) same_state);
}
  where
    same_state : run n coins xs (start count) ≡ state_at (point_after n coins xs origin) (outputs n coins xs origin) (start count)
    same_state = run-state n coins xs (start count)

-- the run of all steps of items is the run of the items
pub shot-of_items : (n : ℕ) (coins : ℕ → Bool) (items : Items) (count : ℕ) (shot : Shot)
    → count ≡ observables_of items → IsShotOf (run n coins (unroll items) (start count)) shot → IsShotOf (run_of n coins items) shot
unfolding run_of
shot-of_items n coins items count shot number is =
    subst (λ s. IsShotOf s shot) (λ i. run n coins (unroll items) (start (number i))) is

pub shots-of_items : {E : Type 0} (r : Result Shot E) (n : ℕ) (coins : ℕ → Bool) (items : Items) (count : ℕ)
    → count ≡ observables_of items → IfOk r (IsShotOf (run n coins (unroll items) (start count))) → IfOk r (IsShotOf (run_of n coins items))
shots-of_items r n coins items count number =
    IfOk-weaker r _ _ (λ shot. shot-of_items n coins items count shot number)
