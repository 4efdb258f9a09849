use Rattle.stab_regions.proofs.Names.{◌≡◌, ◌-◌, ◌≤◌, refl, sym, ap, subst, ◌∙◌, ◌++◌, [], List, length, take, drop, map, arith, All, drop_all, Step, unroll, circuit_items, step_shown, StepFits, check-fits, check-whole, check-steps, Counts, numbers_before, MayPass, IsSwept}
use Rattle.stab_regions.proofs.SweepLemmas.{detectors-exact, records-exact, piece, passes-piece}
use Rattle.stab_regions.proofs.sweep.sweep_back.Goals as goal
use Rattle.stab_regions.proofs.sweep.sweep_back.Goals.{After-items, After-steps-end, After-as_slice}

fits : (c : After-items) → All (StepFits c.args.qubits) (unroll (circuit_items c.args.circuit.now))
fits c = check-fits c.args.qubits (circuit_items c.args.circuit.now) (unroll (circuit_items c.args.circuit.now)) c.requires.checked refl c.items.ensures.distinct

counted : (c : After-steps-end) → c.steps-end.result ≡ length (unroll (circuit_items c.args.circuit.now))
counted c =
    let few : length (unroll (circuit_items c.args.circuit.now)) ≤ 1048576 = check-steps (circuit_items c.args.circuit.now) (check-whole c.args.qubits (circuit_items c.args.circuit.now) c.requires.checked) in
    omega (arith, few, c.steps-end.ensures.value)

pub pieces-init : goal.pieces-init
pieces-init c =
    let at = goal.at.pieces-init c in
    let items = circuit_items c.args.circuit.now in
    let xs : List Step = unroll items in
    let checked = check-whole c.args.qubits items c.requires.checked in
    let none : drop c.steps-end.result xs ≡ [] = drop_all c.steps-end.result xs (omega (arith, counted at.After-steps-end)) in
    record {
      within = omega (arith, counted at.After-steps-end);
      numbered = c.in_ok-sweep.ensures.numbered;
      swept =
          subst (IsSwept c.args.asked c.in_ok-sweep.sweep (numbers_before c.args.qubits items)) (sym none)
          (subst (λ (k : Counts). IsSwept c.args.asked c.in_ok-sweep.sweep k [])
          (λ i. record {
            qubits = c.args.qubits;
            records = records-exact items c.records.result checked c.records.ensures.value i;
            detectors = detectors-exact items c.detectors.result checked c.detectors.ensures.value i;
            observables = c.observables.ensures.value i;
          })
          (c.in_ok-sweep.ensures.swept c.args.asked));
    }

-- the steps of this piece
taken : (c : After-as_slice) → map step_shown c.as_slice.result.now ≡ take (c.pieces.end - c.saturating_sub-begin.result) (drop c.saturating_sub-begin.result (unroll (circuit_items c.args.circuit.now)))
taken c = ap (map step_shown) c.as_slice.ensures.value ∙ c.in_ok-steps.ensures.value

passes : (c : After-as_slice) → All (StepFits c.args.qubits) (unroll (circuit_items c.args.circuit.now)) →
    MayPass (numbers_before c.args.qubits (circuit_items c.args.circuit.now)) (map step_shown c.as_slice.result.now) (drop c.pieces.end (unroll (circuit_items c.args.circuit.now)))
passes c all_fit =
    let items = circuit_items c.args.circuit.now in
    subst (λ (ys : List Step). MayPass (numbers_before c.args.qubits items) ys (drop c.pieces.end (unroll items))) (sym (taken c))
    (passes-piece c.args.qubits c.saturating_sub-begin.result c.pieces.end items (omega (arith, c.saturating_sub-begin.ensures)) all_fit c.items.ensures.distinct)

pub before_all-requires : goal.before_all-requires
before_all-requires c =
    let at = goal.at.before_all-requires c in
    record {
      site = record {
        counts = numbers_before c.args.qubits (circuit_items c.args.circuit.now);
        back = drop c.pieces.end (unroll (circuit_items c.args.circuit.now));
        at = c.pieces.invariant.swept;
        passes = passes at.After-as_slice (fits at.After-items);
      };
    }

pub pieces-preserved : goal.pieces-preserved
pieces-preserved c =
    let at = goal.at.pieces-preserved c in
    let items = circuit_items c.args.circuit.now in
    let xs : List Step = unroll items in
    let order : c.saturating_sub-begin.result ≤ c.pieces.end = omega (arith, c.saturating_sub-begin.ensures) in
    record {
      within = omega (arith, order, c.pieces.invariant.within);
      numbered = c.before_all.ensures.numbered ∙ c.pieces.invariant.numbered;
      swept =
          subst (IsSwept c.args.asked c.before_all.new.self (numbers_before c.args.qubits items))
          (ap (λ (ys : List Step). ys ++ drop c.pieces.end xs) (taken at.After-as_slice) ∙ piece c.saturating_sub-begin.result c.pieces.end xs order)
          (c.in_ok-before_all.ensures.passes (numbers_before c.args.qubits items) (drop c.pieces.end xs) (passes at.After-as_slice (fits at.After-items)) c.pieces.invariant.swept);
    }

pub returns-clause-numbered : goal.returns-clause-numbered
returns-clause-numbered c = c.pieces.invariant.numbered

pub returns-clause-swept : goal.returns-clause-swept
returns-clause-swept c =
    let items = circuit_items c.args.circuit.now in
    let none : c.pieces.end ≡ 0 = omega (arith, c.pieces-test.false) in
    subst (λ k. IsSwept c.args.asked c.pieces.sweep (numbers_before c.args.qubits items) (drop k (unroll items))) none c.pieces.invariant.swept

pub returns-clause-fits : goal.returns-clause-fits
returns-clause-fits c = let at = goal.at.returns-clause-fits c in fits at.After-items
