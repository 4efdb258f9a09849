use Rattle.stab_sampler.proofs.Names.{arith, refl, sym, ap, ◌∙◌, ◌∷◌, [], length, one, fits-target}
use Rattle.stab_sampler.proofs.GoLemmas.{go-none, go-as, go-one, go-further, go-all}
use Rattle.stab_sampler.proofs.steps.propagate_gates.Goals as goal

pub apply-requires : goal.apply-requires
apply-requires g c =
    let fits =
    fits-target (length c.args.lanes.now.frames.letters.items) (length c.loop-qubit.lanes.frames.letters.items) (one c.args.gate) c.args.qubits.now c.loop-qubit.qubit-index c.qubit-item.result
    c.loop-qubit.invariant.frames c.loop-qubit-test.true c.qubit-item.is c.requires.fits in
    record { in_range = omega arith }

pub loop-qubit-init : goal.loop-qubit-init
loop-qubit-init g c = record { frames = refl; goes = λ recorded_pivots coins may. go-none c.args.lanes.now may }

pub loop-qubit-preserved : goal.loop-qubit-preserved
loop-qubit-preserved g c =
    let inv = c.loop-qubit.invariant in
    let now = c.loop-qubit.lanes in
    record {
      frames = c.apply.ensures.size ∙ inv.frames;
      goes = λ recorded_pivots coins may.
          let front = inv.goes recorded_pivots coins may in
          go-further (one c.args.gate) c.args.qubits.now c.loop-qubit.qubit-index c.qubit-item.result c.args.lanes.now now _ c.loop-qubit-test.true c.qubit-item.is front
          (go-as _ _ _ _ (ap (λ q. one c.args.gate q ∷ []) (sym c.number.ensures.value))
          (go-one now c.apply.new.self front.may c.apply.ensures.size c.args.gate c.number.result c.apply.ensures.letters));
    }

pub returns-clause-goes : goal.returns-clause-goes
returns-clause-goes g c = λ recorded_pivots coins may.
    go-all (one c.args.gate) c.args.qubits.now c.loop-qubit.qubit-index c.args.lanes.now c.loop-qubit.lanes c.loop-qubit-test.false (c.loop-qubit.invariant.goes recorded_pivots coins may)
