use Rattle.stab_sampler.proofs.Names.{rules, sym, ◌≡◌, ◌∷◌, [], ap, two, controlled, controlled_step}
use Rattle.stab_sampler.proofs.GoLemmas.{go-as, go-two, go-controlled}
use Rattle.stab_sampler.proofs.steps.propagate_pair.Goals as goal

pub returns-in-Qubits-clause-goes : goal.returns-in-Qubits-clause-goes
returns-in-Qubits-clause-goes g c = λ recorded_pivots coins may.
    go-as _ _ _ _ (ap (λ s. s ∷ []) (sym shown))
    (go-two c.args.lanes.now c.apply_pair.new.self may c.apply_pair.ensures.size c.controlled_gate.result c.number-first.result c.number-second.result c.apply_pair.ensures.letters)
  where
    shown : two c.controlled_gate.result c.number-first.result c.number-second.result ≡ controlled_step c.args.axis c.args.pair
    shown = search rules

pub returns-in-Record-clause-goes : goal.returns-in-Record-clause-goes
returns-in-Record-clause-goes g c = λ recorded_pivots coins may.
    go-as _ _ _ _ (ap (λ s. s ∷ []) (sym shown))
    (go-controlled c.args.lanes.now c.multiply_letter.new.self may c.multiply_letter.ensures.size c.letter.result c.number.result c.number-in-Record.result
    c.looked_up-controls.result c.as_slice.result.now c.as_slice.ensures.value c.looked_up-controls.ensures.value c.multiply_letter.ensures.letters)
  where
    shown : controlled c.letter.result c.number.result c.number-in-Record.result ≡ controlled_step c.args.axis c.args.pair
    shown = search rules
