use Rattle.stab_sampler.proofs.Names.{◌≡◌, ◌+◌, ◌-◌, ◌∙◌, ap, length, arith, circuit_items, ones, run_of, most_strings, zero_coins}
use Rattle.stab_sampler.proofs.RecordedLemmas.{all-unchanged, are-few}
use Rattle.stab_sampler.proofs.reference.Reference.of_checked.Goals as goal

pub returns-then-own-most_pivots-clause-preserved : goal.returns-then-own-most_pivots-clause-preserved
returns-then-own-most_pivots-clause-preserved c few =
    let n = c.args.n in
    let strings = c.in_ok-run.run'.strings in
    let free = ones (run_of n zero_coins (circuit_items c.args.circuit.now)).free in
    let within = are-few n (length strings.strings) strings.most free c.in_ok-run.ensures.number c.in_ok-run.ensures.most few in
    let own : c.own.result ≡ (length strings.strings + most_strings n) - strings.most =
    c.own.ensures.value ∙ ap (λ k. (length strings.strings + most_strings k) - strings.most) c.in_ok-run.ensures.qubits in
    absurd (omega (arith, own, within, c.most_pivots.ensures.value, c.if-own-most_pivots.true))

pub returns-clause-reference : goal.returns-clause-reference
returns-clause-reference c =
    let n = c.args.n in
    let strings = c.in_ok-run.run'.strings in
    let free = ones (run_of n zero_coins (circuit_items c.args.circuit.now)).free in
    let own : c.own.result ≡ (length strings.strings + most_strings n) - strings.most =
    c.own.ensures.value ∙ ap (λ k. (length strings.strings + most_strings k) - strings.most) c.in_ok-run.ensures.qubits in
    c.in_ok-run.ensures.reference
    (all-unchanged n (length strings.strings) strings.most free c.in_ok-run.ensures.number c.requires.in_range
    (omega (arith, own, c.most_pivots.ensures.value, c.if-own-most_pivots.false)))

pub returns-clause-few : goal.returns-clause-few
returns-clause-few c = omega (arith, c.own.ensures.value, c.most_pivots.ensures.value, c.if-own-most_pivots.false)
