use Rattle.stab_run.proofs.Names.{◌≡◌, ◌+◌, ◌*◌, ◌/◌, suc, sym, ◌∙◌, ap, length, take, drop, arith, drop-drop, length-drop, few_steps, unroll, rounds, circuit_items}
use Rattle.stab_run.proofs.AlikeLemmas.{come-again}
use Rattle.stab_run.proofs.alike.count_rounds.Goals as goal

pub overflow_add-first : goal.overflow_add-first
overflow_add-first c = omega (arith, c.requires.within, few_steps (circuit_items c.args.circuit.now) c.requires.checked)

pub count_same-requires : goal.count_same-requires
count_same-requires c = record {
  few =
      let ys = unroll (circuit_items c.args.circuit.now) in
      omega (arith, ap length c.in_ok-near.ensures.steps, length-drop c.args.first ys, few_steps (circuit_items c.args.circuit.now) c.requires.checked);
}

pub overflow_add-result : goal.overflow_add-result
overflow_add-result c =
    let ys = unroll (circuit_items c.args.circuit.now) in
    omega (
      arith,
      c.requires.some,
      c.count_same.ensures.within,
      ap length c.in_ok-far.ensures.steps,
      length-drop (c.args.first + c.args.round) ys,
      few_steps (circuit_items c.args.circuit.now) c.requires.checked,
    )

pub returns-clause-again : goal.returns-clause-again
returns-clause-again c =
    let ys = unroll (circuit_items c.args.circuit.now) in
    let l = c.args.round in
    let m = c.count_same.result in
    let following = drop c.args.first ys in
    let same : take m following ≡ take m (drop l following) =
    ap (take m) (sym c.in_ok-near.ensures.steps)
    ∙ c.count_same.ensures.same
    ∙ ap (take m) (c.in_ok-far.ensures.steps ∙ sym (drop-drop l c.args.first ys)) in
    ap (λ n. take (n * l) following) {x = 1 + m / l} {y = suc (m / l)} (omega arith)
    ∙ come-again l m (m / l) following same (omega arith)
    ∙ ap (λ n. rounds n (take l following)) {x = suc (m / l)} {y = 1 + m / l} (omega arith)
