use Rattle.stab_run.proofs.Names.{refl, subst, All, take, drop, arith, few_steps, unroll, circuit_items, LooksWithin, looks-within}
use Rattle.stab_run.proofs.search.rounds_at.Goals as goal

pub overflow_mul-rounds : goal.overflow_mul-rounds
overflow_mul-rounds c = omega (arith, c.in_ok-rounds.ensures.inside, few_steps (circuit_items c.args.circuit.now) c.requires.checked)

pub returns-clause-found : goal.returns-clause-found
returns-clause-found c =
    let ys = unroll (circuit_items c.args.circuit.now) in
    let round = take c.args.round (drop c.args.first ys) in
    let look = c.window_of.result in (
      refl,
      record {
        some = c.requires.some;
        many = omega (arith, c.if-rounds-lt-LEAST_ROUNDS.false);
        inside = c.in_ok-rounds.ensures.inside;
        again = c.in_ok-rounds.ensures.again;
        within = looks-within look round
            (subst (λ left. All (LooksWithin look) (take c.args.round left)) c.in_ok-cursor.ensures.steps c.window_of.ensures.within);
      },
    )
