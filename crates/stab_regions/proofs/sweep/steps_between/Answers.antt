use Rattle.stab_regions.proofs.Names.{◌≡◌, ◌+◌, sym, ap, ◌∙◌, ◌++◌, ◌∷◌, [], List, length, take, drop, map, arith, map_push, length_push, length-drop, Step, unroll, circuit_items, step_shown}
use Rattle.stab_regions.proofs.SweepLemmas.{taken-more}
use Rattle.stab_regions.proofs.sweep.steps_between.Goals as goal

pub steps-preserved : goal.steps-preserved
steps-preserved c =
    let xs : List Step = drop c.args.begin (unroll (circuit_items c.args.circuit.now)) in
    let items = c.in_ok-push-in-Some.ensures.items in
    let long : length c.push.new.self.items ≡ length c.steps.steps.items + 1 = ap length items ∙ length_push c.steps.steps.items c.in-Some.step in
    let next = taken-more (length c.steps.steps.items) xs (step_shown c.in-Some.step) c.next.new.self.left (sym c.steps.invariant.left ∙ c.in-Some.ensures.some) in
    record {
      within = omega (arith, long, c.len.ensures, c.steps.steps.ok.0, c.steps-test.true);
      taken =
          ap (map step_shown) items
          ∙ map_push step_shown c.steps.steps.items c.in-Some.step
          ∙ ap (λ (ys : List Step). ys ++ step_shown c.in-Some.step ∷ []) c.steps.invariant.taken
          ∙ sym next.0
          ∙ ap (λ n. take n xs) (sym long);
      left = next.1 ∙ ap (λ n. drop n xs) (sym long);
    }

pub returns-in-None-clause-value : goal.returns-in-None-clause-value
returns-in-None-clause-value c =
    let xs : List Step = unroll (circuit_items c.args.circuit.now) in
    let none : length (drop (length c.steps.steps.items) (drop c.args.begin xs)) ≡ 0 = ap length (sym c.steps.invariant.left ∙ c.in-None.ensures.none.0) in
    absurd
    (omega (
      arith,
      none,
      length-drop (length c.steps.steps.items) (drop c.args.begin xs),
      length-drop c.args.begin xs,
      c.len.ensures,
      c.steps.steps.ok.0,
      c.steps-test.true,
      c.requires.order,
      c.requires.in_range,
    ))
