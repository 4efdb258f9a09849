use Rattle.stab_run.proofs.Names.{◌≡◌, ◌+◌, ◌++◌, ◌∙◌, sym, ap, length, drop, arith, length-drop, length-append, few_steps, unroll, circuit_items, steps_shown}
use Rattle.stab_run.proofs.AlikeLemmas.{goes-following}
use Rattle.stab_run.proofs.search.next_position.Goals as goal

pub overflow_add-position : goal.overflow_add-position
overflow_add-position c =
    let ys = unroll (circuit_items c.args.circuit.now) in
    let e = sym c.going.invariant.left ∙ c.in-Some.ensures.some in
    omega (
      arith,
      c.going.invariant.within,
      c.len-position.ensures.value,
      ap length e,
      length-drop c.going.position ys,
      length-append (steps_shown c.in-Some.steps) c.next_steps.new.self.left,
      few_steps (circuit_items c.args.circuit.now) c.requires.checked,
    )

pub going-preserved : goal.going-preserved
going-preserved c =
    let ys = unroll (circuit_items c.args.circuit.now) in
    let part = steps_shown c.in-Some.steps in
    let i = c.going.position in
    let e : drop i ys ≡ part ++ c.next_steps.new.self.left = sym c.going.invariant.left ∙ c.in-Some.ensures.some in
    record {
      order = omega (arith, c.going.invariant.order);
      within = omega (arith, c.going.invariant.within, c.len-position.ensures.value, ap length e, length-drop i ys, length-append part c.next_steps.new.self.left);
      left = goes-following i ys part c.next_steps.new.self.left e ∙ ap (λ n. drop (i + n) ys) (sym c.len-position.ensures.value);
    }
