use Rattle.stab_run.proofs.Names.{◌≡◌, ◌+◌, ◌++◌, ◌∙◌, sym, ap, length, drop, arith, length-drop, length-append, few_steps, unroll, circuit_items, steps_shown}
use Rattle.stab_run.proofs.AlikeLemmas.{goes-following}
use Rattle.stab_run.proofs.search.find_at.Goals as goal

pub overflow_sub-longest : goal.overflow_sub-longest
overflow_sub-longest c = omega (arith, c.requires.within, c.steps.ensures.value, few_steps (circuit_items c.args.circuit.now) c.requires.checked)

pub seeking-init : goal.seeking-init
seeking-init c =
    let ys = unroll (circuit_items c.args.circuit.now) in
    let part = steps_shown c.in-Some.begin in
    let i = c.args.first in
    let e : drop i ys ≡ part ++ c.next_steps.new.self.left = sym c.in_ok-cursor.ensures.steps ∙ c.in-Some.ensures.some in
    record {
      some = omega (arith, c.in-Some.ensures.within.0, c.len-round.ensures.value);
      within = omega (arith, c.requires.within, c.len-round.ensures.value, ap length e, length-drop i ys, length-append part c.next_steps.new.self.left);
      left = goes-following i ys part c.next_steps.new.self.left e ∙ ap (λ n. drop (i + n) ys) (sym c.len-round.ensures.value);
    }

pub overflow_add-round : goal.overflow_add-round
overflow_add-round c =
    let ys = unroll (circuit_items c.args.circuit.now) in
    let e = sym c.seeking.invariant.left ∙ c.in-Some-next_steps.ensures.some in
    omega (
      arith,
      c.seeking.invariant.within,
      c.len-round-in-seeking.ensures.value,
      ap length e,
      length-drop (c.args.first + c.seeking.round) ys,
      length-append (steps_shown c.in-Some-next_steps.next) c.next_steps-in-seeking.new.self.left,
      few_steps (circuit_items c.args.circuit.now) c.requires.checked,
    )

pub seeking-preserved : goal.seeking-preserved
seeking-preserved c =
    let ys = unroll (circuit_items c.args.circuit.now) in
    let part = steps_shown c.in-Some-next_steps.next in
    let rest = c.next_steps-in-seeking.new.self.left in
    let i = c.args.first + c.seeking.round in
    let e : drop i ys ≡ part ++ rest = sym c.seeking.invariant.left ∙ c.in-Some-next_steps.ensures.some in
    record {
      some = omega (arith, c.seeking.invariant.some);
      within = omega (arith, c.seeking.invariant.within, c.len-round-in-seeking.ensures.value, ap length e, length-drop i ys, length-append part rest);
      left = goes-following i ys part rest e
          ∙ ap (λ n. drop n ys) {x = i + length part} {y = c.args.first + (c.seeking.round + c.len-round-in-seeking.result)} (omega (arith, c.len-round-in-seeking.ensures.value));
    }
