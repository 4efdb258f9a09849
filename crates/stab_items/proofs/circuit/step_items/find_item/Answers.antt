use Rattle.stab_items.proofs.Names.{◌∙◌, ◌+◌, arith}
use Rattle.stab_items.proofs.StepPathLemmas.{some_item, item_few, steps_at, steps_split, item_passed}
use Rattle.stab_items.proofs.StepsLeftLemmas.{left_passed}
use Rattle.stab_items.proofs.circuit.step_items.find_item.Goals as goal

pub item_steps-steps-requires : goal.item_steps-steps-requires
item_steps-steps-requires c =
    let here = some_item c.args.items.now c.items.found.position c.items.found.within c.items.invariant.in_range in
    record { few = omega (arith, c.requires.few, item_few c.args.items.now c.items.found.position c.index-items-found.result here c.index-items-found.is) }

pub items-preserved : goal.items-preserved
items-preserved c =
    let here = some_item c.args.items.now c.items.found.position c.items.found.within c.items.invariant.in_range in
    let all = steps_at c.args.items.now c.items.found.position c.index-items-found.result here c.index-items-found.is in
    record {
      in_range = omega (arith, c.items.invariant.in_range, all, c.item_steps-steps.ensures.value, c.if-found-steps.false);
      same = item_passed c.args.items.now c.items.found.position c.items.found.within c.item_steps-steps.result c.index-items-found.result here c.index-items-found.is c.item_steps-steps.ensures.value c.if-found-steps.false
          ∙ c.items.invariant.same;
      steps = omega (
        arith,
        c.items.invariant.steps,
        all,
        c.item_steps-steps.ensures.value,
        c.if-found-steps.false,
        steps_split c.items.found.position c.args.items.now,
        steps_split (c.items.found.position + 1) c.args.items.now,
      );
      left = left_passed c.args.items.now c.items.found.position c.items.found.within c.item_steps-steps.result c.index-items-found.result here c.index-items-found.is c.item_steps-steps.ensures.value c.if-found-steps.false
          ∙ c.items.invariant.left;
    }
