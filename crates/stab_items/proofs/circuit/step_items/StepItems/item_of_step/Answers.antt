use Rattle.stab_items.proofs.Names.{◌≡◌, ◌≤◌, ◌∙◌, ◌+◌, ap, sym, arith, length, take, drop, listed, unroll, circuit_items, paths_of, item_steps_left}
use Rattle.stab_items.proofs.SummaryLemmas.{few_steps}
use Rattle.stab_items.proofs.StepPathLemmas.{steps_split, paths_from_position}
use Rattle.stab_items.proofs.StepsLeftLemmas.{left_from_position}
use Rattle.stab_items.proofs.circuit.step_items.StepItems.item_of_step.Goals as goal

pub find_item-found-requires-clause-few : goal.find_item-found-requires-clause-few
find_item-found-requires-clause-few c = omega (arith, few_steps (circuit_items c.args.self.now) c.requires.checked, ap (λ l. length (unroll (listed l))) (c.items-items.ensures.value ∙ c.self.view_is))

pub find_item-found-requires-clause-in_range : goal.find_item-found-requires-clause-in_range
find_item-found-requires-clause-in_range c =
    let p = c.position_before-begin.result.position in
    omega (arith, c.requires.in_range, c.position_before-begin.ensures.steps, steps_split p c.args.self.now, ap (λ l. length (unroll (listed (drop p l)))) (c.items-items.ensures.value ∙ c.self.view_is))

pub item_within-requires-clause-few : goal.item_within-requires-clause-few
item_within-requires-clause-few c = omega (arith, few_steps (circuit_items c.args.self.now) c.requires.checked, ap (λ l. length (unroll (listed l))) (c.items-items.ensures.value ∙ c.self.view_is))

pub returns-clause-steps : goal.returns-clause-steps
returns-clause-steps c =
    let xs = c.items-items.result.now in
    let begin = c.position_before-begin.result in
    let counted : length (unroll (listed (take begin.position xs))) + begin.steps ≡ c.args.step = ap (λ l. length (unroll (listed (take begin.position l))) + begin.steps) (c.items-items.ensures.value ∙ c.self.view_is) ∙ c.position_before-begin.ensures.steps in
    c.item_within.ensures.steps ∙ c.find_item-found.ensures.found.left ∙ left_from_position xs begin.position begin.steps c.args.step counted ∙ ap (λ l. item_steps_left (listed l) c.args.step) (c.items-items.ensures.value ∙ c.self.view_is)

pub returns-clause-path : goal.returns-clause-path
returns-clause-path c =
    let xs = c.items-items.result.now in
    let begin = c.position_before-begin.result in
    let counted : length (unroll (listed (take begin.position xs))) + begin.steps ≡ c.args.step = ap (λ l. length (unroll (listed (take begin.position l))) + begin.steps) (c.items-items.ensures.value ∙ c.self.view_is) ∙ c.position_before-begin.ensures.steps in
    let inside : begin.position ≤ length xs = omega (arith, c.position_before-begin.ensures.within, ap length (c.items-items.ensures.value ∙ c.self.view_is)) in
    let from = c.find_item-found.ensures.found.same ∙ paths_from_position xs begin.position begin.steps c.args.step inside counted ∙ ap (λ l. drop c.args.step (paths_of (listed l))) (c.items-items.ensures.value ∙ c.self.view_is) in
    ap (take c.item_within.result.steps) (sym from) ∙ c.item_within.ensures.path
