use Rattle.stab_items.proofs.Names.{◌∙◌, ◌<◌, ◌-◌, ap, sym, refl, arith, length, take, drop, subst, take_more_set, length-set, Operation, repeat, operation, listed, depth, paths_from}
use Rattle.stab_items.proofs.ItemLemmas.{depth_at}
use Rattle.stab_items.proofs.StepPathLemmas.{item_few, within_item, operation_steps, round_of, Reached, reached_first, reached_block, reached_operation}
use Rattle.stab_items.proofs.StepsLeftLemmas.{left_block, left_operation}
use Rattle.stab_items.proofs.circuit.step_items.item_within.Goals as goal

pub levels-init : goal.levels-init
levels-init c = record {
  few = c.requires.few;
  shallow = omega (arith, c.requires.shallow);
  room = refl;
  in_range = c.requires.in_range;
  within = c.requires.within;
  left = refl;
  reached = reached_first c.args.items.now c.args.first.position c.args.first.within;
}

pub returns-in-Operation-clause-path : goal.returns-in-Operation-clause-path
returns-in-Operation-clause-path c =
    let at = c.levels.invariant in
    let xs = c.levels.items.now in
    let op : Operation = record { kind = c.in-Operation.kind.now; tag = c.in-Operation.tag.now } in
    let few = within_item xs c.levels.found.position c.levels.found.within (operation op) at.in_range c.in-Operation.ensures.value at.within in
    reached_operation _ (take c.levels.depth c.levels.positions) xs c.levels.found.position c.levels.found.within _ op (operation op) c.new.result at.reached at.in_range c.in-Operation.ensures.value refl
    (omega (arith, few, operation_steps (operation op) op refl)) (ap (λ n. n - c.levels.found.within) c.step_count.ensures.value)
    (c.new.ensures.value ∙ take_more_set c.levels.positions c.levels.depth c.levels.found.position (omega (arith, at.room, at.shallow)))

pub returns-in-Operation-clause-steps : goal.returns-in-Operation-clause-steps
returns-in-Operation-clause-steps c =
    let at = c.levels.invariant in
    let xs = c.levels.items.now in
    let op : Operation = record { kind = c.in-Operation.kind.now; tag = c.in-Operation.tag.now } in
    let few = within_item xs c.levels.found.position c.levels.found.within (operation op) at.in_range c.in-Operation.ensures.value at.within in
    ap (λ n. n - c.levels.found.within) c.step_count.ensures.value
    ∙ sym (left_operation xs c.levels.found.position c.levels.found.within op (operation op) at.in_range c.in-Operation.ensures.value refl (omega (arith, few, operation_steps (operation op) op refl)))
    ∙ at.left

pub nonzero_rem-found : goal.nonzero_rem-found
nonzero_rem-found c =
    let at = c.levels.invariant in
    let xs = c.levels.items.now in
    let x = repeat c.in-Block.count c.in-Block.tag.now (listed c.in-Block.body.now) in
    (round_of x c.in-Block.count c.in-Block.stored.steps c.levels.found.within c.in-Block.tag.now (listed c.in-Block.body.now) refl (ap (λ s. s.steps) c.in-Block.ensures.stored.0)
    (within_item xs c.levels.found.position c.levels.found.within x at.in_range c.in-Block.ensures.value at.within)
    (omega (arith, at.few, item_few xs c.levels.found.position x at.in_range c.in-Block.ensures.value))).some

pub find_item-found-requires-clause-few :
    goal.find_item-found-requires-clause-few
find_item-found-requires-clause-few c =
    let at = c.levels.invariant in
    let xs = c.levels.items.now in
    let x = repeat c.in-Block.count c.in-Block.tag.now (listed c.in-Block.body.now) in
    (round_of x c.in-Block.count c.in-Block.stored.steps c.levels.found.within c.in-Block.tag.now (listed c.in-Block.body.now) refl (ap (λ s. s.steps) c.in-Block.ensures.stored.0)
    (within_item xs c.levels.found.position c.levels.found.within x at.in_range c.in-Block.ensures.value at.within)
    (omega (arith, at.few, item_few xs c.levels.found.position x at.in_range c.in-Block.ensures.value))).few

pub find_item-found-requires-clause-in_range :
    goal.find_item-found-requires-clause-in_range
find_item-found-requires-clause-in_range c =
    let at = c.levels.invariant in
    let xs = c.levels.items.now in
    let x = repeat c.in-Block.count c.in-Block.tag.now (listed c.in-Block.body.now) in
    (round_of x c.in-Block.count c.in-Block.stored.steps c.levels.found.within c.in-Block.tag.now (listed c.in-Block.body.now) refl (ap (λ s. s.steps) c.in-Block.ensures.stored.0)
    (within_item xs c.levels.found.position c.levels.found.within x at.in_range c.in-Block.ensures.value at.within)
    (omega (arith, at.few, item_few xs c.levels.found.position x at.in_range c.in-Block.ensures.value))).short

pub levels-smaller : goal.levels-smaller
levels-smaller c =
    let x = repeat c.in-Block.count c.in-Block.tag.now (listed c.in-Block.body.now) in
    let less : depth (listed c.in-Block.body.now) < depth (listed c.levels.items.now) = omega (arith, depth_at c.levels.items.now c.levels.found.position x c.levels.invariant.in_range c.in-Block.ensures.value) in
    less

pub levels-preserved : goal.levels-preserved
levels-preserved c =
    let at = c.levels.invariant in
    let xs = c.levels.items.now in
    let p = c.levels.found.position in
    let x = repeat c.in-Block.count c.in-Block.tag.now (listed c.in-Block.body.now) in
    let round = round_of x c.in-Block.count c.in-Block.stored.steps c.levels.found.within c.in-Block.tag.now (listed c.in-Block.body.now) refl (ap (λ s. s.steps) c.in-Block.ensures.stored.0)
    (within_item xs p c.levels.found.within x at.in_range c.in-Block.ensures.value at.within)
    (omega (arith, at.few, item_few xs p x at.in_range c.in-Block.ensures.value)) in
    let found = c.find_item-found.ensures.found in
    let room : c.levels.depth < length c.levels.positions = omega (arith, at.room, at.shallow) in
    record {
      few = round.few;
      shallow = omega (arith, at.shallow, depth_at xs p x at.in_range c.in-Block.ensures.value);
      room = length-set c.levels.positions c.levels.depth p ∙ at.room;
      in_range = found.in_range;
      within = found.within;
      left = found.left ∙ left_block xs c.in-Block.body.now p c.levels.found.within c.in-Block.count c.in-Block.stored.steps c.in-Block.tag.now x at.in_range c.in-Block.ensures.value refl round ∙ at.left;
      reached = subst (λ bs. Reached (drop c.args.first.within (paths_from c.args.first.position (listed (drop c.args.first.position c.args.items.now)))) bs c.in-Block.body.now c.find_item-found.result.position c.find_item-found.result.within) (sym (take_more_set c.levels.positions c.levels.depth p room))
          (reached_block _ (take c.levels.depth c.levels.positions) xs c.in-Block.body.now p c.levels.found.within c.in-Block.count _ _ c.find_item-found.result.position c.find_item-found.result.within c.in-Block.tag.now x at.reached at.in_range
          c.in-Block.ensures.value refl round.at round.round (omega (arith, round.short)) found.same);
    }
