use Rattle.stab_items.proofs.Names.{◌∙◌, ap, sym, arith, repeat, listed}
use Rattle.stab_items.proofs.StepPathLemmas.{block_steps}
use Rattle.stab_items.proofs.circuit.step_items.item_steps.Goals as goal

pub overflow_mul-result : goal.overflow_mul-result
overflow_mul-result c =
    let all = block_steps c.args.item.now c.number.result c.from.result c.in-Block.tag.now (listed c.in-Block.body.now)
    (c.in-Block.ensures.value ∙ ap (λ n. repeat n c.in-Block.tag.now (listed c.in-Block.body.now)) (sym c.number.ensures.value))
    (c.from.ensures ∙ ap (λ s. s.steps) c.in-Block.ensures.stored.0) c.number.ensures.some c.requires.few in
    omega (arith, all, c.requires.few)

pub overflow_cast-result-in-Block : goal.overflow_cast-result-in-Block
overflow_cast-result-in-Block c =
    let all = block_steps c.args.item.now c.number.result c.from.result c.in-Block.tag.now (listed c.in-Block.body.now)
    (c.in-Block.ensures.value ∙ ap (λ n. repeat n c.in-Block.tag.now (listed c.in-Block.body.now)) (sym c.number.ensures.value))
    (c.from.ensures ∙ ap (λ s. s.steps) c.in-Block.ensures.stored.0) c.number.ensures.some c.requires.few in
    omega (arith, all, c.requires.few)

pub returns-in-Block : goal.returns-in-Block
returns-in-Block c = record {
  value = block_steps c.args.item.now c.number.result c.from.result c.in-Block.tag.now (listed c.in-Block.body.now)
      (c.in-Block.ensures.value ∙ ap (λ n. repeat n c.in-Block.tag.now (listed c.in-Block.body.now)) (sym c.number.ensures.value))
      (c.from.ensures ∙ ap (λ s. s.steps) c.in-Block.ensures.stored.0) c.number.ensures.some c.requires.few;
}
