use Rattle.stab_items.proofs.GapPartLemmas.{counted_after}
use Rattle.stab_items.proofs.circuit.gaps.steps_after.Goals as goal

pub returns-in-Some : goal.returns-in-Some
returns-in-Some c = record {
  value =
      counted_after c.args.position c.min.result c.args.items.now c.split_at.result.1.now c.in-Some.field-0-0.now c.in-Some.following.now c.items_summary.result
      c.min.ensures c.split_at.ensures.back c.in-Some.ensures.cases.0 c.items_summary.ensures.value;
}
