use Rattle.stab_items.proofs.Names.{slice_get}
use Rattle.stab_items.proofs.JudgementLemmas.{none_inside, inside_block}
use Rattle.stab_items.proofs.judge.+counting.Goals as goal

pub steps_inside-returns-in-Err : goal.steps_inside-returns-in-Err
steps_inside-returns-in-Err t c = record {
  value = none_inside (slice_get c.args.items.now c.args.block) c.args.others.now c.args.position c.in-Err.field-0 c.in-Err.ensures.value;
}

pub steps_inside-returns-in-Ok : goal.steps_inside-returns-in-Ok
steps_inside-returns-in-Ok t c =
    let found = c.in-Ok.ensures.value in
    record {
      value =
          inside_block (slice_get c.args.items.now c.args.block) c.args.others.now c.args.position c.in-Ok.found.count c.steps_in.result found.0 c.in-Ok.found.body.now found.1
          c.steps_in.ensures.value;
    }
