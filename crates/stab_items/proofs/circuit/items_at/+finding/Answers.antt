use Rattle.stab_items.proofs.Names.{slice_get, item_in}
use Rattle.stab_items.proofs.ItemAtLemmas.{nothing_inside, finds_inside}
use Rattle.stab_items.proofs.circuit.items_at.+finding.Goals as goal

pub item_inside-returns-in-Err : goal.item_inside-returns-in-Err
item_inside-returns-in-Err t c = record {
  value = nothing_inside (item_in c.args.others.now c.args.position) (slice_get c.args.items.now c.args.block) c.in-Err.refusal c.in-Err.ensures.value;
}

pub item_inside-returns-in-Ok : goal.item_inside-returns-in-Ok
item_inside-returns-in-Ok t c =
    let found = c.in-Ok.ensures.value in
    record {
      value = finds_inside (item_in c.args.others.now c.args.position) (slice_get c.args.items.now c.args.block) c.in-Ok.found.count found.0 c.in-Ok.found.body.now c.item_in.result found.1 c.item_in.ensures.value;
    }
