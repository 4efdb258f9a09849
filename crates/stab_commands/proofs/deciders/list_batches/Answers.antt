use Rattle.stab_commands.proofs.Names.{◌∙◌, ◌+◌, ◌-◌, ◌++◌, ap, length, arith, circuit_items, numbers_where, rows_listed, decides}
use Rattle.stab_items.proofs.CountLemmas.{detectors_counted}
use Rattle.stab_commands.proofs.DeciderLaws.{numbers_more}
use Rattle.stab_commands.proofs.deciders.list_batches.Goals as goal

pub loop-first-init : goal.loop-first-init
loop-first-init g c =
    let items = circuit_items c.args.circuit.now in
    let detectors = c.detectors.ensures.value ∙ detectors_counted items c.requires.checked in
    record {
      within = omega arith;
      size = omega (arith, c.in_ok-add_lists-2.ensures.size, c.in_ok-add_lists.ensures.size, ap length c.new-lists.ensures.items, detectors, c.observables.ensures.value);
      listed_so_far = λ i less. c.in_ok-add_lists-2.ensures.value i ∙ c.in_ok-add_lists.ensures.value i ∙ ap (λ l. rows_listed l i) c.new-lists.ensures.items;
    }

pub loop-first-preserved : goal.loop-first-preserved
loop-first-preserved g c =
    let items = circuit_items c.args.circuit.now in
    let first = c.loop-first.first in
    let end = first + c.min.result in
    record {
      within = omega (arith, c.min.ensures, c.loop-first-test.true);
      size = c.in_ok-list_batch.ensures.size;
      listed_so_far = λ i less.
          c.in_ok-list_batch.ensures.value i less
          ∙ ap (λ l. l ++ numbers_where (decides items i) first (end - first)) (c.loop-first.invariant.listed_so_far i less)
          ∙ numbers_more (decides items i) first end (omega arith);
    }
