use Rattle.stab_items.specs.Steps.{unroll}
use Rattle.stab_items.specs.Views.{circuit_items}
use Rattle.tests_library.proofs.SpanLemmas.{edit-of}
use Rattle.tests_library.proofs.stored_rounds.left_of.Goals as goal

pub edited_rounds-requires-clause-old : goal.edited_rounds-requires-clause-old
edited_rounds-requires-clause-old c =
    let done = c.in-Ok.ensures {u = tt} in (
      unroll (circuit_items c.args.circuit.now),
      c.requires.are,
      edit-of 2 c.args.edit c.args.circuit.now c.edit.new.self c.in-Ok.done.0 done.ok done.allowed done.steps c.requires.checked,
    )
