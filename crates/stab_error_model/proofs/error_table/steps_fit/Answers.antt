use Rattle.stab_error_model.proofs.Names.{refl, unroll, circuit_items, check-fits}
use Rattle.stab_error_model.proofs.error_table.steps_fit.Goals as goal

pub returns : goal.returns
returns c = record { fits = check-fits c.args.n (circuit_items c.args.circuit.now) (unroll (circuit_items c.args.circuit.now)) c.requires.checked refl c.items.ensures.distinct }
