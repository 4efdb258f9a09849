use Rattle.stab_commands.proofs.EachLaws.{found_for}
use Rattle.stab_commands.proofs.each_distance.answer_of.Goals as goal

pub returns-in-Ok-clause-found : goal.returns-in-Ok-clause-found
returns-in-Ok-clause-found c = found_for c.args.options c.for_observable.result c.args.number c.args.errors.now c.in-Ok.answer c.for_observable.ensures.value c.in-Ok.ensures.distance
