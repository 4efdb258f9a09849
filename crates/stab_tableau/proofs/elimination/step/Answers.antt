use Rattle.stab_tableau.proofs.EliminationStepLemmas.{some-step}
use Rattle.stab_tableau.proofs.elimination.step.Goals as goal

pub returns-in-Some : goal.returns-in-Some
returns-in-Some c = record {
  steps = some-step c.args.position c.args.used c.in-Some.leading c.args.rows.now c.exchange.new.rows c.clear_others.new.rows
      c.in-Some.ensures.from c.in-Some.ensures.in_range c.requires.in_range c.in-Some.ensures.one c.exchange.ensures.rows c.clear_others.ensures.rows;
}
