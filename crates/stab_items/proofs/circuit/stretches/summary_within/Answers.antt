use Rattle.stab_items.proofs.StretchLemmas.{sum_whole}
use Rattle.stab_items.proofs.circuit.stretches.summary_within.Goals as goal

pub returns-then-end-front : goal.returns-then-end-front
returns-then-end-front c = record {
  sum = sum_whole c.args.front.now c.args.first c.args.position c.args.stretch.items c.args.stretch.summary c.if-first-position.true (c.requires.sum c.if-end-front.true);
}
