use Rattle.stab_commands.proofs.Names.{◌-◌, ◌≤◌, Took, circuit_items, texts_from, text_at}
use Rattle.stab_commands.proofs.coins.send_batches.Given as goal

abbrev pub invariant-loop-sent : goal.invariant-loop-sent
invariant-loop-sent g l = record {
  within : l.sent ≤ l.coins;
  took : Took (g.O.Output.seen l.initial.out) (g.O.Output.seen l.out) (texts_from (text_at l.layout (circuit_items l.circuit)) 0 l.sent);
}

abbrev pub decreases-loop-sent : goal.decreases-loop-sent
decreases-loop-sent g l = l.coins - l.sent
