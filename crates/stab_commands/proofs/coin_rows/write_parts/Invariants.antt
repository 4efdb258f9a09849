use Rattle.stab_commands.proofs.Names.{◌≡◌, ◌-◌, ◌%◌, ◌<◌, ◌≤◌, false, length, replicate, Took, circuit_items, texts_from, HaveFlips, text_at}
use Rattle.stab_commands.proofs.coin_rows.write_parts.Given as goal

abbrev pub invariant-loop-sent : goal.invariant-loop-sent
invariant-loop-sent g l = record {
  within : l.sent ≤ l.lanes;
  whole : l.sent < l.lanes → l.sent % 64 ≡ 0;
  zero : l.bits.items ≡ replicate (length l.words) false;
  took : HaveFlips g.W.Word.at (circuit_items l.circuit) l.first l.lanes l.words
      → Took (g.O.Output.seen l.initial.out) (g.O.Output.seen l.out) (texts_from (text_at l.layout (circuit_items l.circuit)) l.first l.sent);
}

abbrev pub decreases-loop-sent : goal.decreases-loop-sent
decreases-loop-sent g l = l.lanes - l.sent
