use Rattle.stab_commands.proofs.Names.{◌≡◌, ◌+◌, ◌*◌, Took, circuit_items, texts_from, HaveFlips, text_at}
use Rattle.stab_commands.proofs.coin_rows.write_lanes.Given as goal

abbrev pub invariant-loop-lane : goal.invariant-loop-lane
invariant-loop-lane g l = record {
  same : l.bits ≡ l.initial.bits;
  took : HaveFlips (λ w k. g.W.Word.at w (64 * l.part + k)) (circuit_items l.circuit) l.first l.lanes l.words
      → Took (g.O.Output.seen l.initial.out) (g.O.Output.seen l.out) (texts_from (text_at l.layout (circuit_items l.circuit)) l.first l.lane);
}
