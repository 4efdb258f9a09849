use Rattle.stab_run.proofs.Names.{unroll, circuit_items, AreRepeats}
use Rattle.stab_run.proofs.edited.edited_rounds.Given as goal

abbrev pub invariant-loop-repeat : goal.invariant-loop-repeat
invariant-loop-repeat l = record {
  are : AreRepeats 0 (unroll (circuit_items l.circuit)) l.repeats.items;
}
