use Rattle.stab_commands.proofs.Names.{◌≡◌, ◌++◌, ◌≤◌, ones_of, word_bit}
use Rattle.stab_commands.proofs.deciders.push_ones.Given as goal

abbrev pub invariant-loop-position : goal.invariant-loop-position
invariant-loop-position l = record {
  above : l.first ≤ l.position;
  pushed : l.positions.items ≡ l.initial.positions.items ++ ones_of word_bit l.word l.first l.position;
}
