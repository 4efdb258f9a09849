use Rattle.stab_commands.proofs.Names.{◌≡◌, ◌+◌, ◌-◌, ◌%◌, ◌++◌, ◌<◌, ◌≤◌, ones_of}
use Rattle.stab_commands.proofs.deciders.push_parts.Given as goal

abbrev pub invariant-loop-pushed : goal.invariant-loop-pushed
invariant-loop-pushed g l = record {
  within : l.pushed ≤ l.end - l.first;
  whole : l.pushed < l.end - l.first → l.pushed % 64 ≡ 0;
  has : l.positions.items ≡ l.initial.positions.items ++ ones_of g.W.Word.at l.word l.first (l.first + l.pushed);
}

abbrev pub decreases-loop-pushed : goal.decreases-loop-pushed
decreases-loop-pushed g l = l.end - l.first - l.pushed
