use Rattle.stab_circuit.proofs.Names.{◌≡◌, ◌≤◌, ◌+◌, length, Some, progress_of, reading, IsShallowProgress, reading_on, AreLineStretches, IsLineRun}
use Rattle.stab_circuit.proofs.whole_text.read_lines.Given as goal

abbrev pub invariant-lines : goal.invariant-lines
invariant-lines l = record {
  few : l.line + length l.rest ≤ 16777217;
  shallow : IsShallowProgress (progress_of l.reader);
  stretches : AreLineStretches l.reader.outer.items l.stretches;
  run : IsLineRun l.reader.outer.items (progress_of l.reader) l.line l.rest l.stretches.run;
  same : reading_on l.single l.line (progress_of l.reader) (Some l.rest) ≡ reading l.single l.text;
}

abbrev pub decreases-lines : goal.decreases-lines
decreases-lines l = length l.rest
