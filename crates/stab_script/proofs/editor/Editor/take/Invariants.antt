use Rattle.stab_script.proofs.Names.{◌≡◌, ◌≤◌, ◌+◌, take, read, opened_in, Reported, progress}
use Rattle.stab_script.proofs.editor.Editor.take.Given as goal

abbrev pub invariant-loop-byte : goal.invariant-loop-byte
invariant-loop-byte g l = record {
  reader : l.self.reader ≡ (read l.initial.self.reader (take l.byte-index l.piece)).reader;
  reported : Reported (progress g.A.Answer.environment g.A.Answer.held l.initial.self) (progress g.A.Answer.environment g.A.Answer.held l.self)
      (read l.initial.self.reader (take l.byte-index l.piece)).requests (g.O.Output.seen l.initial.out) (g.O.Output.seen l.out);
  few : opened_in l.self.reader.gathering ≤ opened_in l.initial.self.reader.gathering + l.byte-index;
}
