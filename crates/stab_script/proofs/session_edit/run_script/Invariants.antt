use Rattle.stab_script.proofs.Names.{◌≤◌, ◌-◌, opened_in, progress}
use Rattle.stab_script.proofs.ScriptTurnLaws.{AnsweredInTurn}
use Rattle.stab_script.proofs.session_edit.run_script.Given as goal

abbrev pub invariant-reads : goal.invariant-reads
invariant-reads g l = record {
  few : l.taken ≤ 67108864;
  opened : opened_in l.editor.reader.gathering ≤ l.taken;
  so_far : AnsweredInTurn (g.A.Answer.environment l.fn.answers) (g.A.Answer.held l.fn.answers).items (progress g.A.Answer.environment g.A.Answer.held l.editor) l.editor.reader l.taken
      (g.S.Input.seen l.initial.script) (g.S.Input.seen l.script) (g.O.Output.seen l.fn.out) (g.O.Output.seen l.out) (g.W.Watcher.log l.initial.script) (g.W.Watcher.log l.script);
}

abbrev pub decreases-reads : goal.decreases-reads
decreases-reads g l = 67108864 - l.taken
