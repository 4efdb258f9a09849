use Rattle.stab_instructions.proofs.Names.{take, Took, each_after}
use Rattle.stab_instructions.proofs.print.write_each.Given as goal

abbrev pub invariant-loop-word : goal.invariant-loop-word
invariant-loop-word g l = Took (g.O.Output.seen l.initial.out) (g.O.Output.seen l.out) (each_after l.separator g.W.Word.text (take l.word-index l.words))
