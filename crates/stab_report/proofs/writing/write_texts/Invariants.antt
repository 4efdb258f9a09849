use Rattle.stab_report.proofs.Names.{map, WroteUpTo, texts_joined}
use Rattle.std.proofs.Math.ListN.{drop}
use Rattle.stab_report.proofs.writing.write_texts.Given as goal

abbrev pub invariant-loop-text : goal.invariant-loop-text
invariant-loop-text g l = WroteUpTo (g.O.Output.seen l.initial.out) (g.O.Output.seen l.out) (texts_joined (map (λ t. t.now) l.texts)) (texts_joined (map (λ t. t.now) (drop l.text-index l.texts)))
