use Rattle.stab_instructions.proofs.Names.{map, codes, option_copied, trimmed, pieces_after, each_after}
use Rattle.stab_instructions.proofs.PieceLemmas.{left}
use Rattle.stab_instructions.proofs.WriteLemmas.{HasWritten}
use Rattle.stab_instructions.proofs.print.write_more.Given as goal

abbrev pub invariant-loop-rest : goal.invariant-loop-rest
invariant-loop-rest g l =
    HasWritten (g.O.Output.seen l.initial.out) (g.O.Output.seen l.out) (each_after (codes ", ") (λ b. b) (map trimmed (pieces_after 44 (option_copied l.more))))
    (each_after (codes ", ") (λ b. b) (map trimmed (pieces_after 44 (option_copied l.rest))))

abbrev pub decreases-loop-rest : goal.decreases-loop-rest
decreases-loop-rest g l = left (option_copied l.rest)
