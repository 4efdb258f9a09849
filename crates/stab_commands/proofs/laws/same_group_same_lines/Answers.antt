use Rattle.stab_commands.proofs.Names.{ap, same-reduced, rows-determine, lines_of}
use Rattle.stab_commands.proofs.StringLineLaws.{lines_report}
use Rattle.stab_commands.proofs.laws.same_group_same_lines.Goals as goal

pub returns : goal.returns
returns c = record {
  law = λ n s t gs gt a b ra rb. ((λ same. ap lines_of (same-reduced n s t same gt a b ra rb)), λ e. rows-determine n s t gs gt a b ra rb (lines_report a b e));
}
