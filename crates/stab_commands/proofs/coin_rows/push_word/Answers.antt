use Rattle.stab_commands.proofs.Names.{◌∙◌, ap, positions_in}
use Rattle.stab_commands.proofs.PlacedWordLaws.{positions-push, positions-zero}
use Rattle.stab_commands.proofs.coin_rows.push_word.Goals as goal

pub returns-then-word-eq0-clause-value : goal.returns-then-word-eq0-clause-value
returns-then-word-eq0-clause-value c = λ l. positions-zero l c.args.position c.args.word c.args.found.now.items c.if-word-eq0.true

pub returns-clause-value : goal.returns-clause-value
returns-clause-value c = λ l. ap (positions_in l) c.in_ok-push.ensures.items ∙ positions-push l c.args.found.now.items _
