use Rattle.stab_args.proofs.Names.{◌∙◌, found_of, first_value-rows}
use Rattle.stab_args.proofs.words.options.text.Goals as goal

pub returns : goal.returns
returns c = record { text = c.get_str.ensures ∙ first_value-rows (found_of c.args.options.now) c.args.id.now }
