use Rattle.stab_args.proofs.Names.{◌∙◌, ParsesUnsigned, ExplainsUnsignedError, HasUnsignedDigitsIfOk, found_of, one_text-rows}
use Rattle.stab_args.proofs.OptionLaws.{no_number, written_number}
use Rattle.stab_args.proofs.words.options.number.Goals as goal

pub returns-clause-number : goal.returns-clause-number
returns-clause-number c = written_number (λ t r. ParsesUnsigned 64 10 t r × ExplainsUnsignedError 10 t r × HasUnsignedDigitsIfOk t r) _ c.get_one.result (λ t x g. g.0) (λ t e. c.get_one.ensures.value t (one_text-rows (found_of c.args.options.now) c.args.id.now ∙ e))

pub returns-clause-none : goal.returns-clause-none
returns-clause-none c = no_number (λ t r. ParsesUnsigned 64 10 t r × ExplainsUnsignedError 10 t r × HasUnsignedDigitsIfOk t r) _ c.get_one.result (λ t x g. g.0) (λ t e. c.get_one.ensures.value t (one_text-rows (found_of c.args.options.now) c.args.id.now ∙ e))

pub returns-clause-absent : goal.returns-clause-absent
returns-clause-absent c = λ e. c.get_one.ensures.none (one_text-rows (found_of c.args.options.now) c.args.id.now ∙ e)
