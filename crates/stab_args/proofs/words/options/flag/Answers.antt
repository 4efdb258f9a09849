use Rattle.stab_args.proofs.Names.{◌∙◌, found_of, one_text-rows}
use Rattle.stab_args.proofs.words.options.flag.Goals as goal

pub returns : goal.returns
returns c =
    let same = one_text-rows (found_of c.args.options.now) c.args.id.now in
    record { set = (λ e. c.get_flag.ensures.value (same ∙ e), λ e. c.get_flag.ensures.other (same ∙ e)) }
