use Rattle.stab_args.proofs.words.app.with_files.Goals as goal

pub returns : goal.returns
returns c = record { app = λ app before. c.with_option.ensures.app _ _ (c.with_option-command.ensures.app _ _ before c.valued.ensures.rule) c.valued-2.ensures.rule }
