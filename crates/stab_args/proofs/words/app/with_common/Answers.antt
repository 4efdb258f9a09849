use Rattle.stab_args.proofs.words.app.with_common.Goals as goal

pub returns : goal.returns
returns c = record {
  app = λ app before.
      let seed = c.with_option-command.ensures.app _ _ before c.numbered.ensures.rule in
      let coins = c.with_option-command-2.ensures.app _ _ seed c.valued.ensures.rule in
      let coins_in = c.with_option-command-3.ensures.app _ _ coins c.valued-2.ensures.rule in
      c.with_files.ensures.app _ coins_in;
}
