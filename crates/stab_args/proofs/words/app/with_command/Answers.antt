use Rattle.stab_args.proofs.Names.{subst, IfOk, IfOk-weaker, IsApp}
use Rattle.stab_args.proofs.CommandLaws.{with_command}
use Rattle.stab_args.proofs.words.app.with_command.Goals as goal

pub returns : goal.returns
returns c = record {
  app = λ app inner before is.
      let program = subst (λ r. IfOk r (IsApp app)) c.in_ok-program.was before in
      let sub = subst (λ r. IfOk r (IsApp inner)) c.in_ok-command.was is in
      IfOk-weaker c.subcommand.result _ _ (λ command adds. with_command _ command c.in_ok-command.field-0 app inner adds sub program) c.subcommand.ensures;
}
