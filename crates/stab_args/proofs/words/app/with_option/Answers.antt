use Rattle.stab_args.proofs.Names.{subst, IfOk, IfOk-weaker, IsApp}
use Rattle.stab_args.proofs.CommandLaws.{with_option}
use Rattle.stab_args.proofs.words.app.with_option.Goals as goal

pub returns : goal.returns
returns c = record {
  app = λ app rule before is.
      IfOk-weaker c.arg.result _ _ (λ command adds. with_option _ command c.args.option app rule adds is (subst (λ r. IfOk r (IsApp app)) c.in_ok-command.was before)) c.arg.ensures;
}
