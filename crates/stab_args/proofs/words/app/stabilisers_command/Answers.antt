use Rattle.stab_args.proofs.Names.{refl, IfOk-weaker}
use Rattle.stab_args.proofs.CommandLaws.{with_alias}
use Rattle.stab_args.proofs.words.app.stabilisers_command.Goals as goal

pub returns : goal.returns
returns c = record {
  app = c.with_common.ensures.app _ (IfOk-weaker c.alias.result _ _ (λ command adds. with_alias _ command _ _ refl adds c.named_command-command.ensures.app) c.alias.ensures);
}
