use Rattle.stab_args.proofs.Names.{refl, IfOk-weaker}
use Rattle.stab_args.proofs.CommandLaws.{with_arg_alias}
use Rattle.stab_args.proofs.words.app.deterministic_only.Goals as goal

pub returns : goal.returns
returns c = record { rule = IfOk-weaker c.alias.result _ _ (λ arg adds. with_arg_alias c.flag.result arg _ _ refl adds c.flag.ensures.rule) c.alias.ensures }
