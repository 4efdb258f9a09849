use Rattle.stab_args.proofs.Names.{ap, ◌∙◌, app_of_fields}
use Rattle.stab_args.proofs.words.app.named_command.Goals as goal

pub returns : goal.returns
returns c = record {
  app = (
    ap app_of_fields c.after_help.ensures ∙ (ap app_of_fields c.about.ensures ∙ c.new.ensures.app),
    ap (λ fields. fields.has_globals) c.after_help.ensures ∙ (ap (λ fields. fields.has_globals) c.about.ensures ∙ c.new.ensures.local),
  );
}
