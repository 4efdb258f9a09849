use Rattle.stab_error_model.proofs.Names.{ErrorStands}
use Rattle.stab_error_model.proofs.ErrorListLemmas.{adds-one}
use Rattle.stab_error_model.proofs.error_lists.add_error.Goals as goal

pub returns : goal.returns
returns c = record { adds = adds-one (λ single_errors. ErrorStands single_errors c.args.error) c.args.error c.args.errors.now.items c.push.new.self.items c.in_ok-push.ensures.items (λ single_errors is. is) }
