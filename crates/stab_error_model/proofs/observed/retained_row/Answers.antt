use Rattle.stab_error_model.proofs.Names.{◌≡◌, ◌∙◌, sym, ap, subst, rules, filter_same, IsAscending, is_searched_number, retained_row}
use Rattle.stab_error_model.proofs.ObservedLemmas.{ascends-left}
use Rattle.stab_error_model.proofs.observed.retained_row.Goals as goal
use Rattle.stab_error_model.proofs.observed.retained_row.Goals.{After-retain}

numbers_are : (c : After-retain) → c.retain.new.self.items ≡ retained_row c.args.detectors c.args.observable c.args.row.now
numbers_are c = filter_same _ _ _ (λ x b f k. search rules) _ _ c.retain.ensures.filtered ∙ ap (retained_row c.args.detectors c.args.observable) c.in_ok-numbers.ensures.value

pub returns-clause-value : goal.returns-clause-value
returns-clause-value c = numbers_are c

pub returns-clause-ascending : goal.returns-clause-ascending
returns-clause-ascending c = subst IsAscending (sym (numbers_are c)) (ascends-left (is_searched_number c.args.detectors c.args.observable) 0 c.args.row.now c.requires.ascending)
