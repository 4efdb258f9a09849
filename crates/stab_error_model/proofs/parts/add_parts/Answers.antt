use Rattle.stab_error_model.proofs.Names.{sym, subst, single_error_parts, parts_of_error, error_shown, single_error_shown, AddsErrors, ErrorStands, Stands}
use Rattle.stab_error_model.proofs.ErrorListLemmas.{adds-more, adds-weaker}
use Rattle.stab_error_model.proofs.parts.add_parts.Goals as goal

pub returns-in_ok-add_letter_parts-in-Letter : goal.returns-in_ok-add_letter_parts-in-Letter
returns-in_ok-add_letter_parts-in-Letter c = record {
  adds = subst (λ e. AddsErrors (λ single_errors. ErrorStands single_errors e) (parts_of_error (error_shown e)) c.args.errors.now.items c.add_letter_parts.new.errors.items) (sym c.in-Letter.is)
      c.in_ok-add_letter_parts-in-Letter.ensures.adds;
}

pub returns-in_ok-add_letter_parts-in-Letters-2 : goal.returns-in_ok-add_letter_parts-in-Letters-2
returns-in_ok-add_letter_parts-in-Letters-2 c =
    let first = c.in-Letters.first in
    let second = c.in-Letters.second in
    let old = c.args.errors.now.items in
    let between = c.add_letter_parts-in-Letters.new.errors.items in
    let new = c.add_letter_parts-in-Letters-2.new.errors.items in record {
      adds = subst (λ e. AddsErrors (λ single_errors. ErrorStands single_errors e) (parts_of_error (error_shown e)) old new) (sym c.in-Letters.is)
          (adds-more (λ single_errors. Stands first.site single_errors × Stands second.site single_errors) (single_error_parts (single_error_shown first)) (single_error_parts (single_error_shown second)) old between new
          (adds-weaker (Stands first.site) (λ single_errors. Stands first.site single_errors × Stands second.site single_errors) (single_error_parts (single_error_shown first)) old between (λ single_errors both. both.0)
          c.in_ok-add_letter_parts-in-Letters.ensures.adds)
          (adds-weaker (Stands second.site) (λ single_errors. Stands first.site single_errors × Stands second.site single_errors) (single_error_parts (single_error_shown second)) between new (λ single_errors both. both.1)
          c.in_ok-add_letter_parts-in-Letters-2.ensures.adds));
    }
