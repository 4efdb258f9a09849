use Rattle.stab_error_model.proofs.Names.{◌++◌, true, sym, subst, step_shown, collapse, in_front, following, single_error_on, single_errors_on, each_letter, errors_at, letters_asked, wrong_product, AddsErrors, HasFrom, factor_errors, factor_single_errors, measured_errors, step_single_errors}
use Rattle.stab_error_model.proofs.ErrorListLemmas.{adds-same, letters-at}
use Rattle.stab_error_model.proofs.EverywhereLemmas.{measured-are, measured-at}
use Rattle.stab_error_model.proofs.everywhere.add_step.Goals as goal

pub returns-in_ok-add_after_two-in-Two : goal.returns-in_ok-add_after_two-in-Two
returns-in_ok-add_after_two-in-Two c =
    let t = c.args.number in
    record {
      adds = subst (λ s. AddsErrors (HasFrom c.args.row (step_single_errors t (step_shown s))) (errors_at c.args.letters t c.args.records (step_shown s)) c.args.errors.now.items c.add_after_two.new.errors.items)
          (sym c.in-Two.is) c.in_ok-add_after_two-in-Two.ensures.adds;
    }

pub returns-in_ok-add_letters-in-One : goal.returns-in_ok-add_letters-in-One
returns-in_ok-add_letters-in-One c =
    let t = c.args.number in
    let m = c.args.records in
    let x = c.in-One in
    let old = c.args.errors.now.items in
    let new = c.add_letters.new.errors.items in
    let site = following x.qubit in
    record {
      adds = subst (λ s. AddsErrors (HasFrom c.args.row (step_single_errors t (step_shown s))) (errors_at c.args.letters t m (step_shown s)) old new) (sym x.is)
          (subst (λ ls. AddsErrors (HasFrom c.args.row (single_errors_on t site)) (each_letter ls (single_error_on t site)) old new) c.letters_asked-asked.ensures.value
          (letters-at c.letters_asked-asked.result.now c.following.result c.args.row t site old new c.following.ensures.row c.following.ensures.value c.in_ok-add_letters-in-One.ensures.adds));
    }

pub returns-in_ok-add_letters-in-Controlled : goal.returns-in_ok-add_letters-in-Controlled
returns-in_ok-add_letters-in-Controlled c =
    let t = c.args.number in
    let m = c.args.records in
    let x = c.in-Controlled in
    let old = c.args.errors.now.items in
    let new = c.add_letters-in-Controlled.new.errors.items in
    let site = following x.qubit in
    record {
      adds = subst (λ s. AddsErrors (HasFrom c.args.row (step_single_errors t (step_shown s))) (errors_at c.args.letters t m (step_shown s)) old new) (sym x.is)
          (subst (λ ls. AddsErrors (HasFrom c.args.row (single_errors_on t site)) (each_letter ls (single_error_on t site)) old new) c.letters_asked-asked.ensures.value
          (letters-at c.letters_asked-asked.result.now c.following-in-Controlled.result c.args.row t site old new c.following-in-Controlled.ensures.row c.following-in-Controlled.ensures.value c.in_ok-add_letters-in-Controlled.ensures.adds));
    }

pub returns-in_ok-add_product-in-Product : goal.returns-in_ok-add_product-in-Product
returns-in_ok-add_product-in-Product c =
    let t = c.args.number in
    let factors = c.in-Product.factors.now in
    let new = c.add_product.new.errors.items in
    record {
      adds = subst (λ s. AddsErrors (HasFrom c.args.row (step_single_errors t (step_shown s))) (errors_at c.args.letters t c.args.records (step_shown s)) c.args.errors.now.items new)
          (sym c.in-Product.is)
          (subst (λ ls. AddsErrors (HasFrom c.args.row (factor_single_errors t factors)) (factor_errors ls t factors ++ wrong_product t c.args.records factors) c.args.errors.now.items new) c.letters_asked-asked.ensures.value
          c.in_ok-add_product-in-Product.ensures.adds);
    }

pub returns-in_ok-add_measured-in-Collapse : goal.returns-in_ok-add_measured-in-Collapse
returns-in_ok-add_measured-in-Collapse c =
    let t = c.args.number in
    let m = c.args.records in
    let x = c.in-Collapse in
    let old = c.args.errors.now.items in
    let new = c.add_measured.new.errors.items in
    record {
      adds = subst (λ s. AddsErrors (HasFrom c.args.row (step_single_errors t (step_shown s))) (errors_at c.args.letters t m (step_shown s)) old new) (sym x.is)
          (subst (λ b. AddsErrors (HasFrom c.args.row (step_single_errors t (collapse x.letter x.qubit b x.inverted x.reset))) (errors_at c.args.letters t m (collapse x.letter x.qubit b x.inverted x.reset)) old new)
          (sym c.if-recorded.true)
          (adds-same (HasFrom c.args.row (single_errors_on t (in_front x.qubit) ++ single_errors_on t (following x.qubit)))
          (measured_errors (letters_asked c.args.letters) x.letter (single_error_on t (in_front x.qubit)) (single_error_on t (following x.qubit)) x.reset m)
          (errors_at c.args.letters t m (collapse x.letter x.qubit true x.inverted x.reset)) old new (measured-are c.args.letters t m x.qubit x.letter x.inverted x.reset)
          (subst (λ ls. AddsErrors (HasFrom c.args.row (single_errors_on t (in_front x.qubit) ++ single_errors_on t (following x.qubit)))
          (measured_errors ls x.letter (single_error_on t (in_front x.qubit)) (single_error_on t (following x.qubit)) x.reset m) old new) c.letters_asked-asked.ensures.value
          (measured-at c.letters_asked-asked.result.now c.in_front-front.result c.following-following.result c.args.row t m x.qubit x.letter x.reset old new
          c.in_front-front.ensures.row c.following-following.ensures.row c.in_front-front.ensures.value c.following-following.ensures.value c.in_ok-add_measured-in-Collapse.ensures.adds))));
    }

pub returns-in_ok-add_letters-in-Collapse : goal.returns-in_ok-add_letters-in-Collapse
returns-in_ok-add_letters-in-Collapse c =
    let t = c.args.number in
    let m = c.args.records in
    let x = c.in-Collapse in
    let old = c.args.errors.now.items in
    let new = c.add_letters-else-recorded.new.errors.items in
    let site = following x.qubit in
    record {
      adds = subst (λ s. AddsErrors (HasFrom c.args.row (step_single_errors t (step_shown s))) (errors_at c.args.letters t m (step_shown s)) old new) (sym x.is)
          (subst (λ b. AddsErrors (HasFrom c.args.row (step_single_errors t (collapse x.letter x.qubit b x.inverted x.reset))) (errors_at c.args.letters t m (collapse x.letter x.qubit b x.inverted x.reset)) old new)
          (sym c.if-recorded.false)
          (subst (λ ls. AddsErrors (HasFrom c.args.row (single_errors_on t site)) (each_letter ls (single_error_on t site)) old new) c.letters_asked-asked.ensures.value
          (letters-at c.letters_asked-asked.result.now c.following-else-recorded.result c.args.row t site old new c.following-else-recorded.ensures.row c.following-else-recorded.ensures.value
          c.in_ok-add_letters-in-Collapse.ensures.adds)));
    }
