use Rattle.stab_report.proofs.Names.{◌∙◌, ◌%◌, [], ◌∷◌, sym, ap, ap₂, slice_get, in_front, following}
use Rattle.stab_report.proofs.SingleErrorSiteLaws.{site_past, site_of_factor}
use Rattle.stab_report.proofs.single_error_sites.factor_site.Goals as goal

pub returns-then-factor-factors : goal.returns-then-factor-factors
returns-then-factor-factors c = record { value = sym (site_past c.args.factors.now c.args.number c.if-factor-factors.true) }

pub returns : goal.returns
returns c =
    let factors = c.args.factors.now in
    let number = c.args.number in
    let factor = c.index-factors-factor.result in
    let sides = ap₂ (λ a b. slice_get (a ∷ b ∷ []) (number % 2)) (c.in_front.ensures.value ∙ ap in_front c.number-qubit.ensures.value) (c.following.ensures.value ∙ ap following c.number-qubit.ensures.value) in
    record { value = c.two_sites.ensures.value ∙ sides ∙ sym (site_of_factor factors number factor c.if-factor-factors.false) }
