use Rattle.stab_script.proofs.Names.{length, ap, ◌∙◌, Signed, length_identity}
use Rattle.stab_script.proofs.SignLaws.{within_given}
use Rattle.stab_script.proofs.signs.string_of_factors_within.Goals as goal

pub returns-clause-gives : goal.returns-clause-gives
returns-clause-gives c =
    within_given c.args.n (length c.in_ok-string.string.letters) c.args.factors.now c.is_inverted.result c.write_product.new.string c.negate_if.new.self c.requires.within
    (ap (λ (p : Signed). length p.letters) c.in_ok-string.ensures.ok ∙ length_identity c.args.n) c.is_inverted.ensures.value c.write_product.ensures.value c.negate_if.ensures.value
