use Rattle.stab_tableau.proofs.Names.{◌≡◌, ◌∙◌, refl, ap, length, Z, Quarter, Signed, single, phased, times_phase, phased_product}
use Rattle.std.proofs.Common.{slice_set}
use Rattle.stab_tableau.proofs.MeasureLemmas.{position-opposed}
use Rattle.stab_tableau.proofs.collapse.write_multiplier.Goals as goal

pub multiply_times_i-requires-clause-anticommuting : goal.multiply_times_i-requires-clause-anticommuting
multiply_times_i-requires-clause-anticommuting c =
    let w_is : c.set.new.self ≡ single (length c.args.multiplier.now.letters) c.args.position Z =
    c.set.ensures.value ∙ ap (λ (s : Signed). record { negative = s.negative; letters = slice_set s.letters c.args.position Z }) c.clear.ensures.value in
    rw c.negate_if.ensures.value
    (position-opposed (length c.args.preimage.now.letters) c.args.preimage.now refl c.args.position c.requires.in_range c.requires.has_x
    c.args.coin c.set.new.self (length c.args.multiplier.now.letters) c.requires.same_length w_is)

pub returns-clause-multiplier : goal.returns-clause-multiplier
returns-clause-multiplier c =
    let w_is : c.set.new.self ≡ single (length c.args.multiplier.now.letters) c.args.position Z =
    c.set.ensures.value ∙ ap (λ (s : Signed). record { negative = s.negative; letters = slice_set s.letters c.args.position Z }) c.clear.ensures.value in
    c.multiply_times_i.ensures.value
    ∙ (λ i. times_phase Quarter (phased_product (phased (w_is i)) (phased (c.negate_if.ensures.value i))))
