use Rattle.stab_ways.proofs.Names.{◌∙◌, sym, ap, length, map, one, controlled_step, detector, lookbacks_of, steps_shown, steps_leave}
use Rattle.stab_ways.proofs.ResetLemmas.{gates-leave, pairs-leave, detectors-leave, leave-all}
use Rattle.stab_ways.proofs.resets.leave_out_reset.Goals as goal

pub returns-in-Gates-clause-value : goal.returns-in-Gates-clause-value
returns-in-Gates-clause-value c =
    let n = length c.args.propagation.now.letters in
    ap (λ s. record c.args.propagation.now { letters = s })
    (sym (ap (λ s. steps_leave n (steps_shown s) c.args.propagation.now.letters) c.in-Gates.is ∙ leave-all n (map (one c.in-Gates.field-0) c.in-Gates.field-1.now) (gates-leave n c.in-Gates.field-0 c.in-Gates.field-1.now) c.args.propagation.now.letters))

pub returns-in-Pairs-clause-value : goal.returns-in-Pairs-clause-value
returns-in-Pairs-clause-value c =
    let n = length c.args.propagation.now.letters in
    ap (λ s. record c.args.propagation.now { letters = s })
    (sym (ap (λ s. steps_leave n (steps_shown s) c.args.propagation.now.letters) c.in-Pairs.is ∙ leave-all n (map (controlled_step c.in-Pairs.field-0) c.in-Pairs.field-1.now) (pairs-leave n c.in-Pairs.field-0 c.in-Pairs.field-1.now) c.args.propagation.now.letters))

pub returns-in-Detectors-clause-value : goal.returns-in-Detectors-clause-value
returns-in-Detectors-clause-value c =
    let n = length c.args.propagation.now.letters in
    ap (λ s. record c.args.propagation.now { letters = s })
    (sym (ap (λ s. steps_leave n (steps_shown s) c.args.propagation.now.letters) c.in-Detectors.is ∙ leave-all n (map detector (lookbacks_of c.in-Detectors.field-0)) (detectors-leave n (lookbacks_of c.in-Detectors.field-0)) c.args.propagation.now.letters))
