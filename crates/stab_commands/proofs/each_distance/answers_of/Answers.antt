use Rattle.stab_commands.proofs.Names.{◌∙◌, [], ◌∷◌, length, sym, subst, ap, arith, length-append, IsDistanceOf}
use Rattle.stab_report.specs.Distances.{AreDistanceAnswers, for_observable}
use Rattle.stab_commands.proofs.EachLaws.{more_answers}
use Rattle.stab_commands.proofs.each_distance.answers_of.Goals as goal

pub observables-preserved : goal.observables-preserved
observables-preserved c =
    let options = c.args.options in
    let t = c.args.errors.now in
    let old = c.observables.answers.items in record {
      found = λ items are.
          let is = subst (λ k. IsDistanceOf (for_observable options k) items t c.in_ok-answer.answer) (omega (arith, c.observables.invariant.each)) (c.in_ok-answer.ensures.found items are) in
          subst (AreDistanceAnswers options items t 0) (sym c.in_ok-push.ensures.items) (more_answers options items t 0 old c.in_ok-answer.answer (c.observables.invariant.found items are) is);
      each = omega (arith, c.observables.invariant.each, ap length c.in_ok-push.ensures.items ∙ length-append old (c.in_ok-answer.answer ∷ []));
    }
