use Rattle.stab_recording.proofs.Names.{suc, ◌++◌, sym, ◌∙◌, ap, length, take, drop, replicate, set, get_or, arith, length-replicate, I, Signed, mixed-set}
use Rattle.stab_recording.proofs.rest_of_run.string_of.Goals as goal

pub loop-qubit-preserved : goal.loop-qubit-preserved
loop-qubit-preserved c =
    let put = c.set.ensures.value in
    let letters = c.args.letters.now in
    let qubit = c.loop-qubit.qubit in
    record {
      positive = ap (λ (p : Signed). p.negative) put ∙ c.loop-qubit.invariant.positive;
      letters =
          ap (λ (p : Signed). p.letters) put
          ∙ ap (λ l. set l qubit (get_or letters qubit I)) c.loop-qubit.invariant.letters
          ∙ mixed-set qubit letters (replicate (length letters) I) (sym (length-replicate (length letters) I)) (omega (arith, length-replicate (length letters) I, c.loop-qubit-test.true))
          ∙ ap (λ k. take k letters ++ drop k (replicate (length letters) I)) {x = suc qubit} (omega arith);
    }
