use Rattle.stab_run.proofs.Names.{◌<◌, refl, ◌∙◌, ap, length, [], ◌∷◌, ◌++◌, arith, get_or_default, stabilises, detector, lookbacks_of, parity, program_state, output_of}
use Rattle.stab_run.proofs.RunLemmas.{run-detector}
use Rattle.stab_run.proofs.TargetLemmas.{run-target, run-targets}
use Rattle.stab_run.proofs.steps.take_parities.Goals as goal

pub loop-position-preserved : goal.loop-position-preserved
loop-position-preserved c =
    let inv = c.loop-position.invariant in
    let now = output_of c.loop-position.outputs in
    let all = lookbacks_of c.args.detectors in
    let lt : c.loop-position.position < length all = omega (arith, c.loop-position-test.true, c.len-position-end.ensures.value) in
    let bits =
    (c.in_ok-push.ensures {u = tt}).items
    ∙ ap (λ b. now.detectors ++ b ∷ []) (c.parity-bit.ensures.value ∙ ap (λ r. parity r c.get.result.now) c.as_slice.ensures.value) in
    record {
      free = inv.free;
      run = λ tableau coins.
          run-target tableau.qubits tableau.qubits coins coins detector all c.loop-position.position c.get.result.now
          (program_state tableau (output_of c.args.outputs.now)) (program_state tableau now) _
          lt (c.get.ensures.value ∙ get_or_default all c.loop-position.position [] c.get.result.now lt) refl refl (inv.run tableau coins)
          (run-detector tableau.qubits coins c.get.result.now (stabilises tableau) now _ refl refl refl bits refl);
    }

pub returns-clause-run : goal.returns-clause-run
returns-clause-run c = λ tableau coins.
    run-targets tableau.qubits coins detector (lookbacks_of c.args.detectors) c.loop-position.position
    (program_state tableau (output_of c.args.outputs.now)) (program_state tableau (output_of c.loop-position.outputs))
    (omega (arith, c.loop-position-test.false, c.len-position-end.ensures.value)) (c.loop-position.invariant.run tableau coins)
