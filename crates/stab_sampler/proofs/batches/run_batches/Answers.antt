use Rattle.stab_sampler.proofs.Names.{arith, ◌∙◌, ◌+◌, ◌*◌, ◌<◌, ap, subst, circuit_items, shot_coins, wide_bit, IsReference, AreRuns}
use Rattle.stab_sampler.specs.declared.wide.Wide.{Wide}
use Rattle.stab_sampler.proofs.BatchLemmas.{lane-coins}
use Rattle.stab_sampler.proofs.RecordedLemmas.{if-copied}
use Rattle.stab_sampler.proofs.batches.run_batches.Goals as goal

pub run_checked_batch-requires-clause-reference : goal.run_checked_batch-requires-clause-reference
run_checked_batch-requires-clause-reference g c =
    if-copied (λ r. IsReference c.args.n (circuit_items c.args.circuit.now) r) c.as_ref-reference.result c.in_ok-found.found
    c.as_ref-reference.ensures.value c.in_ok-found.ensures.reference

pub loop-made-preserved : goal.loop-made-preserved
loop-made-preserved g c =
    let so_far = c.loop-made.invariant in
    let items = circuit_items c.args.circuit.now in
    record {
      within = omega (arith, c.min-batch.ensures, so_far.within, c.loop-made-test.true);
      number = c.in_ok-push_lanes.ensures.number ∙ ap (λ k. k + c.min-batch.result) so_far.number;
      shots = c.in_ok-push_lanes.ensures.shots c.args.n (shot_coins c.args.seed c.args.first) items so_far.shots
          (λ l less.
          let within : l < 64 * g.row.N = omega (arith, less, c.min-batch.ensures) in
          subst (λ coins. AreRuns (λ (w : Wide g.row.N). wide_bit w.words) l c.args.n coins items c.run_checked_batch.new.shots)
          (lane-coins c.args.seed c.args.first c.loop-made.made _ l _ so_far.number (λ t. c.of_seed-coins.ensures.value l t less))
          (c.in_ok-run_checked_batch.ensures.runs l within));
    }
