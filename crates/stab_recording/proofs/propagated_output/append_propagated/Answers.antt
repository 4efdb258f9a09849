use Rattle.stab_recording.proofs.Names.{◌∙◌, ◌++◌, sym, ap, length, take, drop, take-length, flipped, flipped_additions, flipped-empty}
use Rattle.stab_recording.proofs.propagated_output.append_propagated.Goals as goal

pub returns : goal.returns
returns c =
    let records = c.between.ensures.value ∙ (λ i. drop c.args.before.records (take (length (c.records-2.ensures.value i)) (c.records.ensures.value i)))
    ∙ ap (drop c.args.before.records) (take-length c.args.propagation.now.flips.records) in
    let outcomes = c.between-2.ensures.value ∙ (λ i. drop c.args.before.free (take (length (c.outcomes-2.ensures.value i)) (c.outcomes.ensures.value i)))
    ∙ ap (drop c.args.before.free) (take-length c.args.propagation.now.flips.outcomes) in
    let detectors = c.between-3.ensures.value ∙ (λ i. drop c.args.before.detectors (take (length (c.detectors-2.ensures.value i)) (c.detectors.ensures.value i)))
    ∙ ap (drop c.args.before.detectors) (take-length c.args.propagation.now.flips.detectors) in
    let additions = c.between-4.ensures.value ∙ (λ i. drop c.args.before.additions (take (length (c.additions-2.ensures.value i)) (c.additions.ensures.value i)))
    ∙ ap (drop c.args.before.additions) (take-length c.args.propagation.now.flips.additions) in
    let old = c.args.outputs.now in
    record {
      value = λ i. record {
        records = (c.in_ok-append_flipped.ensures.value ∙ (λ j. old.records.items ++ flipped (c.as_slice.ensures.value j) (records j))) i;
        free =
            (c.in_ok-extend_from_slice.ensures.items
            ∙ (λ j. old.free.items ++ c.as_slice-2.ensures.value j)
            ∙ ap (λ bits. old.free.items ++ bits) (sym (flipped-empty c.args.part.now.free.items))) i;
        outcomes = (c.in_ok-append_flipped-2.ensures.value ∙ (λ j. old.outcomes.items ++ flipped (c.as_slice-3.ensures.value j) (outcomes j))) i;
        detectors = (c.in_ok-append_flipped-3.ensures.value ∙ (λ j. old.detectors.items ++ flipped (c.as_slice-4.ensures.value j) (detectors j))) i;
        additions = (c.in_ok-append_flipped_additions.ensures.value ∙ (λ j. old.additions.items ++ flipped_additions (c.as_slice-5.ensures.value j) (additions j))) i;
      };
    }
