use Rattle.stab_sampler.proofs.Names.{◌≡◌, sym, ◌∙◌, ap, ◌++◌, length, replicate, false, length-replicate, with_additions, flipped, lane_bits, lane_additions}
use Rattle.stab_sampler.proofs.LaneRunLemmas.{length-added}
use Rattle.stab_sampler.proofs.flips.shots_of.Goals as goal

pub returns : goal.returns
returns g c = record {
  flipped = λ l lt is.
      let at = g.W.Word.at in
      let shot = c.args.shot.now in
      let records : c.as_slice-2.result.now ≡ shot.records.items = c.as_slice-2.ensures.value in
      let detectors : c.as_slice-3.result.now ≡ shot.detectors.items = c.as_slice-3.ensures.value in
      let observables : c.as_slice-4.result.now ≡ shot.observables.items = c.as_slice-4.ensures.value in
      let free : c.as_slice-5.result.now ≡ shot.free.items = c.as_slice-5.ensures.value in
      let sums = lane_additions at l c.args.lanes.sums.items in
      let totals : lane_bits at l c.in_ok-observables.observables.items ≡ with_additions sums (replicate c.args.count false) =
      c.in_ok-observables.ensures.value l lt ∙ ap (λ s. with_additions (lane_additions at l s) (replicate c.args.count false)) c.as_slice.ensures.value in
      record {
        records =
            c.flip_bits.ensures.value l lt (is.records ∙ ap length (sym records))
            ∙ ap (λ bits. flipped bits (lane_bits at l c.args.lanes.records.items)) records;
        free = (c.in_ok-extend_from_slice.ensures {u = tt}).items ∙ ap (λ bits. bits ++ c.as_slice-5.result.now) c.clear.ensures.items ∙ free;
        detectors =
            c.flip_bits-2.ensures.value l lt (is.detectors ∙ ap length (sym detectors))
            ∙ ap (λ bits. flipped bits (lane_bits at l c.args.lanes.detectors.items)) detectors;
        observables =
            c.flip_bits-3.ensures.value l lt
            (ap length totals ∙ length-added sums (replicate c.args.count false) ∙ length-replicate c.args.count false ∙ is.observables ∙ ap length (sym observables))
            ∙ (λ i. flipped (observables i) (totals i));
      };
}
