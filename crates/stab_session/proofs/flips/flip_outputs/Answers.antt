use Rattle.stab_session.proofs.Names.{sym, ap, ◌∙◌, ◌++◌, take, drop, take-append-drop, flipped, flipped_additions, flipped-empty}
use Rattle.stab_session.proofs.flips.flip_outputs.Goals as goal

pub returns : goal.returns
returns c =
    let old = c.args.outputs.now in
    let from = c.args.from in
    record {
      value = λ i. record {
        records =
            (c.flip_from.ensures.value
            ∙ ap (λ flips. take from.records old.records.items ++ flipped (drop from.records old.records.items) flips) c.records.ensures.value) i;
        free = (sym (take-append-drop from.free old.free.items) ∙ ap (λ bits. take from.free old.free.items ++ bits) (sym (flipped-empty (drop from.free old.free.items)))) i;
        outcomes =
            (c.flip_from-2.ensures.value
            ∙ ap (λ flips. take from.free old.outcomes.items ++ flipped (drop from.free old.outcomes.items) flips) c.outcomes.ensures.value) i;
        detectors =
            (c.flip_from-3.ensures.value
            ∙ ap (λ flips. take from.detectors old.detectors.items ++ flipped (drop from.detectors old.detectors.items) flips) c.detectors.ensures.value) i;
        additions =
            (c.flip_additions_from.ensures.value
            ∙ ap (λ flips. take from.additions old.additions.items ++ flipped_additions (drop from.additions old.additions.items) flips) c.additions.ensures.value) i;
      };
    }
