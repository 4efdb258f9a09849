use Rattle.stab_error_model.proofs.Names.{◌∙◌, ◌+◌, ◌++◌, sym, ap, take, append_assoc, arith, listed, before, done, depth_at}
use Rattle.stab_error_model.specs.Doubts.{doubts_from}
use Rattle.stab_error_model.proofs.DoubtLemmas.{doubts-more, summed}
use Rattle.stab_error_model.proofs.MarkLemmas.{steps-more, steps-within}
use Rattle.stab_error_model.proofs.doubts.+doubting.Goals as goal

pub doubt_items-doubt_item-requires : goal.doubt_items-doubt_item-requires
doubt_items-doubt_item-requires t c =
    let xs = c.args.items.now in
    let k = c.items.item-index in
    let x = c.item-item.result in (
      omega (arith, c.decreases, depth_at xs k x c.items-test.true c.item-item.is),
      omega (arith, c.requires.few, c.items.invariant.site, steps-more xs k x c.items-test.true c.item-item.is, steps-within xs (k + 1)),
    )

pub doubt_items-overflow_add-site : goal.doubt_items-overflow_add-site
doubt_items-overflow_add-site t c =
    let xs = c.args.items.now in
    let k = c.items.item-index in
    let x = c.item-item.result in
    let more = steps-more xs k x c.items-test.true c.item-item.is in
    let within = steps-within xs (k + 1) in
    omega (arith, c.requires.few, c.items.invariant.site, more, within, summed x c.summary.result c.summary.ensures.value (omega (arith, c.requires.few, more, within)))

pub doubt_items-items-preserved : goal.doubt_items-items-preserved
doubt_items-items-preserved t c =
    let xs = c.args.items.now in
    let k = c.items.item-index in
    let x = c.item-item.result in
    let start = c.args.doubts.now.items in
    let more = steps-more xs k x c.items-test.true c.item-item.is in
    let within = steps-within xs (k + 1) in
    record {
      site = omega (arith, c.items.invariant.site, more, summed x c.summary.result c.summary.ensures.value (omega (arith, c.requires.few, more, within)));
      doubts = c.in_ok-doubt_item.ensures.doubts
          ∙ ap (λ ds. ds ++ doubts_from c.items.site (before x done)) c.items.invariant.doubts
          ∙ append_assoc start (doubts_from c.args.step (listed (take k xs))) (doubts_from c.items.site (before x done))
          ∙ ap (λ p. start ++ (doubts_from c.args.step (listed (take k xs)) ++ doubts_from p (before x done))) c.items.invariant.site
          ∙ ap (λ ds. start ++ ds) (sym (doubts-more c.args.step xs k x c.items-test.true c.item-item.is));
    }
