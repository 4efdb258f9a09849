use Rattle.stab_ways.proofs.Names.{◌≡◌, ◌∙◌, ◌+◌, ◌-◌, ◌*◌, inr, refl, sym, ap, subst, All, arith, length, append-nil, StepFits, listed, repeat, before, done, nested_in, depth_at, part_of, unroll, rounds, carried_parts, walk_shown}
use Rattle.stab_ways.proofs.ItemLemmas.{block-steps, item-fits, item-steps, steps-within, walked-item, walked-round, body-steps, first-round, round-fits, round-steps, times-more, near-enough, walked-rounds}
use Rattle.stab_items.specs.inner.Parts.{IsPart}
use Rattle.stab_ways.specs.inner.Walks.{walked}
use Rattle.stab_ways.proofs.FoldLemmas.{came-further, two-parts}
use Rattle.stab_ways.proofs.rounds.+walking.Goals as goal

pub over_item-over_rounds-requires : goal.over_item-over_rounds-requires
over_item-over_rounds-requires t c =
    let body = listed c.in-Block.body.now in
    let is : c.args.item.now ≡ repeat c.in-Block.count c.in-Block.tag.now body = c.part.ensures.value ∙ ap part_of c.in-Block.is in (
      omega (arith, c.decreases, ap nested_in is),
      (
        c.requires.walks,
        (
          subst (All (StepFits (length c.args.string.now.letters)))
              (ap (λ x. unroll (before x done)) is ∙ append-nil (rounds c.in-Block.count (unroll body)) ∙ ap (λ k. rounds k (unroll body)) (sym c.number.ensures.value)) c.requires.fits,
          (
            near-enough c.in-Block.stored body (subst IsPart c.in-Block.is c.part.ensures.stored).0,
            omega (arith, c.requires.few, ap (λ x. length (unroll (before x done))) is, block-steps c.in-Block.count c.in-Block.tag.now body, ap (λ n. n * length (unroll body)) c.number.ensures.value),
          ),
        ),
      ),
    )

pub over_items-over_item-requires : goal.over_items-over_item-requires
over_items-over_item-requires t c =
    let n = length c.args.string.now.letters in
    let xs = c.args.items.now in
    let k = c.items.item-index in
    let x = c.item-item.result in (
      omega (arith, c.decreases, depth_at xs k x c.items-test.true c.item-item.is),
      (
        c.items.invariant.walks,
        (
          item-fits n xs k x c.items-test.true c.item-item.is c.requires.fits,
          omega (
            arith,
            c.requires.few,
            item-steps n k c.args.string.now.letters xs (walk_shown c.args.walk.now) (walk_shown c.items.walk) c.items.invariant.over,
            steps-within xs k x c.items-test.true c.item-item.is,
          ),
        ),
      ),
    )

pub over_items-items-preserved : goal.over_items-items-preserved
over_items-items-preserved t c = record {
  walks = c.in_ok-over_item.ensures.walks;
  over = walked-item (length c.args.string.now.letters) c.items.item-index c.args.string.now.letters c.args.items.now c.item-item.result (walk_shown c.args.walk.now)
      (walk_shown c.items.walk) (walk_shown c.over_item.new.walk) c.items-test.true c.item-item.is c.items.invariant.over c.in_ok-over_item.ensures.over;
}

pub over_rounds-over_items-requires : goal.over_rounds-over_items-requires
over_rounds-over_items-requires t c =
    let n = length c.args.string.now.letters in
    let body = listed c.args.body.now in (
      omega (arith, c.decreases),
      (
        c.rounds.invariant.walks,
        (
          round-fits n c.args.count (unroll body) (omega (arith, c.rounds-test.true)) c.requires.fits,
          omega (
            arith,
            c.requires.few,
            round-steps n c.rounds.done c.args.string.now.letters body (walk_shown c.args.walk.now) (walk_shown c.rounds.walk) c.rounds.invariant.over,
            times-more c.rounds.done c.args.count (length (unroll body)) c.rounds-test.true,
          ),
        ),
      ),
    )

pub over_rounds-returns-then-walk-steps-clause-over : goal.over_rounds-returns-then-walk-steps-clause-over
over_rounds-returns-then-walk-steps-clause-over t c =
    first-round (length c.args.string.now.letters) c.rounds.done c.args.count (length (unroll (listed c.args.body.now))) c.args.string.now.letters (listed c.args.body.now)
    (walk_shown c.args.walk.now) (walk_shown c.rounds.walk) (walk_shown c.over_items.new.walk) c.rounds.invariant.some c.rounds-test.true refl c.rounds.invariant.over
    c.in_ok-over_items.ensures.over (omega (arith, c.if-walk-steps.true))

pub over_rounds-fold_rounds-requires-clause-came : goal.over_rounds-fold_rounds-requires-clause-came
over_rounds-fold_rounds-requires-clause-came t c =
    let n = length c.args.string.now.letters in
    let string = c.args.string.now.letters in
    let parts = carried_parts (listed c.args.body.now) in
    came-further n string parts c.rounds.checkpoint c.rounds.done 1 (c.rounds.done + 1) (walk_shown c.rounds.walk) (walk_shown c.over_items.new.walk) refl c.rounds.invariant.came
    (c.in_ok-over_items.ensures.over ∙ ap (λ ps. walked n string ps (walk_shown c.rounds.walk)) (sym (append-nil parts)))

pub over_rounds-fold_rounds-requires-clause-few : goal.over_rounds-fold_rounds-requires-clause-few
over_rounds-fold_rounds-requires-clause-few t c =
    let n = length c.args.string.now.letters in
    let string = c.args.string.now.letters in
    let body = listed c.args.body.now in
    let start = walk_shown c.args.walk.now in
    let mid = walk_shown c.over_items.new.walk in
    let more = c.rounds.done + 1 in
    let whole : more + (c.args.count - more) ≡ c.args.count = omega (arith, c.rounds-test.true) in
    omega (
      arith,
      c.requires.few,
      round-steps n more string body start mid (walked-round n c.rounds.done string body start (walk_shown c.rounds.walk) mid c.rounds.invariant.over c.in_ok-over_items.ensures.over),
      two-parts more (c.args.count - more) (length (unroll body)),
      ap (λ m. m * length (unroll body)) whole,
    )

pub over_rounds-rounds-preserved : goal.over_rounds-rounds-preserved
over_rounds-rounds-preserved t c =
    let n = length c.args.string.now.letters in
    let string = c.args.string.now.letters in
    let body = listed c.args.body.now in
    let start = walk_shown c.args.walk.now in
    let mid = walk_shown c.over_items.new.walk in
    let one = walked-round n c.rounds.done string body start (walk_shown c.rounds.walk) mid c.rounds.invariant.over c.in_ok-over_items.ensures.over in
    record {
      walks = c.in_ok-done.ensures.walks;
      within = c.in_ok-done.ensures.within.1;
      over = walked-rounds n (c.rounds.done + 1) (c.in_ok-done.done - (c.rounds.done + 1)) c.in_ok-done.done string (carried_parts body) start mid (walk_shown c.fold_rounds.new.walk)
          (omega (arith, c.in_ok-done.ensures.within.0)) one c.in_ok-done.ensures.over;
      came = c.in_ok-done.ensures.came;
      some = inr (omega (arith, c.if-walk-steps.false, body-steps n string body (walk_shown c.rounds.walk) mid c.in_ok-over_items.ensures.over));
    }
