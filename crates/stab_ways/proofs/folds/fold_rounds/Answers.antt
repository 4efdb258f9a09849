use Rattle.stab_ways.proofs.Names.{◌+◌, ◌-◌, refl, subst, arith, length, listed, unroll, carried_parts, walk_shown, IsWalkOn}
use Rattle.stab_ways.proofs.ItemLemmas.{round-steps, walked-rounds}
use Rattle.stab_ways.proofs.FoldLemmas.{steps-since, parts-of-rounds, fewer-steps, came-since, came-again, came-once-more}
use Rattle.stab_ways.proofs.folds.fold_rounds.Goals as goal

pub has_repeat-requires-clause-steps : goal.has_repeat-requires-clause-steps
has_repeat-requires-clause-steps c =
    omega (
      arith,
      steps-since (length c.args.string.now.letters) c.args.string.now.letters (listed c.args.body.now) c.again.checkpoint c.again.now (walk_shown c.again.walk) c.again.invariant.came,
    )

pub has_repeat-requires-clause-few : goal.has_repeat-requires-clause-few
has_repeat-requires-clause-few c =
    let n = length c.args.string.now.letters in
    let body = listed c.args.body.now in
    omega (
      arith,
      c.requires.few,
      round-steps n (c.again.now - c.args.done) c.args.string.now.letters body (walk_shown c.args.walk.now) (walk_shown c.again.walk) c.again.invariant.over,
      parts-of-rounds c.args.done c.again.now c.args.count (length (unroll body)) c.again.invariant.within.0 c.again.invariant.within.1,
    )

pub pass_once_more-requires-clause-since : goal.pass_once_more-requires-clause-since
pass_once_more-requires-clause-since c =
    came-since (length c.args.string.now.letters) c.args.window c.args.string.now.letters (listed c.args.body.now) c.again.checkpoint c.again.now (walk_shown c.again.walk)
    c.requires.near c.again.invariant.came (c.again-test.ensures.again refl)

pub pass_once_more-requires-clause-few : goal.pass_once_more-requires-clause-few
pass_once_more-requires-clause-few c =
    let n = length c.args.string.now.letters in
    let body = listed c.args.body.now in
    omega (
      arith,
      c.requires.few,
      steps-since n c.args.string.now.letters body c.again.checkpoint c.again.now (walk_shown c.again.walk) c.again.invariant.came,
      round-steps n (c.again.now - c.args.done) c.args.string.now.letters body (walk_shown c.args.walk.now) (walk_shown c.again.walk) c.again.invariant.over,
      parts-of-rounds c.args.done c.again.now c.args.count (length (unroll body)) c.again.invariant.within.0 c.again.invariant.within.1,
      fewer-steps (c.again.now - c.again.checkpoint.done) (c.args.count - c.again.now) (length (unroll body)) (c.again-test.ensures.room refl),
    )

pub again-preserved : goal.again-preserved
again-preserved c =
    let n = length c.args.string.now.letters in
    let string = c.args.string.now.letters in
    let parts = carried_parts (listed c.args.body.now) in
    let old = walk_shown c.again.walk in
    let new = walk_shown c.pass_once_more.new.walk in
    let again =
    came-again n c.args.window string (listed c.args.body.now) c.again.checkpoint c.again.now old c.requires.near c.again.invariant.came
    (c.again-test.ensures.again refl) new c.in_ok-pass_once_more.ensures.again in
    let went =
    came-once-more n string parts c.again.checkpoint c.pass_once_more.new.checkpoint c.again.now old new c.again.invariant.came again c.again.invariant.later
    c.in_ok-pass_once_more.ensures.preserved in
    let room = c.again-test.ensures.room refl in
    record {
      walks = subst (λ k. IsWalkOn k c.pass_once_more.new.walk) c.again.invariant.walks.size c.in_ok-pass_once_more.ensures.walks;
      within = (omega (arith, c.again.invariant.within.0), omega (arith, c.again.invariant.within.1, room));
      later = went.0;
      over = walked-rounds n (c.again.now - c.args.done) (c.again.now - c.again.checkpoint.done) ((c.again.now + (c.again.now - c.again.checkpoint.done)) - c.args.done) string parts
          (walk_shown c.args.walk.now) old new (omega (arith, c.again.invariant.within.0)) c.again.invariant.over again;
      came = went.1;
    }
