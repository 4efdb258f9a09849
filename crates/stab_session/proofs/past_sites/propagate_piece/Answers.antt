use Rattle.stab_session.proofs.Names.{◌+◌, ◌-◌, ◌∷◌, [], ◌∙◌, ap, length, take, drop, arith, drop-drop, length-append, length-drop, length-take, coins-steps}
use Rattle.stab_recording.proofs.RestPropagatedLemmas.{may-later}
use Rattle.stab_session.proofs.PastSiteLemmas.{piece-on, checkpoint-on}
use Rattle.stab_session.proofs.past_sites.propagate_piece.Goals as goal

pub loop-checkpoint-preserved : goal.loop-checkpoint-preserved
loop-checkpoint-preserved c =
    let inv = c.loop-checkpoint.invariant in
    let site = c.in-Some.ensures.some in
    let went = c.in_ok-propagate_exactly.ensures in
    let gave = went.passed c.if-not-branch.false in
    let gone = c.loop-checkpoint.gone in
    let following = c.in-Some.following in
    let left = c.loop-checkpoint.cursor.left in
    record {
      within = site.1;
      all = went.all ∙ inv.all;
      left =
          gave.left
          ∙ ap (drop (following - gone)) inv.left
          ∙ drop-drop (following - gone) gone c.args.cursor.now.left
          ∙ ap (λ k. drop k c.args.cursor.now.left) {x = gone + (following - gone)} {y = following} (omega (arith, site.0));
      size = went.length ∙ inv.size;
      placed = went.placed;
      coin =
          omega (arith, gave.propagated.coin, coins-steps (take (following - gone) left), length-take (following - gone) left, ap length gave.left, length-drop (following - gone) left, gave.within, inv.coin);
      counted = omega (arith, gave.counted, inv.counted);
      count = omega (arith, ap length c.in_ok-push.ensures.items, length-append c.loop-checkpoint.passed.items (record { step = c.saturating_add.result; lengths = c.checkpoint-item.result.lengths; tableau = c.in_ok-propagated_checkpoint.field-0 } ∷ []), inv.count);
      between = λ coins xs base front b.
          piece-on b gone following c.loop-checkpoint.propagation c.propagate_exactly.new.propagation left site.0 site.1 inv.left (inv.between coins xs base front b) (length c.loop-checkpoint.propagation.letters) inv.size
          gave.propagated gave.enough;
      checkpoints = λ coins xs base front b are passed.
          checkpoint-on b following c.propagate_exactly.new.propagation site.1
          (piece-on b gone following c.loop-checkpoint.propagation c.propagate_exactly.new.propagation left site.0 site.1 inv.left (inv.between coins xs base front b) (length c.loop-checkpoint.propagation.letters) inv.size
          gave.propagated gave.enough)
          c.args.checkpoints.now c.loop-checkpoint.passed.items c.push.new.self.items c.loop-checkpoint.checkpoint-index c.checkpoint-item.result c.in_ok-propagated_checkpoint.field-0 c.letters.result.now c.saturating_add.result
          c.checkpoint-item.is (omega arith) site.2 (omega (arith, c.saturating_add.ensures)) c.in_ok-propagated_checkpoint.ensures.qubits c.letters.ensures.value c.in_ok-propagated_checkpoint.ensures.conjugated
          c.in_ok-push.ensures.items are (inv.checkpoints coins xs base front b are passed);
    }

pub returns-clause-passed : goal.returns-clause-passed
returns-clause-passed c = λ did.
    let inv = c.loop-checkpoint.invariant in
    let gave = c.in_ok-propagate_exactly-2.ensures.passed did in
    let gone = c.loop-checkpoint.gone in
    let left = c.loop-checkpoint.cursor.left in
    record {
      left_is =
          gave.left
          ∙ ap (drop (c.args.gap - gone)) inv.left
          ∙ drop-drop (c.args.gap - gone) gone c.args.cursor.now.left
          ∙ ap (λ k. drop k c.args.cursor.now.left) {x = gone + (c.args.gap - gone)} {y = c.args.gap} (omega (arith, inv.within));
      counted = omega (arith, gave.counted, inv.counted);
      coin =
          omega (arith, gave.propagated.coin, coins-steps (take (c.args.gap - gone) left), length-take (c.args.gap - gone) left, ap length gave.left, length-drop (c.args.gap - gone) left, gave.within, inv.coin);
      count = omega (arith, inv.count);
      between = λ coins xs base front b.
          piece-on b gone c.args.gap c.loop-checkpoint.propagation c.propagate_exactly-2.new.propagation left inv.within (omega arith) inv.left (inv.between coins xs base front b)
          (length c.loop-checkpoint.propagation.letters) inv.size gave.propagated gave.enough;
      are_checkpoints = inv.checkpoints;
    }

-- it may go on

pub propagate_exactly-requires : goal.propagate_exactly-requires
propagate_exactly-requires c =
    let inv = c.loop-checkpoint.invariant in
    record { may = may-later c.args.strings.now c.args.free.now c.args.cursor.now.left c.loop-checkpoint.cursor.left c.args.by_frame.now c.loop-checkpoint.by_frame c.args.propagation.now c.loop-checkpoint.propagation c.loop-checkpoint.gone c.requires.may inv.size inv.left inv.placed inv.coin inv.counted }

pub propagate_exactly-requires-2 : goal.propagate_exactly-requires-2
propagate_exactly-requires-2 c =
    let inv = c.loop-checkpoint.invariant in
    record { may = may-later c.args.strings.now c.args.free.now c.args.cursor.now.left c.loop-checkpoint.cursor.left c.args.by_frame.now c.loop-checkpoint.by_frame c.args.propagation.now c.loop-checkpoint.propagation c.loop-checkpoint.gone c.requires.may inv.size inv.left inv.placed inv.coin inv.counted }
