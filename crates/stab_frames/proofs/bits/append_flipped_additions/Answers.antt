use Rattle.stab_frames.proofs.Names.{arith, false, get_or, Addition}
use Rattle.stab_frames.proofs.FlippedListLemmas.{added-flipped, additions-more, additions-whole}
use Rattle.stab_frames.proofs.bits.append_flipped_additions.Goals as goal

pub loop-position-preserved : goal.loop-position-preserved
loop-position-preserved c =
    let none : Addition = record { observable = 0; bit = false } in
    additions-more c.loop-position.position c.args.to.now.items c.loop-position.to.items c.push.new.self.items c.args.additions.now c.args.flips.now none none _
    (omega (arith, c.loop-position-test.true, c.min-count.ensures)) (omega (arith, c.loop-position-test.true, c.min-count.ensures))
    (added-flipped (get_or c.args.additions.now c.loop-position.position none) (get_or c.args.flips.now c.loop-position.position none))
    c.loop-position.invariant c.in_ok-push.ensures.items

pub returns : goal.returns
returns c = record {
  value =
      additions-whole c.loop-position.position c.min-count.result c.args.to.now.items c.loop-position.to.items c.extend_from_slice.new.self.items _ c.args.additions.now c.args.flips.now
      (omega (arith, c.loop-position-test.false, c.loop-position.auto.position-end)) c.min-count.ensures c.loop-position.invariant c.split_at.ensures.back
      c.in_ok-extend_from_slice.ensures.items;
}
