use Rattle.stab_frames.proofs.Names.{rules, arith}
use Rattle.stab_frames.proofs.FlippedListLemmas.{flipped-more, flipped-whole}
use Rattle.stab_frames.proofs.bits.append_flipped.Goals as goal

pub loop-position-preserved : goal.loop-position-preserved
loop-position-preserved c =
    flipped-more c.loop-position.position c.args.to.now.items c.loop-position.to.items c.push.new.self.items c.args.bits.now c.args.flips.now _
    (omega (arith, c.loop-position-test.true, c.min-count.ensures)) (omega (arith, c.loop-position-test.true, c.min-count.ensures)) (search rules)
    c.loop-position.invariant c.in_ok-push.ensures.items

pub returns : goal.returns
returns c = record {
  value =
      flipped-whole c.loop-position.position c.min-count.result c.args.to.now.items c.loop-position.to.items c.extend_from_slice.new.self.items _ c.args.bits.now c.args.flips.now
      (omega (arith, c.loop-position-test.false, c.loop-position.auto.position-end)) c.min-count.ensures c.loop-position.invariant c.split_at.ensures.back
      c.in_ok-extend_from_slice.ensures.items;
}
