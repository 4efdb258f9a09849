use Rattle.stab_frames.proofs.Names.{rules, arith}
use Rattle.stab_frames.proofs.PropagationLemmas.{flipped-further}
use Rattle.stab_frames.proofs.propagation.Propagation.flip_records.Goals as goal

pub loop-position-preserved : goal.loop-position-preserved
loop-position-preserved c =
    flipped-further c.loop-position.position c.args.records.now c.args.others.now _ c.args.self.now c.loop-position.self c.flip_record.new.self c.requires.same_length
    (omega (arith, c.loop-position-test.true)) (search rules) c.loop-position.invariant c.in_ok-flip_record.ensures.value
