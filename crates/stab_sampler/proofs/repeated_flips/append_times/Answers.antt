use Rattle.stab_sampler.proofs.Names.{arith}
use Rattle.stab_sampler.proofs.CheckpointLemmas.{appended-more, appended-none}
use Rattle.stab_sampler.proofs.repeated_flips.append_times.Goals as goal

pub returns-then-from-following : goal.returns-then-from-following
returns-then-from-following g c = record { value = appended-none c.args.items.now.items c.args.from c.args.count (omega (arith, c.if-from-following.true, c.len-following.ensures)) }

pub loop-preserved : goal.loop-preserved
loop-preserved g c =
    appended-more c.args.items.now.items c.loop.items.items c.extend_from_within.new.self.items c.args.from c.loop.counter c.len-following.result
    (omega (arith, c.if-from-following.false)) (omega (arith, c.len-following.ensures)) c.loop.invariant (c.in_ok-extend_from_within.ensures {u = tt}).items
