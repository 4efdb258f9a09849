use Rattle.std.proofs.Common.{refl, []}
use Rattle.stab_io.proofs.DeviceLemmas.{wrote_on, wrote_and_failed}
use Rattle.stab_io.proofs.device.write_all.Goals as goal

pub loop-rest-preserved : goal.loop-rest-preserved
loop-rest-preserved g c = wrote_on c.args.bytes.now c.loop-rest.rest.now c.split_at.result.1.now c.in-Ok.count c.loop-rest.invariant c.in-Ok.ensures.writes.2 c.split_at.ensures.back

pub returns-in-Err : goal.returns-in-Err
returns-in-Err g c = record { writes = (refl, wrote_and_failed c.args.bytes.now c.loop-rest.rest.now [] c.loop-rest.rest.now refl c.loop-rest.invariant c.in-Err.ensures.writes) }
