use Rattle.stab_sampler.proofs.CheckpointLemmas.{output-again}
use Rattle.stab_sampler.proofs.repeated_flips.repeat_flips.Goals as goal

pub returns-clause-output : goal.returns-clause-output
returns-clause-output g c = λ l.
    output-again g.W.Word.at l c.args.lanes.now
    (record {
      frames = c.args.lanes.now.frames;
      records = c.append_times.new.items;
      free = c.append_times-2.new.items;
      detectors = c.append_times-3.new.items;
      sums = c.append_times-4.new.items;
      number = c.args.lanes.now.number;
    })
    c.args.lengths c.args.count (c.in_ok-append_times.ensures {u = tt}).value (c.in_ok-append_times-2.ensures {u = tt}).value
    (c.in_ok-append_times-3.ensures {u = tt}).value (c.in_ok-append_times-4.ensures {u = tt}).value
