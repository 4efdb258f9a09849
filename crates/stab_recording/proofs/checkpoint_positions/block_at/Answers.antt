use Rattle.stab_recording.proofs.RepeatedRunLemmas.{repeat-at}
use Rattle.stab_recording.proofs.checkpoint_positions.block_at.Goals as goal

pub returns-then-repeat-step : goal.returns-then-repeat-step
returns-then-repeat-step c = record {
  found = λ from steps are. repeat-at from steps c.args.repeats.now c.loop-repeat.repeat-index (record { first = 0; length = 0; rounds = 0; window = 0 }) c.loop-repeat-test.true are;
}
