use Rattle.stab_commands.proofs.CoinPositionLemmas.{positions-put}
use Rattle.stab_commands.proofs.coin_positions.CoinPositions.push.Goals as goal

pub loop-taken-preserved : goal.loop-taken-preserved
loop-taken-preserved c = record {
  numbers = positions-put c.args.self.now.numbers.items _ _ c.args.coin c.args.coin c.loop-taken.taken c.args.free.now c.bit_at-here.result c.loop-taken.invariant.numbers
      c.bit_at-here.ensures.value c.in_ok-push_when.ensures.value;
  steps = positions-put c.args.self.now.steps.items _ _ c.args.number c.args.coin c.loop-taken.taken c.args.free.now c.bit_at-here.result c.loop-taken.invariant.steps
      c.bit_at-here.ensures.value c.in_ok-push_when-2.ensures.value;
}
