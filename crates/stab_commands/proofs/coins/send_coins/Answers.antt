use Rattle.stab_report.proofs.SendingLaws.{sends_cut_off, sends_finished}
use Rattle.stab_commands.proofs.coins.send_coins.Goals as goal

pub returns-in_err-write_coins-clause-sends : goal.returns-in_err-write_coins-clause-sends
returns-in_err-write_coins-clause-sends g c =
    sends_cut_off _ (g.O.Output.seen c.args.out.now) (g.O.Output.seen c.write_coins.new.out) c.in_err-write_coins.field-0.0 c.from_residual.result c.in_err-write_coins.ensures.sends c.from_residual.ensures.1

pub returns-clause-sends : goal.returns-clause-sends
returns-clause-sends g c = sends_finished _ (g.O.Output.seen c.args.out.now) (g.O.Output.seen c.write_coins.new.out) (g.O.Output.seen c.finish.new.out) c.finish.result c.in_ok-write_coins.ensures.sends c.finish.ensures.flushes
