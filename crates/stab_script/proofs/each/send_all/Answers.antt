use Rattle.stab_script.proofs.Names.{flat_map, circuit_items}
use Rattle.stab_report.proofs.SendingLaws.{sends_cut_off, sends_finished}
use Rattle.stab_script.proofs.EachLemmas.{line_of}
use Rattle.stab_script.proofs.each.send_all.Goals as goal

pub returns-in_err-send_errors : goal.returns-in_err-send_errors
returns-in_err-send_errors g c =
    let bytes = flat_map (line_of (circuit_items c.args.circuit.now)) c.args.single_errors.now in record {
      sends = sends_cut_off bytes (g.O.Output.seen c.args.out.now) (g.O.Output.seen c.send_errors.new.out) c.in_err-send_errors.field-0.0 c.from_residual.result c.in_err-send_errors.ensures.sends
          c.from_residual.ensures.1;
    }

pub returns : goal.returns
returns g c =
    let bytes = flat_map (line_of (circuit_items c.args.circuit.now)) c.args.single_errors.now in record {
      sends = sends_finished bytes (g.O.Output.seen c.args.out.now) (g.O.Output.seen c.send_errors.new.out) (g.O.Output.seen c.finish.new.out) c.finish.result c.in_ok-send_errors.ensures.sends
          c.finish.ensures.flushes;
    }
