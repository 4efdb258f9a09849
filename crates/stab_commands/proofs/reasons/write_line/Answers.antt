use Rattle.stab_commands.proofs.Names.{◌++◌, codes, flat_map, failed_on, failed_within, circuit_items, decider_text, coin_at}
use Rattle.stab_commands.proofs.ReasonLaws.{line_front}
use Rattle.stab_report.proofs.WritingLaws.{failed_second, writes_third}
use Rattle.stab_commands.proofs.reasons.write_line.Goals as goal

pub returns-in_err-write_front : goal.returns-in_err-write_front
returns-in_err-write_front g c =
    let items = circuit_items c.args.circuit.now in
    let head = line_front items c.args.bit c.args.path.now in
    let coins = flat_map (λ k. decider_text items (coin_at items k)) c.args.positions.now in record {
      writes = failed_on (g.O.Output.seen c.args.out.now) (g.O.Output.seen c.write_front.new.out) (head ++ (coins ++ codes "\n")) c.in_err-write_front.field-0.0 c.from_residual.result c.from_residual.ensures.1
          c.in_err-write_front.ensures.writes.0
          (failed_within head (coins ++ codes "\n") c.in_err-write_front.ensures.writes.1);
    }

pub returns-in_err-write_deciders : goal.returns-in_err-write_deciders
returns-in_err-write_deciders g c =
    let items = circuit_items c.args.circuit.now in
    let head = line_front items c.args.bit c.args.path.now in
    let coins = flat_map (λ k. decider_text items (coin_at items k)) c.args.positions.now in record {
      writes = failed_on (g.O.Output.seen c.args.out.now) (g.O.Output.seen c.write_deciders.new.out) (head ++ (coins ++ codes "\n")) c.in_err-write_deciders.field-0.0 c.from_residual-in_err-write_deciders.result c.from_residual-in_err-write_deciders.ensures.1
          c.in_err-write_deciders.ensures.writes.0
          (failed_second head coins (codes "\n") c.in_ok-write_front.ensures.writes c.in_err-write_deciders.ensures.writes.1);
    }

pub returns : goal.returns
returns g c =
    let items = circuit_items c.args.circuit.now in
    let head = line_front items c.args.bit c.args.path.now in
    let coins = flat_map (λ k. decider_text items (coin_at items k)) c.args.positions.now in record {
      writes = writes_third (g.O.Output.seen c.write_all.new.out) head coins (codes "\n") c.write_all.result c.in_ok-write_front.ensures.writes c.in_ok-write_deciders.ensures.writes c.write_all.ensures.writes;
    }
