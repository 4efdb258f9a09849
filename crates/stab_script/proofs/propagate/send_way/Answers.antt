use Rattle.stab_script.proofs.Names.{◌∙◌, circuit_items}
use Rattle.stab_script.specs.Words.{PutIn}
use Rattle.stab_script.specs.WayTexts.{IsWayText}
use Rattle.stab_script.proofs.SendLemmas.{given_before, found_failed, found_finished}
use Rattle.stab_script.proofs.propagate.send_way.Goals as goal

pub returns-in_err-map_err : goal.returns-in_err-map_err
returns-in_err-map_err g c =
    let items = circuit_items c.args.circuit.now in
    let put : PutIn = record { steps = c.args.steps; string = c.args.string.now.letters } in
    let ok = given_before c.way_reply.result c.map_err.result c.in_ok-reply.reply c.map_err.ensures.cases c.in_ok-reply.was in
    let is : IsWayText items c.args.every put c.bytes.result.now = record { text = c.bytes.ensures.value ∙ (rw ok at c.way_reply.ensures.shows); runs = rw ok at c.way_reply.ensures.runs } in
    record {
      sends = found_failed (IsWayText items c.args.every put) (g.O.Output.seen c.args.out.now) (g.O.Output.seen c.write_all.new.out) c.bytes.result.now c.write_all.result c.map_err-2.result c.in_err-map_err.field-0.0 c.from_residual-in_err-map_err.result
          is c.write_all.ensures.writes c.map_err-2.ensures.cases c.in_err-map_err.was c.from_residual-in_err-map_err.ensures.1;
    }

pub returns : goal.returns
returns g c =
    let items = circuit_items c.args.circuit.now in
    let put : PutIn = record { steps = c.args.steps; string = c.args.string.now.letters } in
    let ok = given_before c.way_reply.result c.map_err.result c.in_ok-reply.reply c.map_err.ensures.cases c.in_ok-reply.was in
    let is : IsWayText items c.args.every put c.bytes.result.now = record { text = c.bytes.ensures.value ∙ (rw ok at c.way_reply.ensures.shows); runs = rw ok at c.way_reply.ensures.runs } in
    let written = given_before c.write_all.result c.map_err-2.result c.in_ok-map_err.field-0 c.map_err-2.ensures.cases c.in_ok-map_err.was in
    record {
      sends = found_finished (IsWayText items c.args.every put) (g.O.Output.seen c.args.out.now) (g.O.Output.seen c.write_all.new.out) (g.O.Output.seen c.finish.new.out) c.bytes.result.now c.finish.result
          is (rw written at c.write_all.ensures.writes) c.finish.ensures.flushes;
    }
