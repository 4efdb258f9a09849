use Rattle.stab_commands.proofs.Names.{drop, flat_map, wrote_part, wrote_and_failed, failed_on, number_line}
use Rattle.stab_report.proofs.FaultLineLaws.{flat-drop}
use Rattle.stab_commands.proofs.check.write_lines.Goals as goal

pub loop-name-preserved : goal.loop-name-preserved
loop-name-preserved g c =
    let all = flat_map (λ l. number_line l.0.now l.1) c.args.numbers.now in
    let left = flat_map (λ l. number_line l.0.now l.1) (drop c.loop-name.name-index c.args.numbers.now) in
    wrote_part all left _ _ (flat-drop (λ l. number_line l.0.now l.1) c.args.numbers.now c.loop-name.name-index _ c.loop-name-test.true) c.loop-name.invariant c.in_ok-write_number.ensures.writes

pub returns-in_err-write_number : goal.returns-in_err-write_number
returns-in_err-write_number g c =
    let all = flat_map (λ l. number_line l.0.now l.1) c.args.numbers.now in
    let left = flat_map (λ l. number_line l.0.now l.1) (drop c.loop-name.name-index c.args.numbers.now) in record {
      writes = failed_on (g.O.Output.seen c.args.out.now) (g.O.Output.seen c.write_number.new.out) all c.in_err-write_number.field-0.0 c.from_residual.result c.from_residual.ensures.1
          c.in_err-write_number.ensures.writes.0
          (wrote_and_failed all left _ _ (flat-drop (λ l. number_line l.0.now l.1) c.args.numbers.now c.loop-name.name-index _ c.loop-name-test.true) c.loop-name.invariant c.in_err-write_number.ensures.writes.1);
    }
