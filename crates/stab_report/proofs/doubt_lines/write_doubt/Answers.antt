use Rattle.stab_report.proofs.Names.{◌≡◌, ap, ap₂, sym, subst, codes, ◌++◌, TookAndFailed, WritesAll, failed_on, failed_within, circuit_items, path_text, path_at}
use Rattle.stab_report.proofs.SingleErrorTextLaws.{path_here}
use Rattle.stab_report.proofs.WritingLaws.{failed_second, writes_third}
use Rattle.stab_report.specs.DoubtLines.{doubt_line, doubt_text}
use Rattle.stab_report.proofs.doubt_lines.write_doubt.Goals as goal

pub returns-in_err-write_all : goal.returns-in_err-write_all
returns-in_err-write_all g c =
    let items = circuit_items c.args.circuit.now in
    let item = c.item_of_step-item.result in
    let front = codes "stabsim: item " in
    let end = doubt_text c.args.mark.doubt in
    let path : path_at items c.args.mark.step ≡ item.path = path_here items c.args.mark.step item.steps item.path c.item_of_step-item.ensures.some c.item_of_step-item.ensures.path in
    let text = ap (λ p. front ++ (path_text p ++ end)) (sym path) in record {
      writes = failed_on (g.O.Output.seen c.args.out.now) (g.O.Output.seen c.write_all.new.out) (doubt_line items c.args.mark) c.in_err-write_all.field-0.0 c.from_residual.result c.from_residual.ensures.1
          c.in_err-write_all.ensures.writes.0
          (subst (λ l. TookAndFailed (g.O.Output.seen c.args.out.now) (g.O.Output.seen c.write_all.new.out) l) text (failed_within front (path_text item.path ++ end) c.in_err-write_all.ensures.writes.1));
    }

pub returns-in_err-write_path : goal.returns-in_err-write_path
returns-in_err-write_path g c =
    let items = circuit_items c.args.circuit.now in
    let item = c.item_of_step-item.result in
    let front = codes "stabsim: item " in
    let end = doubt_text c.args.mark.doubt in
    let path : path_at items c.args.mark.step ≡ item.path = path_here items c.args.mark.step item.steps item.path c.item_of_step-item.ensures.some c.item_of_step-item.ensures.path in
    let text = ap (λ p. front ++ (path_text p ++ end)) (sym path) in record {
      writes = failed_on (g.O.Output.seen c.args.out.now) (g.O.Output.seen c.write_path.new.out) (doubt_line items c.args.mark) c.in_err-write_path.field-0.0 c.from_residual-in_err-write_path.result c.from_residual-in_err-write_path.ensures.1
          c.in_err-write_path.ensures.writes.0
          (subst (λ l. TookAndFailed (g.O.Output.seen c.args.out.now) (g.O.Output.seen c.write_path.new.out) l) text (failed_second front (path_text item.path) end c.in_ok-write_all.ensures.writes c.in_err-write_path.ensures.writes.1));
    }

pub returns : goal.returns
returns g c =
    let items = circuit_items c.args.circuit.now in
    let item = c.item_of_step-item.result in
    let front = codes "stabsim: item " in
    let path : path_at items c.args.mark.step ≡ item.path = path_here items c.args.mark.step item.steps item.path c.item_of_step-item.ensures.some c.item_of_step-item.ensures.path in
    let end = c.reason.result.now in
    let text = ap₂ (λ p d. front ++ (path_text p ++ d)) (sym path) c.reason.ensures.value in record {
      writes = subst (λ l. WritesAll (g.O.Output.seen c.args.out.now) (g.O.Output.seen c.write_all-2.new.out) l c.write_all-2.result) text
          (writes_third (g.O.Output.seen c.write_all-2.new.out) front (path_text item.path) end c.write_all-2.result c.in_ok-write_all.ensures.writes c.in_ok-write_path.ensures.writes c.write_all-2.ensures.writes);
    }
