use Rattle.stab_report.proofs.Names.{◌++◌, codes, subst, flat_map, TookAndFailed, WritesAll, failed_on, failed_within, entry, single_error_on, single_error_text, table_line, site_shown}
use Rattle.stab_gates.specs.declared.letter.Letter.TheVariants as letter
use Rattle.stab_report.proofs.SingleErrorTextLaws.{joined-site}
use Rattle.stab_report.proofs.WritingLaws.{writes_after}
use Rattle.stab_report.proofs.single_error_lines.write_site.Goals as goal

pub returns-in_err-write_line : goal.returns-in_err-write_line
returns-in_err-write_line g c =
    let kinds = c.args.kinds in
    let path = c.args.path.now in
    let site = site_shown c.args.site in
    let before = c.steps_before-before.result in
    let text = joined-site kinds path c.args.step before site c.args.by_x.now c.args.by_z.now c.steps_before-before.ensures.value in
    let first = single_error_text before path letter.X site.qubit ++ (flat_map (entry kinds) c.args.by_x.now ++ codes "\n") in
    let second = single_error_text before path letter.Z site.qubit ++ (flat_map (entry kinds) c.args.by_z.now ++ codes "\n") in record {
      writes = failed_on (g.O.Output.seen c.args.out.now) (g.O.Output.seen c.write_line.new.out)
          (table_line kinds path (single_error_on c.args.step site letter.X) c.args.by_x.now ++ table_line kinds path (single_error_on c.args.step site letter.Z) c.args.by_z.now)
          c.in_err-write_line.field-0.0 c.from_residual.result c.from_residual.ensures.1 c.in_err-write_line.ensures.writes.0
          (subst (λ l. TookAndFailed (g.O.Output.seen c.args.out.now) (g.O.Output.seen c.write_line.new.out) l) text (failed_within first second c.in_err-write_line.ensures.writes.1));
    }

pub returns : goal.returns
returns g c =
    let kinds = c.args.kinds in
    let path = c.args.path.now in
    let site = site_shown c.args.site in
    let before = c.steps_before-before.result in
    let text = joined-site kinds path c.args.step before site c.args.by_x.now c.args.by_z.now c.steps_before-before.ensures.value in
    let first = single_error_text before path letter.X site.qubit ++ (flat_map (entry kinds) c.args.by_x.now ++ codes "\n") in
    let second = single_error_text before path letter.Z site.qubit ++ (flat_map (entry kinds) c.args.by_z.now ++ codes "\n") in record {
      writes = subst (λ l. WritesAll (g.O.Output.seen c.args.out.now) (g.O.Output.seen c.write_line-2.new.out) l c.write_line-2.result) text
          (writes_after (g.O.Output.seen c.write_line-2.new.out) first second c.write_line-2.result c.in_ok-write_line.ensures.writes c.write_line-2.ensures.writes);
    }
