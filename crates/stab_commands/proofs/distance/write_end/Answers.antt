use Rattle.stab_commands.proofs.Names.{◌∙◌, ap, sym, subst, WritesAll, line_end}
use Rattle.stab_report.proofs.ErrorLineLaws.{joined-end}
use Rattle.stab_commands.proofs.distance.write_end.Goals as goal

pub returns-in-Some : goal.returns-in-Some
returns-in-Some g c =
    let errors = c.args.errors.now in
    let line = joined-end errors c.in-Some.number c.as_bytes-number.result.now (c.as_bytes-number.ensures.value ∙ c.format.ensures.text) in record {
      writes = subst (λ l. WritesAll (g.O.Output.seen c.args.out.now) (g.O.Output.seen c.write_texts-in-Some.new.out) l c.write_texts-in-Some.result)
          (line ∙ ap (line_end errors) (sym c.in-Some.is)) c.write_texts-in-Some.ensures.writes;
    }
