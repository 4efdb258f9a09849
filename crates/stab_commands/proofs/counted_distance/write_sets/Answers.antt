use Rattle.stab_commands.proofs.Names.{◌∙◌, ap, sym, subst, WritesAll}
use Rattle.stab_report.specs.Distances.{count_line}
use Rattle.stab_report.proofs.ErrorLineLaws.{joined-sets}
use Rattle.stab_commands.proofs.counted_distance.write_sets.Goals as goal

pub returns-in-Some : goal.returns-in-Some
returns-in-Some g c =
    let line = joined-sets c.in-Some.count c.as_bytes.result.now (c.as_bytes.ensures.value ∙ c.format.ensures.text) in record {
      writes = subst (λ l. WritesAll (g.O.Output.seen c.args.out.now) (g.O.Output.seen c.write_texts-in-Some.new.out) l c.write_texts-in-Some.result)
          (line ∙ ap count_line (sym c.in-Some.is)) c.write_texts-in-Some.ensures.writes;
    }
