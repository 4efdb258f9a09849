use Rattle.stab_commands.proofs.Names.{◌∙◌, subst, WritesAll}
use Rattle.stab_commands.proofs.PartLaws.{joined-first}
use Rattle.stab_commands.proofs.part_distance.write_first.Goals as goal

pub returns : goal.returns
returns g c =
    let line = joined-first c.args.first c.as_bytes.result.now (c.as_bytes.ensures.value ∙ c.format.ensures.text) in record {
      writes = subst (λ l. WritesAll (g.O.Output.seen c.args.out.now) (g.O.Output.seen c.write_texts.new.out) l c.write_texts.result) line c.write_texts.ensures.writes;
    }
