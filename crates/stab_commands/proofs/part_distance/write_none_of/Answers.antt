use Rattle.stab_commands.proofs.Names.{◌∙◌, subst, WritesAll}
use Rattle.stab_commands.proofs.PartLaws.{joined-none_of}
use Rattle.stab_commands.proofs.part_distance.write_none_of.Goals as goal

pub returns : goal.returns
returns g c =
    let line = joined-none_of c.args.size c.as_bytes.result.now (c.as_bytes.ensures.value ∙ c.format.ensures.text) in record {
      writes = subst (λ l. WritesAll (g.O.Output.seen c.args.out.now) (g.O.Output.seen c.write_texts.new.out) l c.write_texts.result) line c.write_texts.ensures.writes;
    }
