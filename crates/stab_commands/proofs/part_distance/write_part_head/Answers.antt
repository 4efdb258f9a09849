use Rattle.stab_commands.proofs.Names.{◌∙◌, ap, subst, decimal, WritesAll}
use Rattle.stab_commands.proofs.PartLaws.{joined-part}
use Rattle.stab_commands.proofs.part_distance.write_part_head.Goals as goal

pub returns : goal.returns
returns g c =
    let number = c.as_bytes-number.ensures.value ∙ (c.format.ensures.text ∙ ap decimal c.number.ensures.value) in
    let count = c.as_bytes-count.ensures.value ∙ (c.format-2.ensures.text ∙ ap decimal c.count.ensures.value) in
    let table = c.as_bytes-table.ensures.value ∙ c.format-3.ensures.text in
    let text = joined-part c.args.part c.args.digest c.as_bytes-number.result.now c.as_bytes-count.result.now c.as_bytes-table.result.now number count table in record {
      writes = subst (λ l. WritesAll (g.O.Output.seen c.args.out.now) (g.O.Output.seen c.write_texts.new.out) l c.write_texts.result) text c.write_texts.ensures.writes;
    }
