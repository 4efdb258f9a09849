use Rattle.stab_commands.proofs.Names.{◌∙◌, ◌++◌, ap, sym, subst, codes, WritesAll, up_to}
use Rattle.stab_report.proofs.ErrorLineLaws.{joined-none}
use Rattle.stab_commands.proofs.distance.write_none_within.Goals as goal

pub returns-in-Some : goal.returns-in-Some
returns-in-Some g c =
    let text = joined-none c.in-Some.most c.as_bytes-most.result.now (c.as_bytes-most.ensures.value ∙ c.format.ensures.text) in record {
      writes = subst (λ l. WritesAll (g.O.Output.seen c.args.out.now) (g.O.Output.seen c.write_texts-in-Some.new.out) l c.write_texts-in-Some.result)
          (text ∙ ap (λ o. codes "none" ++ up_to o) (sym c.in-Some.is)) c.write_texts-in-Some.ensures.writes;
    }
