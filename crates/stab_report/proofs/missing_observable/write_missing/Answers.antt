use Rattle.stab_report.proofs.Names.{◌∙◌, subst, WritesAll}
use Rattle.stab_report.proofs.ErrorLineLaws.{joined-missing}
use Rattle.stab_report.proofs.missing_observable.write_missing.Goals as goal

pub returns : goal.returns
returns g c =
    let line = joined-missing c.args.observable c.args.count c.as_bytes-observable.result.now c.as_bytes-count.result.now
    (c.as_bytes-observable.ensures.value ∙ c.format.ensures.text) (c.as_bytes-count.ensures.value ∙ c.format-2.ensures.text) in record {
      writes = subst (λ l. WritesAll (g.O.Output.seen c.args.out.now) (g.O.Output.seen c.write_texts.new.out) l c.write_texts.result) line c.write_texts.ensures.writes;
    }
