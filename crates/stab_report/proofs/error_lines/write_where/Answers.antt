use Rattle.stab_report.proofs.Names.{◌∙◌, ◌++◌, [], ◌∷◌, codes, subst, TookAndFailed, WritesAll, failed_on, failed_within, path_text, where_text, texts_joined}
use Rattle.stab_report.proofs.ErrorLineLaws.{joined-where}
use Rattle.stab_report.proofs.WritingLaws.{failed_second, writes_third}
use Rattle.stab_report.proofs.error_lines.write_where.Goals as goal

pub returns-in_err-write_texts : goal.returns-in_err-write_texts
returns-in_err-write_texts g c =
    let path = c.args.path.now in
    let front = texts_joined (c.as_bytes.result.now ∷ codes " " ∷ []) in
    let text = joined-where c.args.before path c.as_bytes.result.now (c.as_bytes.ensures.value ∙ c.format.ensures.text) in record {
      writes = failed_on (g.O.Output.seen c.args.out.now) (g.O.Output.seen c.write_texts.new.out) (where_text c.args.before path) c.in_err-write_texts.field-0.0 c.from_residual.result c.from_residual.ensures.1
          c.in_err-write_texts.ensures.writes.0
          (subst (λ l. TookAndFailed (g.O.Output.seen c.args.out.now) (g.O.Output.seen c.write_texts.new.out) l) text (failed_within front (path_text path ++ codes " ") c.in_err-write_texts.ensures.writes.1));
    }

pub returns-in_err-write_path : goal.returns-in_err-write_path
returns-in_err-write_path g c =
    let path = c.args.path.now in
    let front = texts_joined (c.as_bytes.result.now ∷ codes " " ∷ []) in
    let text = joined-where c.args.before path c.as_bytes.result.now (c.as_bytes.ensures.value ∙ c.format.ensures.text) in record {
      writes = failed_on (g.O.Output.seen c.args.out.now) (g.O.Output.seen c.write_path.new.out) (where_text c.args.before path) c.in_err-write_path.field-0.0 c.from_residual-in_err-write_path.result c.from_residual-in_err-write_path.ensures.1
          c.in_err-write_path.ensures.writes.0
          (subst (λ l. TookAndFailed (g.O.Output.seen c.args.out.now) (g.O.Output.seen c.write_path.new.out) l) text
          (failed_second front (path_text path) (codes " ") c.in_ok-write_texts.ensures.writes c.in_err-write_path.ensures.writes.1));
    }

pub returns : goal.returns
returns g c =
    let path = c.args.path.now in
    let front = texts_joined (c.as_bytes.result.now ∷ codes " " ∷ []) in
    let text = joined-where c.args.before path c.as_bytes.result.now (c.as_bytes.ensures.value ∙ c.format.ensures.text) in record {
      writes = subst (λ l. WritesAll (g.O.Output.seen c.args.out.now) (g.O.Output.seen c.write_all.new.out) l c.write_all.result) text
          (writes_third (g.O.Output.seen c.write_all.new.out) front (path_text path) (codes " ") c.write_all.result c.in_ok-write_texts.ensures.writes c.in_ok-write_path.ensures.writes c.write_all.ensures.writes);
    }
