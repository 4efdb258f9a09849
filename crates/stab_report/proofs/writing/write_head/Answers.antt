use Rattle.stab_report.proofs.Names.{◌∙◌, ◌++◌, [], ◌∷◌, codes, decimal, refl, subst, TookAndFailed, WritesAll, failed_on, failed_within, path_text, row_head, texts_joined}
use Rattle.stab_report.proofs.SingleErrorTextLaws.{joined-head}
use Rattle.stab_report.proofs.WritingLaws.{failed_second, writes_third}
use Rattle.stab_report.proofs.writing.write_head.Goals as goal

pub returns-in_err-write_texts : goal.returns-in_err-write_texts
returns-in_err-write_texts g c =
    let path = c.args.path.now in
    let text = joined-head c.args.before c.args.number path c.args.symbol.now c.as_bytes.result.now (decimal c.args.number) (c.as_bytes.ensures.value ∙ c.format.ensures.text) refl in
    let back = texts_joined (codes " " ∷ c.args.symbol.now ∷ decimal c.args.number ∷ []) in record {
      writes = failed_on (g.O.Output.seen c.args.out.now) (g.O.Output.seen c.write_texts.new.out) (row_head c.args.before path c.args.symbol.now c.args.number) c.in_err-write_texts.field-0.0 c.from_residual.result c.from_residual.ensures.1
          c.in_err-write_texts.ensures.writes.0
          (subst (λ l. TookAndFailed (g.O.Output.seen c.args.out.now) (g.O.Output.seen c.write_texts.new.out) l) text
          (failed_within (texts_joined (c.as_bytes.result.now ∷ codes " " ∷ [])) (path_text path ++ back) c.in_err-write_texts.ensures.writes.1));
    }

pub returns-in_err-write_path : goal.returns-in_err-write_path
returns-in_err-write_path g c =
    let path = c.args.path.now in
    let text = joined-head c.args.before c.args.number path c.args.symbol.now c.as_bytes.result.now (decimal c.args.number) (c.as_bytes.ensures.value ∙ c.format.ensures.text) refl in
    let back = texts_joined (codes " " ∷ c.args.symbol.now ∷ decimal c.args.number ∷ []) in record {
      writes = failed_on (g.O.Output.seen c.args.out.now) (g.O.Output.seen c.write_path.new.out) (row_head c.args.before path c.args.symbol.now c.args.number) c.in_err-write_path.field-0.0 c.from_residual-in_err-write_path.result c.from_residual-in_err-write_path.ensures.1
          c.in_err-write_path.ensures.writes.0
          (subst (λ l. TookAndFailed (g.O.Output.seen c.args.out.now) (g.O.Output.seen c.write_path.new.out) l) text
          (failed_second (texts_joined (c.as_bytes.result.now ∷ codes " " ∷ [])) (path_text path) back c.in_ok-write_texts.ensures.writes c.in_err-write_path.ensures.writes.1));
    }

pub returns : goal.returns
returns g c =
    let path = c.args.path.now in
    let text = joined-head c.args.before c.args.number path c.args.symbol.now c.as_bytes.result.now c.as_bytes-2.result.now (c.as_bytes.ensures.value ∙ c.format.ensures.text) (c.as_bytes-2.ensures.value ∙ c.format-2.ensures.text) in
    let back = texts_joined (codes " " ∷ c.args.symbol.now ∷ c.as_bytes-2.result.now ∷ []) in record {
      writes = subst (λ l. WritesAll (g.O.Output.seen c.args.out.now) (g.O.Output.seen c.write_texts-2.new.out) l c.write_texts-2.result) text
          (writes_third (g.O.Output.seen c.write_texts-2.new.out) (texts_joined (c.as_bytes.result.now ∷ codes " " ∷ [])) (path_text path) back c.write_texts-2.result c.in_ok-write_texts.ensures.writes c.in_ok-write_path.ensures.writes c.write_texts-2.ensures.writes);
    }
