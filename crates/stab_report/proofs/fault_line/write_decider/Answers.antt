use Rattle.stab_report.proofs.Names.{◌≡◌, ◌∙◌, ap, [], ◌∷◌, ◌++◌, codes, decimal, subst, TookAndFailed, WritesAll, failed_on, failed_within, path_text, texts_joined}
use Rattle.stab_report.proofs.SingleErrorTextLaws.{joined_three}
use Rattle.stab_report.proofs.WritingLaws.{writes_after}
use Rattle.stab_report.proofs.fault_line.write_decider.Goals as goal

pub returns-in_err-write_texts : goal.returns-in_err-write_texts
returns-in_err-write_texts g c =
    let path = path_text c.args.decider.now.path in
    let front = texts_joined (codes " c" ∷ c.as_bytes.result.now ∷ codes "@" ∷ []) in
    let all = codes " c" ++ (decimal c.args.decider.now.coin ++ (codes "@" ++ path)) in
    let text : front ++ path ≡ all = joined_three (codes " c") c.as_bytes.result.now (codes "@") path ∙ ap (λ d. codes " c" ++ (d ++ (codes "@" ++ path))) (c.as_bytes.ensures.value ∙ c.format.ensures.text) in
    record {
      writes = failed_on (g.O.Output.seen c.args.out.now) (g.O.Output.seen c.write_texts.new.out) all c.in_err-write_texts.field-0.0 c.from_residual.result c.from_residual.ensures.1
          c.in_err-write_texts.ensures.writes.0
          (subst (λ l. TookAndFailed (g.O.Output.seen c.args.out.now) (g.O.Output.seen c.write_texts.new.out) l) text (failed_within front path c.in_err-write_texts.ensures.writes.1));
    }

pub returns : goal.returns
returns g c =
    let path = path_text c.args.decider.now.path in
    let front = texts_joined (codes " c" ∷ c.as_bytes.result.now ∷ codes "@" ∷ []) in
    let all = codes " c" ++ (decimal c.args.decider.now.coin ++ (codes "@" ++ path)) in
    let text : front ++ path ≡ all = joined_three (codes " c") c.as_bytes.result.now (codes "@") path ∙ ap (λ d. codes " c" ++ (d ++ (codes "@" ++ path))) (c.as_bytes.ensures.value ∙ c.format.ensures.text) in
    record {
      writes = subst (λ l. WritesAll (g.O.Output.seen c.args.out.now) (g.O.Output.seen c.write_path.new.out) l c.write_path.result) text
          (writes_after (g.O.Output.seen c.write_path.new.out) front path c.write_path.result c.in_ok-write_texts.ensures.writes c.write_path.ensures.writes);
    }
