use Rattle.stab_commands.proofs.Names.{◌≡◌, ◌∙◌, sym, ap, [], ◌∷◌, ◌++◌, append_assoc, codes, decimal, subst, TookAndFailed, WritesAll, failed_on, failed_within, path_text, bit_name, texts_joined}
use Rattle.stab_report.proofs.SingleErrorTextLaws.{joined_three}
use Rattle.stab_report.proofs.WritingLaws.{writes_after}
use Rattle.stab_commands.proofs.reasons.write_bit.Goals as goal

pub returns-in_err-write_texts : goal.returns-in_err-write_texts
returns-in_err-write_texts g c =
    let path = path_text c.args.path.now in
    let front = texts_joined (c.bit_name-number.result.0.now ∷ c.as_bytes.result.now ∷ codes " " ∷ []) in
    let all = bit_name c.args.bit ++ (codes " " ++ path) in
    let text : front ++ path ≡ all = joined_three c.bit_name-number.result.0.now c.as_bytes.result.now (codes " ") path
    ∙ ap (λ d. c.bit_name-number.result.0.now ++ (d ++ (codes " " ++ path))) (c.as_bytes.ensures.value ∙ c.format.ensures.text)
    ∙ sym (append_assoc c.bit_name-number.result.0.now (decimal c.bit_name-number.result.1) (codes " " ++ path))
    ∙ ap (λ l. l ++ (codes " " ++ path)) (sym c.bit_name-number.ensures.value) in
    record {
      writes = failed_on (g.O.Output.seen c.args.out.now) (g.O.Output.seen c.write_texts.new.out) all c.in_err-write_texts.field-0.0 c.from_residual.result c.from_residual.ensures.1
          c.in_err-write_texts.ensures.writes.0
          (subst (λ l. TookAndFailed (g.O.Output.seen c.args.out.now) (g.O.Output.seen c.write_texts.new.out) l) text (failed_within front path c.in_err-write_texts.ensures.writes.1));
    }

pub returns : goal.returns
returns g c =
    let path = path_text c.args.path.now in
    let front = texts_joined (c.bit_name-number.result.0.now ∷ c.as_bytes.result.now ∷ codes " " ∷ []) in
    let all = bit_name c.args.bit ++ (codes " " ++ path) in
    let text : front ++ path ≡ all = joined_three c.bit_name-number.result.0.now c.as_bytes.result.now (codes " ") path
    ∙ ap (λ d. c.bit_name-number.result.0.now ++ (d ++ (codes " " ++ path))) (c.as_bytes.ensures.value ∙ c.format.ensures.text)
    ∙ sym (append_assoc c.bit_name-number.result.0.now (decimal c.bit_name-number.result.1) (codes " " ++ path))
    ∙ ap (λ l. l ++ (codes " " ++ path)) (sym c.bit_name-number.ensures.value) in
    record {
      writes = subst (λ l. WritesAll (g.O.Output.seen c.args.out.now) (g.O.Output.seen c.write_path.new.out) l c.write_path.result) text
          (writes_after (g.O.Output.seen c.write_path.new.out) front path c.write_path.result c.in_ok-write_texts.ensures.writes c.write_path.ensures.writes);
    }
