use Rattle.stab_report.proofs.Names.{◌∙◌, [], ◌∷◌, codes, subst, TookAndFailed, WritesAll, failed_on, failed_within, path_text, random_bit, texts_joined}
use Rattle.stab_report.proofs.SingleErrorTextLaws.{joined-random}
use Rattle.stab_report.proofs.WritingLaws.{writes_after}
use Rattle.stab_report.proofs.fault_line.write_random_bit.Goals as goal

pub returns-in_err-write_texts : goal.returns-in_err-write_texts
returns-in_err-write_texts g c =
    let u = c.args.random.now in
    let text = joined-random u c.bit_name-number.result.0.now c.as_bytes-digits.result.now c.bit_name-number.result.1 c.bit_name-number.ensures.value (c.as_bytes-digits.ensures.value ∙ c.format.ensures.text) in
    let front = texts_joined (codes "stabsim: " ∷ c.bit_name-number.result.0.now ∷ c.as_bytes-digits.result.now ∷ codes ", item " ∷ []) in record {
      writes = failed_on (g.O.Output.seen c.args.out.now) (g.O.Output.seen c.write_texts.new.out) (random_bit u) c.in_err-write_texts.field-0.0 c.from_residual.result c.from_residual.ensures.1 c.in_err-write_texts.ensures.writes.0
          (subst (λ l. TookAndFailed (g.O.Output.seen c.args.out.now) (g.O.Output.seen c.write_texts.new.out) l) text
          (failed_within front (path_text u.path) c.in_err-write_texts.ensures.writes.1));
    }

pub returns : goal.returns
returns g c =
    let u = c.args.random.now in
    let text = joined-random u c.bit_name-number.result.0.now c.as_bytes-digits.result.now c.bit_name-number.result.1 c.bit_name-number.ensures.value (c.as_bytes-digits.ensures.value ∙ c.format.ensures.text) in
    let front = texts_joined (codes "stabsim: " ∷ c.bit_name-number.result.0.now ∷ c.as_bytes-digits.result.now ∷ codes ", item " ∷ []) in record {
      writes = subst (λ l. WritesAll (g.O.Output.seen c.args.out.now) (g.O.Output.seen c.write_path.new.out) l c.write_path.result) text
          (writes_after (g.O.Output.seen c.write_path.new.out) front (path_text u.path) c.write_path.result c.in_ok-write_texts.ensures.writes c.write_path.ensures.writes);
    }
