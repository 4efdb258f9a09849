use Rattle.stab_report.proofs.Names.{◌∙◌, [], ◌∷◌, ap, sym, subst, decimal, WritesAll, error_shown, single_error_shown, error_name}
use Rattle.stab_report.proofs.ErrorLineLaws.{joined-letter, joined-letters, joined-record}
use Rattle.stab_report.proofs.error_lines.write_name.Goals as goal

pub returns-in-Letter : goal.returns-in-Letter
returns-in-Letter g c =
    let digits = c.as_bytes-qubit.ensures.value ∙ c.format.ensures.text ∙ ap decimal c.qubit.ensures.value in
    let name = joined-letter (single_error_shown c.in-Letter.placed) (c.symbol.result ∷ []) c.as_bytes-qubit.result.now c.symbol.ensures.value digits in record {
      writes = subst (λ l. WritesAll (g.O.Output.seen c.args.out.now) (g.O.Output.seen c.write_texts.new.out) l c.write_texts.result)
          (name ∙ ap (λ e. error_name (error_shown e)) (sym c.in-Letter.is)) c.write_texts.ensures.writes;
    }

pub returns-in-Letters : goal.returns-in-Letters
returns-in-Letters g c =
    let first = single_error_shown c.in-Letters.first in
    let second = single_error_shown c.in-Letters.second in
    let digits = c.as_bytes-qubit-in-Letters.ensures.value ∙ c.format-in-Letters.ensures.text ∙ ap decimal c.qubit-in-Letters.ensures.value in
    let others = c.as_bytes-other.ensures.value ∙ c.format-in-Letters-2.ensures.text ∙ ap decimal c.qubit-in-Letters-2.ensures.value in
    let name = joined-letters first second (c.symbol-letter.result ∷ []) c.as_bytes-qubit-in-Letters.result.now (c.symbol-in-Letters.result ∷ []) c.as_bytes-other.result.now
    c.symbol-letter.ensures.value digits c.symbol-in-Letters.ensures.value others in record {
      writes = subst (λ l. WritesAll (g.O.Output.seen c.args.out.now) (g.O.Output.seen c.write_texts-in-Letters.new.out) l c.write_texts-in-Letters.result)
          (name ∙ ap (λ e. error_name (error_shown e)) (sym c.in-Letters.is)) c.write_texts-in-Letters.ensures.writes;
    }

pub returns-in-Record : goal.returns-in-Record
returns-in-Record g c =
    let name = joined-record c.in-Record.number c.as_bytes.result.now (c.as_bytes.ensures.value ∙ c.format-in-Record.ensures.text) in record {
      writes = subst (λ l. WritesAll (g.O.Output.seen c.args.out.now) (g.O.Output.seen c.write_texts-in-Record.new.out) l c.write_texts-in-Record.result)
          (name ∙ ap (λ e. error_name (error_shown e)) (sym c.in-Record.is)) c.write_texts-in-Record.ensures.writes;
    }
