use Rattle.stab_circuit.proofs.Names.{inl, subst, sym, ap, ◌∙◌, Ok, option_copied, err_from_is_err_and, content_of, meaning_of, IsOneLine}
use Rattle.stab_instructions.specs.declared.operation.Line.TheVariants as line
use Rattle.stab_circuit.proofs.FirstLineLemmas.{one_line_first, split_cut, some_first, some_reported}
use Rattle.stab_circuit.proofs.KnownLineLemmas.{reported_good}
use Rattle.stab_circuit.proofs.reader.CircuitReader.take_new.Goals as goal

pub plain-requires : goal.plain-requires
plain-requires c = record { good = reported_good c.args.text.now c.in_ok-kind.field-0 (c.in-Some.kind, c.in-Some.after) c.in-Some.is c.in_ok-kind.ensures.reports }

pub take_instruction-requires-clause-whole : goal.take_instruction-requires-clause-whole
take_instruction-requires-clause-whole c =
    let d = some_reported c.args.text.now c.in_ok-kind.field-0 (c.in-Some.kind, c.in-Some.after) c.in-Some.is c.in_ok-kind.ensures.reports in
    subst IsOneLine (sym (c.before_lines-bytes.ensures.value d.0 (split_cut c.args.text.now d.0 (option_copied c.in-Some.after) d.1))) (one_line_first c.args.text.now d.0 _ d.1)

pub take_instruction-requires-clause-means : goal.take_instruction-requires-clause-means
take_instruction-requires-clause-means c =
    let d = some_reported c.args.text.now c.in_ok-kind.field-0 (c.in-Some.kind, c.in-Some.after) c.in-Some.is c.in_ok-kind.ensures.reports in
    ap (λ b. meaning_of (content_of b)) (c.before_lines-bytes.ensures.value d.0 (split_cut c.args.text.now d.0 (option_copied c.in-Some.after) d.1)) ∙ d.2 ∙ ap (λ o. Ok (line.Operation o)) (sym c.plain.ensures.value)

pub returns-in_err-kind-clause-gives : goal.returns-in_err-kind-clause-gives
returns-in_err-kind-clause-gives c =
    let p = err_from_is_err_and c.from_residual.result c.from_residual.ensures.1 in
    let f = some_first c.args.text.now in
    rw (p.1, p.2) (f.0, f.1, f.2, tt, inl c.in_err-kind.ensures.reports)

pub take_content-requires-clause-whole : goal.take_content-requires-clause-whole
take_content-requires-clause-whole c = one_line_first c.args.text.now _ _ c.first_piece.ensures.value
