use Rattle.stab_circuit.proofs.Names.{sym, ◌∙◌}
use Rattle.stab_circuit.proofs.FrontTargetLemmas.{record_parts, record_begins, record_shorter}
use Rattle.stab_circuit.proofs.target.record_at_front.Goals as goal

pub returns-then-ends_word-clause-value : goal.returns-then-ends_word-clause-value
returns-then-ends_word-clause-value c =
    record_begins c.args.bytes.now c.without_spacing_in_front-bytes.result.now c.split_at.result.1.now c.split_at-3.result.1.now c.digits_in_front-length.result.0 c.digits_in_front-length.result.1
    c.without_spacing_in_front-bytes.ensures.value
    (record_parts c.without_spacing_in_front-bytes.result.now c.split_at.result.1.now c.split_at-2.result.1.now c.split_at-3.result.1.now c.digits_in_front-length.result.0
    (sym c.starts_with.ensures.value ∙ c.if-not-starts_with.false) c.split_at.ensures.back c.split_at-2.ensures.back (sym c.starts_with-2.ensures.value ∙ c.if-not-starts_with-2.false) c.split_at-3.ensures.back)
    c.digits_in_front-length.ensures.digits c.digits_in_front-length.ensures.value c.if-number-gt0.true c.if-number-le-MOST_LOOKBACK.true (sym c.ends_word.ensures.value ∙ c.if-ends_word.true)

pub returns-then-ends_word-clause-shorter : goal.returns-then-ends_word-clause-shorter
returns-then-ends_word-clause-shorter c =
    record_shorter c.args.bytes.now c.without_spacing_in_front-bytes.result.now c.split_at.result.1.now c.split_at-3.result.1.now c.digits_in_front-length.result.0
    c.without_spacing_in_front-bytes.ensures.value
    (record_parts c.without_spacing_in_front-bytes.result.now c.split_at.result.1.now c.split_at-2.result.1.now c.split_at-3.result.1.now c.digits_in_front-length.result.0
    (sym c.starts_with.ensures.value ∙ c.if-not-starts_with.false) c.split_at.ensures.back c.split_at-2.ensures.back (sym c.starts_with-2.ensures.value ∙ c.if-not-starts_with-2.false) c.split_at-3.ensures.back)
