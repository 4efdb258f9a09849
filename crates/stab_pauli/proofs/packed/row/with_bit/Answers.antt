use Rattle.stab_pauli.proofs.Names.{◌∙◌, ap, sym, eqb, bit_at_set_same, bit_at_set_other, bit_at_clear_same, bit_at_clear_other, w64}
use Rattle.stab_pauli.proofs.packed.row.with_bit.Goals as goal

pub returns-then-value-clause-same : goal.returns-then-value-clause-same
returns-then-value-clause-same c = ap (λ n. eqb n 1) (bit_at_set_same w64 c.args.word c.args.bit c.requires.in_range) ∙ sym c.if-value.true

pub returns-else-value-clause-same : goal.returns-else-value-clause-same
returns-else-value-clause-same c = ap (λ n. eqb n 1) (bit_at_clear_same w64 c.args.word c.args.bit c.requires.in_range) ∙ sym c.if-value.false

pub returns-then-value-clause-others : goal.returns-then-value-clause-others
returns-then-value-clause-others c = λ k ne lt. bit_at_set_other w64 c.args.word c.args.bit c.requires.in_range k ne

pub returns-else-value-clause-others : goal.returns-else-value-clause-others
returns-else-value-clause-others c = λ k ne lt. bit_at_clear_other w64 c.args.word c.args.bit c.requires.in_range k lt ne
