use Rattle.stab_pauli.proofs.Names.{◌+◌, ◌∙◌, ap, subst, AreChosen, Signed, anticommute, row_at, product_times_i_if}
use Rattle.stab_pauli.proofs.Lemmas.{view_of, lies_of, is_of, seen_of, block_viewed}
use Rattle.stab_pauli.proofs.rows.PauliRows.multiply_rows_by_times_i.Goals as goal

pub multiply_rows_by_block-requires-clause-string : goal.multiply_rows_by_block-requires-clause-string
multiply_rows_by_block-requires-clause-string c =
    lies_of (block_viewed (seen_of c.self.invariant c.self.view_is) (view_of c.other.invariant c.other.view_is) c.requires.same_length c.if-self-eq1.true c.as_slice-words.result.now c.as_slice-words.ensures.value)

pub multiply_rows_by_block-requires-clause-anticommuting : goal.multiply_rows_by_block-requires-clause-anticommuting
multiply_rows_by_block-requires-clause-anticommuting c =
    let view = block_viewed (seen_of c.self.invariant c.self.view_is) (view_of c.other.invariant c.other.view_is) c.requires.same_length c.if-self-eq1.true c.as_slice-words.result.now c.as_slice-words.ensures.value in
    λ k lk one. ap (anticommute (row_at c.args.self.now (c.args.first + k))) (is_of view) ∙ c.requires.anticommuting k lk one

pub returns-then-self-eq1 : goal.returns-then-self-eq1
returns-then-self-eq1 c =
    let view = block_viewed (seen_of c.self.invariant c.self.view_is) (view_of c.other.invariant c.other.view_is) c.requires.same_length c.if-self-eq1.true c.as_slice-words.result.now c.as_slice-words.ensures.value in
    record {
      value = subst (λ (p : Signed). AreChosen c.args.first c.args.mask (λ b q. product_times_i_if b q p) c.args.self.now c.multiply_rows_by_block.new.self) (is_of view) c.multiply_rows_by_block.ensures.value;
    }
