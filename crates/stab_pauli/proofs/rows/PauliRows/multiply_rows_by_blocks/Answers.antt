use Rattle.stab_pauli.proofs.Names.{◌+◌, ◌∙◌, sym, ap, arith, subst, AreChosen, CoversSupport, Signed, anticommute, row_at, product_times_i_if, blocks_of}
use Rattle.stab_pauli.proofs.Lemmas.{view_of, lies_of, is_of, seen_of, string_viewed, words-covered}
use Rattle.stab_pauli.proofs.rows.PauliRows.multiply_rows_by_blocks.Goals as goal

pub multiply_rows_in_support-requires-clause-support : goal.multiply_rows_in_support-requires-clause-support
multiply_rows_in_support-requires-clause-support c =
    let view = string_viewed (seen_of c.self.invariant c.self.view_is) (view_of c.other.invariant c.other.view_is) c.requires.same_length c.as_slice-words.result.now c.as_slice-words.ensures.value in
    words-covered c.args.self.now.qubits (blocks_of c.args.self.now.qubits) c.args.support c.as_slice-words.result.now view.row (omega (arith, c.requires.few)) c.are_short.ensures.law
    (subst (CoversSupport c.args.support) (sym view.letters) c.requires.support)

pub multiply_rows_in_support-requires-clause-string : goal.multiply_rows_in_support-requires-clause-string
multiply_rows_in_support-requires-clause-string c =
    lies_of (string_viewed (seen_of c.self.invariant c.self.view_is) (view_of c.other.invariant c.other.view_is) c.requires.same_length c.as_slice-words.result.now c.as_slice-words.ensures.value)

pub multiply_rows_in_support-requires-clause-anticommuting : goal.multiply_rows_in_support-requires-clause-anticommuting
multiply_rows_in_support-requires-clause-anticommuting c =
    let view = string_viewed (seen_of c.self.invariant c.self.view_is) (view_of c.other.invariant c.other.view_is) c.requires.same_length c.as_slice-words.result.now c.as_slice-words.ensures.value in
    λ k lk one. ap (anticommute (row_at c.args.self.now (c.args.first + k))) (is_of view) ∙ c.requires.anticommuting k lk one

pub returns-then-support-self : goal.returns-then-support-self
returns-then-support-self c =
    let view = string_viewed (seen_of c.self.invariant c.self.view_is) (view_of c.other.invariant c.other.view_is) c.requires.same_length c.as_slice-words.result.now c.as_slice-words.ensures.value in
    record {
      value = subst (λ (p : Signed). AreChosen c.args.first c.args.mask (λ b q. product_times_i_if b q p) c.args.self.now c.multiply_rows_in_support.new.self) (is_of view) c.multiply_rows_in_support.ensures.value;
    }
