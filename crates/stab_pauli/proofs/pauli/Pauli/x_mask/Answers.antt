use Rattle.stab_pauli.proofs.Names.{◌+◌, ◌*◌, sym, ◌∙◌, ap, get_or, arith, I, has_x, row_letters}
use Rattle.stab_pauli.proofs.Lemmas.{view_of, position_in_row, string-letter}
use Rattle.stab_pauli.proofs.pauli.Pauli.x_mask.Goals as goal

pub x_mask-requires-clause-in_range : goal.x_mask-requires-clause-in_range
x_mask-requires-clause-in_range c =
    let within = position_in_row (view_of c.self.invariant c.self.view_is) (64 * c.args.word) c.requires.some in
    omega (arith, within)

pub returns : goal.returns
returns c =
    let mine = view_of c.self.invariant c.self.view_is in
    let m = c.self.inside.blocks in
    record {
      value = λ k lk. c.x_mask.ensures.value k lk
          ∙ ap (λ w. has_x (get_or (row_letters m w) (64 * c.args.word + k) I)) c.as_slice.ensures.value
          ∙ ap has_x (sym (string-letter c.self.inside.qubits m c.self.inside.words.items mine.row (64 * c.args.word + k)) ∙ ap (λ p. get_or p (64 * c.args.word + k) I) mine.letters);
    }
