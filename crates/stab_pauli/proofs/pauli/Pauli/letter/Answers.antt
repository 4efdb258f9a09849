use Rattle.stab_pauli.proofs.Names.{arith, ◌<◌, get_or, sym, ◌∙◌, ap, get_or-take, I, row_letters}
use Rattle.stab_pauli.proofs.Lemmas.{view_of, length-view, position_in_row}
use Rattle.stab_pauli.proofs.pauli.Pauli.letter.Goals as goal

pub letter-requires-clause-in_range : goal.letter-requires-clause-in_range
letter-requires-clause-in_range c =
    let mine = view_of c.self.invariant c.self.view_is in
    position_in_row mine c.args.qubit c.requires.in_range

pub returns : goal.returns
returns c =
    let mine = view_of c.self.invariant c.self.view_is in
    let l = length-view mine in
    let lt : c.args.qubit < c.self.inside.qubits = omega arith in
    record {
      value =
          c.letter.ensures.value ∙ ap (λ w. get_or (row_letters c.self.inside.blocks w) c.args.qubit I) c.as_slice.ensures.value
          ∙ sym (get_or-take c.self.inside.qubits (row_letters c.self.inside.blocks c.self.inside.words.items) c.args.qubit I lt)
          ∙ ap (λ p. get_or p c.args.qubit I) (mine.letters);
    }
