use Rattle.stab_pauli.proofs.Names.{arith, ◌<◌, set, ◌∙◌, ap, ◌++◌, length, take, drop, row_letters, with_letter}
use Rattle.stab_pauli.proofs.Lemmas.{view_of, lies_of, is_of, length-view, position_in_row, written_view, IsView, letter_view}
use Rattle.stab_pauli.proofs.pauli.Pauli.set.Goals as goal
use Rattle.stab_pauli.proofs.pauli.Pauli.set.Goals.{After-power_with-self-inside}

pub set-requires-clause-in_range : goal.set-requires-clause-in_range
set-requires-clause-in_range c = position_in_row (view_of c.self.invariant c.self.view_is) c.args.qubit c.requires.in_range

-- the string after the call
view_after : (c : After-power_with-self-inside) → IsView c.self.inside.qubits c.self.inside.blocks
    (take c.self.inside.words.len (c.set.new.row ++ drop (length c.set.new.row) c.self.inside.words.items)) c.power_with-self-inside.result
    (with_letter c.args.qubit c.args.letter c.args.self.now)
view_after c =
    let mine = view_of c.self.invariant c.self.view_is in
    let l = length-view mine in
    let lt : c.args.qubit < c.self.inside.qubits = omega arith in
    let e = c.set.ensures.letters ∙ ap (λ w. set (row_letters c.self.inside.blocks w) c.args.qubit c.args.letter) c.as_mut_slice.ensures.value in
    written_view c.set.new.row c.self.inside.words.len mine c.self.inside.words.ok.0
    (letter_view c.set.new.row c.args.qubit c.letter-old.result c.args.letter c.power_with-self-inside.result mine lt c.set.ensures.size e c.letter-old.ensures.value c.power_with-self-inside.ensures.value)

pub invariant_of-self : goal.invariant_of-self
invariant_of-self c = lies_of (view_after (goal.at.invariant_of-self c).After-power_with-self-inside)

pub returns : goal.returns
returns c = record { value = is_of (view_after (goal.at.returns c).After-power_with-self-inside) }
