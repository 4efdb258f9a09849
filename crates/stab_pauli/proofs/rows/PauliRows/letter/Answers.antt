use Rattle.stab_pauli.proofs.Names.{arith, ◌∙◌}
use Rattle.stab_pauli.proofs.Lemmas.{counted_seen, seen_of, position_seen, letter_seen}
use Rattle.stab_pauli.proofs.rows.PauliRows.letter.Goals as goal

pub row_of-words-requires-clause-in_range : goal.row_of-words-requires-clause-in_range
row_of-words-requires-clause-in_range c = counted_seen (seen_of c.self.invariant c.self.view_is) c.args.a c.len.result c.requires.in_range (omega (arith, c.self.inside.powers.ok.0))

pub letter-requires-clause-in_range : goal.letter-requires-clause-in_range
letter-requires-clause-in_range c =
    let mine = seen_of c.self.invariant c.self.view_is in
    position_seen mine c.args.qubit c.requires.qubit_in_range

pub returns : goal.returns
returns c =
    let mine = seen_of c.self.invariant c.self.view_is in
    record { value = c.letter.ensures.value ∙ letter_seen mine c.args.a c.args.qubit c.requires.in_range c.row_of-words.ensures.value c.as_slice.ensures.value }
