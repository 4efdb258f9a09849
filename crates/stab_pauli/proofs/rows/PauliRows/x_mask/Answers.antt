use Rattle.stab_pauli.proofs.Names.{arith, ◌+◌, ◌*◌, ◌∙◌, ap, has_x}
use Rattle.stab_pauli.proofs.Lemmas.{counted_seen, seen_of, position_seen, letter_seen}
use Rattle.stab_pauli.proofs.rows.PauliRows.x_mask.Goals as goal

pub row_of-words-requires-clause-in_range : goal.row_of-words-requires-clause-in_range
row_of-words-requires-clause-in_range c = counted_seen (seen_of c.self.invariant c.self.view_is) c.args.a c.len.result c.requires.in_range (omega (arith, c.self.inside.powers.ok.0))

pub x_mask-requires-clause-in_range : goal.x_mask-requires-clause-in_range
x_mask-requires-clause-in_range c =
    let within = position_seen (seen_of c.self.invariant c.self.view_is) (64 * c.args.word) c.requires.some in
    omega (arith, within)

pub returns : goal.returns
returns c =
    let mine = seen_of c.self.invariant c.self.view_is in
    record {
      value = λ j lj. c.x_mask.ensures.value j lj
          ∙ ap has_x (letter_seen mine c.args.a (64 * c.args.word + j) c.requires.in_range c.row_of-words.ensures.value c.as_slice.ensures.value);
    }
