use Rattle.stab_pauli.proofs.Names.{sym, ◌∙◌, letter_of_bits}
use Rattle.stab_pauli.proofs.Lemmas.{letter_at_position}
use Rattle.stab_pauli.proofs.packed.row.letter.Goals as goal

pub returns : goal.returns
returns c = record {
  value =
      c.letter_of.ensures.value ∙ (λ i. letter_of_bits (c.bit_of.ensures.value i) (c.bit_of-2.ensures.value i))
      ∙ sym (letter_at_position c.args.blocks c.args.row.now c.args.qubit c.x_word-at.result c.requires.length c.requires.in_range c.x_word-at.ensures.value);
}
