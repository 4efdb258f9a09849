use Rattle.stab_pauli.proofs.Names.{arith, ◌≡◌, ◌+◌, ◌∙◌, ap, get_or, set, bit_at, length-set, get_or-set_other, letter_of_bits}
use Rattle.stab_pauli.proofs.Lemmas.{row_letters-set}
use Rattle.stab_pauli.proofs.packed.row.set.Goals as goal

pub returns : goal.returns
returns c =
    let z_unread : get_or (set c.args.row.now c.x_word-at.result c.with_bit.result) (c.x_word-at.result + 4) 0 ≡ get_or c.args.row.now (c.x_word-at.result + 4) 0 =
    get_or-set_other c.args.row.now c.x_word-at.result (c.x_word-at.result + 4) c.with_bit.result 0 (omega arith) in
    record {
      size = length-set (set c.args.row.now c.x_word-at.result c.with_bit.result) (c.x_word-at.result + 4) c.with_bit-2.result ∙ length-set c.args.row.now c.x_word-at.result c.with_bit.result ∙ c.requires.length;
      letters = row_letters-set c.args.blocks c.args.row.now c.args.qubit c.x_word-at.result c.with_bit.result c.with_bit-2.result c.args.letter c.requires.length c.requires.in_range c.x_word-at.ensures.value
          ((λ i. letter_of_bits (c.with_bit.ensures.same i) (c.with_bit-2.ensures.same i)) ∙ c.bits_of-x.ensures.value)
          c.with_bit.ensures.others (λ k ne lt. c.with_bit-2.ensures.others k ne lt ∙ ap (λ w. bit_at w k) z_unread);
    }
