use Rattle.stab_pauli.proofs.Names.{arith, refl, sym, ◌∙◌, ◌+◌, bit_and, chunk, length-zip2, length-chunk}
use Rattle.stab_pauli.proofs.Lemmas.{product-halves, block-meet}
use Rattle.stab_pauli.proofs.packed.support.multiply_block.Goals as goal

pub returns-clause-words : goal.returns-clause-words
returns-clause-words c = product-halves c.args.at c.args.at 4 c.args.row.now c.args.other.now c.requires.fits c.requires.other_fits

pub returns-clause-size : goal.returns-clause-size
returns-clause-size c =
    let z = length-chunk (c.args.at + 4) 4 c.args.row.now (omega (arith, c.requires.fits)) in
    let x = length-chunk c.args.at 4 c.args.other.now (omega (arith, c.requires.other_fits)) in
    length-zip2 bit_and (chunk (c.args.at + 4) 4 c.args.row.now) (chunk c.args.at 4 c.args.other.now) (z ∙ sym x) ∙ z

pub returns-clause-meet : goal.returns-clause-meet
returns-clause-meet c = block-meet c.args.at c.args.at c.args.row.now c.args.other.now _ _ _ _ c.requires.fits c.requires.other_fits refl refl refl refl
