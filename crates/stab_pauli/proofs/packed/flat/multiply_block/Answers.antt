use Rattle.stab_pauli.proofs.Names.{arith, refl, ◌∙◌}
use Rattle.stab_pauli.proofs.Lemmas.{product-halves, block-meet}
use Rattle.stab_pauli.proofs.packed.flat.multiply_block.Goals as goal

pub returns : goal.returns
returns c = record {
  words = product-halves c.args.a c.args.b 4 c.args.words.now c.args.words.now (omega arith) (omega arith);
  meet = c.are_odd.ensures.value ∙ block-meet c.args.a c.args.b c.args.words.now c.args.words.now _ _ _ _ c.requires.a_fits c.requires.b_fits refl refl refl refl;
}
