use Rattle.stab_pauli.proofs.Names.{arith, refl, ◌∙◌, ap, phase_of_sign, row_letters, phase_of_sign-injective}
use Rattle.stab_pauli.proofs.Lemmas.{order_phase-step, AddsUp-order, IsPhaseBefore-more, IsPhaseBefore-all, order_phase-is}
use Rattle.stab_pauli.proofs.packed.row.anticommute.Goals as goal

pub loop-block-preserved : goal.loop-block-preserved
loop-block-preserved c =
    IsPhaseBefore-more AddsUp-order _ _ _ _ _ _ _ _ _ _ c.requires.length c.requires.other_length c.loop-block-test.true refl refl refl refl
    (order_phase-step 64 4 c.loop-block.meets _ _ _ _ (omega arith)) c.loop-block.invariant

pub returns : goal.returns
returns c = record {
  value = phase_of_sign-injective _ _
      (ap phase_of_sign c.are_odd.ensures.value ∙ IsPhaseBefore-all AddsUp-order _ _ _ _ _ c.loop-block-test.false c.loop-block.invariant
      ∙ order_phase-is (row_letters c.args.blocks c.args.row.now) (row_letters c.args.blocks c.args.other.now));
}
