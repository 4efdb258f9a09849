use Rattle.stab_pauli.proofs.Names.{refl, ◌∙◌}
use Rattle.stab_pauli.proofs.Lemmas.{power_step, AddsUp-power, IsPhaseBefore-more, IsPhaseBefore-all}
use Rattle.stab_pauli.proofs.packed.row.power.Goals as goal

pub loop-block-preserved : goal.loop-block-preserved
loop-block-preserved c =
    IsPhaseBefore-more AddsUp-power _ _ _ _ _ _ _ _ _ _ c.requires.length c.requires.length c.loop-block-test.true refl refl refl refl
    (power_step c.loop-block.count c.all_ones-count.result 4 _ _ _ _ c.all_ones-count.ensures.value) c.loop-block.invariant

pub returns : goal.returns
returns c = record { value = c.of_count.ensures.value ∙ IsPhaseBefore-all AddsUp-power _ _ _ _ _ c.loop-block-test.false c.loop-block.invariant }
