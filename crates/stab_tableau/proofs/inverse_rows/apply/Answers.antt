use Rattle.stab_tableau.proofs.Names.{◌∙◌, letters_anticommute}
use Rattle.stab_tableau.proofs.GateRowLemmas.{opposed-images, is-gated}
use Rattle.stab_tableau.proofs.inverse_rows.apply.Goals as goal

pub take_letters-requires-clause-opposed : goal.take_letters-requires-clause-opposed
take_letters-requires-clause-opposed c =
    let images = c.of-images.ensures in
    let x = c.before-x.ensures.value c.args.gate images.x images.y images.z in
    let z = c.before-z.ensures.value c.args.gate images.x images.y images.z in
    (λ i. letters_anticommute (x i).letter (z i).letter) ∙ opposed-images c.args.gate

pub returns : goal.returns
returns c =
    let images = c.of-images.ensures in
    record {
      gated =
          is-gated c.args.table.now c.args.qubit c.requires.in_range c.args.gate c.before-x.result c.before-z.result
          (c.before-x.ensures.value c.args.gate images.x images.y images.z)
          (c.before-z.ensures.value c.args.gate images.x images.y images.z)
          _ _ _ c.take_letters.ensures.taken c.negate_if.ensures.value c.negate_if-2.ensures.value;
    }
