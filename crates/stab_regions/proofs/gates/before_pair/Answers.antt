use Rattle.stab_regions.proofs.Names.{arith, length, ◌<◌, ◌∙◌, sym, None}
use Rattle.stab_regions.proofs.PairLemmas.{pair-moves-as, swap-mixes}
use Rattle.stab_regions.proofs.gates.before_pair.Goals as goal

pub returns-in-None-clause-strings : goal.returns-in-None-clause-strings
returns-in-None-clause-strings c =
    let x = c.args.by_x.now in
    let z = c.args.by_z.now in
    let first_inside : c.args.first < length z = omega (arith, c.requires.first_in_range, c.requires.same_length) in
    let second_inside : c.args.second < length z = omega (arith, c.requires.second_in_range, c.requires.same_length) in
    pair-moves-as c.args.gate None (sym c.controlled_letter.ensures.value ∙ c.in-None.is) (length x) c.args.first c.args.second x z _ _ c.requires.first_in_range c.requires.second_in_range c.requires.different
    (swap-mixes c.args.first c.args.second x z _ _ c.requires.first_in_range c.requires.second_in_range first_inside second_inside c.requires.different
    c.exchange_rows.ensures.value c.exchange_rows-in-None.ensures.value)
