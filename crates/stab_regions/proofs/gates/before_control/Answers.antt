use Rattle.stab_regions.proofs.Names.{arith, length, ◌<◌, Some}
use Rattle.stab_regions.proofs.GateLemmas.{on_ok}
use Rattle.stab_regions.proofs.PairLemmas.{pair-moves-as, control-mixes}
use Rattle.stab_regions.proofs.RowLemmas.{toggles-by, toggles-as}
use Rattle.stab_regions.proofs.gates.before_control.Goals as goal

pub returns-clause-strings : goal.returns-clause-strings
returns-clause-strings c =
    let x = c.args.by_x.now in
    let z = c.args.by_z.now in
    let a = c.args.first in
    let b = c.args.second in
    let first_inside : a < length z = omega (arith, c.requires.first_in_range, c.requires.same_length) in
    let second_inside : b < length z = omega (arith, c.requires.second_in_range, c.requires.same_length) in
    let with_x = c.anticommutes-with_x.ensures.value in
    let with_z = c.anticommutes-with_z.ensures.value in
    on_ok c.toggle_within_if-2.result _ _
    (λ t gate is. pair-moves-as gate (Some c.args.letter) is (length x) a b x z _ _ c.requires.first_in_range c.requires.second_in_range c.requires.different
    (control-mixes c.args.letter a b x z _ _ _ _ c.requires.different
    (toggles-as _ _ _ _ _ _ with_z c.in_ok-toggle_within_if.ensures.value)
    (toggles-as _ _ _ _ _ _ with_x (toggles-by _ _ _ _ z b _ second_inside c.in_ok-toggle_if.ensures.value))
    (toggles-as _ _ _ _ _ _ with_x (toggles-by _ _ _ _ z a _ first_inside c.in_ok-toggle_if-2.ensures.value))
    (toggles-as _ _ _ _ _ _ with_z t)))
    c.toggle_within_if-2.ensures.value
