use Rattle.stab_tableau.proofs.Names.{◌*◌, ◌∙◌, ap, letters_anticommute, row_letter}
use Rattle.stab_tableau.proofs.AnticommutingRowsLemmas.{distinct-next}
use Rattle.stab_tableau.proofs.observable.rows_anticommuting_with_string.Goals as goal

pub loop-rest-preserved : goal.loop-rest-preserved
loop-rest-preserved c =
    distinct-next (32 * c.args.group) c.loop-rest.rest c.loop-rest.mask c.args.pauli.now.letters c.loop-rest.invariant c.first-k.result
    c.with_anticommuting_rows-mask.result c.without-rest.result
    (λ w. c.with_anticommuting_rows-mask.ensures.here w ∙ ap (letters_anticommute (row_letter w)) c.letter.ensures.value) c.with_anticommuting_rows-mask.ensures.others
    c.without-rest.ensures.gone c.without-rest.ensures.others
