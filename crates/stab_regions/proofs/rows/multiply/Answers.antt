use Rattle.stab_regions.proofs.Names.{length}
use Rattle.stab_regions.proofs.GateLemmas.{on_ok}
use Rattle.stab_regions.proofs.MultiplyLemmas.{multiply-moves}
use Rattle.stab_regions.proofs.RowLemmas.{toggles-as}
use Rattle.stab_regions.proofs.rows.multiply.Goals as goal

pub returns-clause-strings : goal.returns-clause-strings
returns-clause-strings c =
    on_ok c.toggle_if-2.result _ _
    (λ t. multiply-moves (length c.args.by_x.now) c.args.qubit c.args.letter c.args.parities.now c.args.by_x.now c.args.by_z.now _ _ c.requires.in_range
    (toggles-as _ _ _ _ _ _ c.anticommutes.ensures.value c.in_ok-toggle_if.ensures.value) (toggles-as _ _ _ _ _ _ c.anticommutes-2.ensures.value t))
    c.toggle_if-2.ensures.value
