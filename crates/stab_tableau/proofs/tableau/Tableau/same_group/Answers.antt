use Rattle.stab_tableau.proofs.SameStateLemmas.{answer-viewed, answer-both_viewed}
use Rattle.stab_tableau.proofs.tableau.Tableau.same_group.Goals as goal

pub returns-then-same_letters-clause-value : goal.returns-then-same_letters-clause-value
returns-then-same_letters-clause-value c =
    answer-both_viewed c.same_by_signs.result c.self.inside.table c.args.self.now c.self.view_is c.other.inside.table c.args.other.now c.other.view_is
    c.requires.same_length c.same_by_signs.ensures.value

pub returns-clause-value : goal.returns-clause-value
returns-clause-value c =
    answer-viewed c.has_stabilisers.result c.self.inside.table c.args.self.now c.self.view_is c.args.other.now c.has_stabilisers.ensures.value
