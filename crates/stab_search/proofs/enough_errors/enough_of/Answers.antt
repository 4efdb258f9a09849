use Rattle.stab_search.proofs.DistinctLemmas.{distinct-enough}
use Rattle.stab_search.proofs.enough_errors.enough_of.Goals as goal

pub returns-clause-enough : goal.returns-clause-enough
returns-clause-enough c =
    c.in_ok-put_firsts.ensures.enough c.args.table.now
    (c.in_ok-retained.ensures.enough c.args.table.now
    (distinct-enough c.args.table.now c.in_ok-errors.errors.table c.detectors.result c.in_ok-distinct.distinct.rows.items c.in_ok-errors.ensures.table c.detectors.ensures.value
    c.in_ok-distinct.ensures.all c.in_ok-distinct.distinct.numbers.items c.in_ok-distinct.ensures.rows))
