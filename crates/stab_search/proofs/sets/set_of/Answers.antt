use Rattle.stab_search.proofs.Names.{subst, sym, arith, take, map, ◌+◌, slice_index, IsGathered}
use Rattle.stab_search.proofs.ShortestLemmas.{gathered-next}
use Rattle.stab_search.proofs.sets.set_of.Goals as goal

pub each-preserved : goal.each-preserved
each-preserved c =
    subst (IsGathered (map (slice_index c.args.numbers.now) (take (c.each.k-index + 1) c.args.found.now))) (sym c.in_ok-toggle_row.ensures.value)
    (gathered-next (slice_index c.args.numbers.now) c.args.found.now c.each.set.items c.each.k-index (omega (arith, c.each-test.true)) c.each.invariant)
