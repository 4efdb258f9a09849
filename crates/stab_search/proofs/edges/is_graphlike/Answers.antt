use Rattle.stab_search.proofs.Names.{arith, leb-true, leb-false}
use Rattle.stab_search.proofs.EdgeLemmas.{graphlike-beyond, not-graphlike}
use Rattle.stab_search.proofs.edges.is_graphlike.Goals as goal

pub returns-then-numbers-lt3-clause-yes : goal.returns-then-numbers-lt3-clause-yes
returns-then-numbers-lt3-clause-yes c = λ yes.
    graphlike-beyond c.args.detectors c.args.numbers.now c.requires.ascending (λ more. absurd (omega (arith, more, c.if-numbers-lt3.true)))

pub returns-else-numbers-lt3-clause-yes : goal.returns-else-numbers-lt3-clause-yes
returns-else-numbers-lt3-clause-yes c = λ yes.
    let le = leb-true _ _ yes in
    graphlike-beyond c.args.detectors c.args.numbers.now c.requires.ascending (λ more. omega (arith, le))

pub returns-else-numbers-lt3-clause-not : goal.returns-else-numbers-lt3-clause-not
returns-else-numbers-lt3-clause-not c = λ no.
    let lt = leb-false _ _ no in
    not-graphlike c.args.detectors c.args.numbers.now c.requires.ascending (omega (arith, c.if-numbers-lt3.false)) (omega (arith, lt))
