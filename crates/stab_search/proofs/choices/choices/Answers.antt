use Rattle.stab_search.proofs.Names.{◌≡◌, ◌<◌, ◌+◌, ◌-◌, ◌*◌, ◌/◌, ℕ, ◌∙◌, subst, sym, arith, length, ForEach, div-mul-le_self}
use Rattle.stab_search.proofs.ChoiceLemmas.{meet-keyed, meet-detector, meet-many}
use Rattle.stab_search.proofs.choices.choices.Goals as goal

pub returns-then-left-eq1-clause-meet : goal.returns-then-left-eq1-clause-meet
returns-then-left-eq1-clause-meet c =
    meet-keyed c.args.errors.now.table c.args.weights.now c.args.flipped.now c.args.errors.now.numbers c.args.left c.in_ok-last.last.items c.with_key.ensures.numbered c.if-left-eq1.true
    (λ e inside some same. c.in_ok-last.ensures.all e (c.with_key.ensures.complete e inside (same ∙ sym c.requires.keyed.value)) (omega (arith, inside, c.requires.weights)) some)

pub returns-then-left-eq2-clause-inside : goal.returns-then-left-eq2-clause-inside
returns-then-left-eq2-clause-inside c = subst (λ n. ForEach (λ r. r < n) c.in_ok-by_rarest.by_rarest.items) c.requires.weights c.in_ok-by_rarest.ensures.inside

pub returns-then-left-eq2-clause-meet : goal.returns-then-left-eq2-clause-meet
returns-then-left-eq2-clause-meet c =
    meet-detector c.args.errors.now.table c.args.weights.now c.args.flipped.now c.detectors_of-detectors.result.now c.detectors_of-detectors.ensures.inside
    c.detectors_of-detectors.ensures.flipped c.args.left c.seldom.result c.in_ok-by_rarest.by_rarest.items c.seldom.ensures.among
    (λ e inside some flips. c.in_ok-by_rarest.ensures.all e (c.flipping-rarest.ensures.complete e inside flips) (omega (arith, inside, c.requires.weights)) some)

pub returns-then-len-clause-inside : goal.returns-then-len-clause-inside
returns-then-len-clause-inside c = subst (λ n. ForEach (λ r. r < n) c.in_ok-by_rarest.by_rarest.items) c.requires.weights c.in_ok-by_rarest.ensures.inside

pub returns-then-len-clause-meet : goal.returns-then-len-clause-meet
returns-then-len-clause-meet c =
    meet-detector c.args.errors.now.table c.args.weights.now c.args.flipped.now c.detectors_of-detectors.result.now c.detectors_of-detectors.ensures.inside
    c.detectors_of-detectors.ensures.flipped c.args.left c.seldom.result c.in_ok-by_rarest.by_rarest.items c.seldom.ensures.among
    (λ e inside some flips. c.in_ok-by_rarest.ensures.all e (c.flipping-rarest.ensures.complete e inside flips) (omega (arith, inside, c.requires.weights)) some)

pub returns-else-len-clause-inside : goal.returns-else-len-clause-inside
returns-else-len-clause-inside c =
    let same : length c.count_shares.new.cover ≡ length c.args.errors.now.table.rows = omega (arith, c.requires.cover, c.count_shares.ensures.length) in
    subst (λ n. ForEach (λ r. r < n) c.in_ok-by_cover.by_cover.items) same c.in_ok-by_cover.ensures.inside

pub returns-else-len-clause-meet : goal.returns-else-len-clause-meet
returns-else-len-clause-meet c =
    let ds = c.detectors_of-detectors.result.now in
    let some : 0 < length ds = c.detectors_of-detectors.ensures.some c.requires.some c.requires.detector in
    let few = div-mul-le_self (length ds - 1) c.args.left in
    let least : ℕ = (length ds - 1) / c.args.left + 1 in
    let same : least - 1 ≡ (length ds - 1) / c.args.left = omega arith in
    meet-many c.args.errors.now.table c.args.weights.now c.args.flipped.now ds c.detectors_of-detectors.ensures.inside
    c.detectors_of-detectors.ensures.flipped c.args.left least c.in_ok-by_cover.by_cover.items (omega arith) (subst (λ k. k * c.args.left < length ds) (sym same) (omega (arith, few, some)))
    (λ e d inside weighed many among flips.
    let covered = c.count_shares.ensures.covers e inside weighed in
    c.in_ok-by_cover.ensures.all e d (omega (arith, inside, c.requires.cover, c.count_shares.ensures.length)) (omega (arith, covered, many)) among inside flips)
