use Rattle.stab_search.proofs.Names.{◌≡◌, ◌<◌, ◌+◌, ◌-◌, ◌*◌, ◌/◌, ℕ, List, true, has, subst, ◌∙◌, sym, arith, length, ForEach, refl, false≢true, div-mul-le_self}
use Rattle.stab_search.proofs.CoverLemmas.{meet-rarest, meet-covering, shared}
use Rattle.stab_search.proofs.EndLemmas.{meet-last}
use Rattle.stab_search.proofs.candidates.candidates.Goals as goal

pub returns-then-left-eq1-clause-meet : goal.returns-then-left-eq1-clause-meet
returns-then-left-eq1-clause-meet c =
    meet-last c.args.errors.now.table c.args.errors.now.numbers c.args.errors.now.pairs c.args.first c.args.path.now c.args.flipped.now c.with_key.ensures.numbered
    c.args.left c.in_ok-last.last.items c.if-left-eq1.true
    (λ e inside same. subst (λ (xs : List ℕ). has e xs ≡ true) (sym c.in_ok-last.ensures.items) (c.with_key.ensures.complete e inside (same ∙ sym c.requires.keyed.value)))

pub returns-then-left-eq-PLAIN-clause-meet : goal.returns-then-left-eq-PLAIN-clause-meet
returns-then-left-eq-PLAIN-clause-meet c =
    meet-rarest c.args.errors.now.table c.args.errors.now.pairs c.args.first c.args.path.now c.args.flipped.now c.detectors_of-detectors.result.now
    c.detectors_of-detectors.ensures.inside c.detectors_of-detectors.ensures.flipped c.args.left c.seldom.result c.in_ok-all.all.items c.seldom.ensures.among
    (λ e inside may flips. subst (λ (xs : List ℕ). has e xs ≡ true) (sym c.in_ok-all.ensures.items) (c.flipping-one.ensures.complete e inside flips))

pub returns-then-len-clause-inside : goal.returns-then-len-clause-inside
returns-then-len-clause-inside c =
    let same : length c.leave_out.new.cover ≡ length c.args.errors.now.table.rows = omega (arith, c.requires.cover, c.count.ensures.length, c.leave_out.ensures.length) in
    subst (λ n. ForEach (λ r. r < n) c.in_ok-by_rarest.by_rarest.items) same c.in_ok-by_rarest.ensures.inside

pub returns-then-len-clause-meet : goal.returns-then-len-clause-meet
returns-then-len-clause-meet c =
    let t = c.args.errors.now.table in
    let ds = c.detectors_of-detectors.result.now in
    meet-rarest t c.args.errors.now.pairs c.args.first c.args.path.now c.args.flipped.now ds c.detectors_of-detectors.ensures.inside
    c.detectors_of-detectors.ensures.flipped c.args.left c.rarest.result c.in_ok-by_rarest.by_rarest.items c.rarest.ensures.among
    (λ e inside may flips.
    let covered = c.count.ensures.covers e inside (record { later = may.later; fresh = refl; unpaired = λ a none. absurd (false≢true none) }) in
    let same = c.leave_out.ensures.others e may.fresh may.unpaired in
    let some = shared t.rows e c.rarest.result ds c.rarest.ensures.among flips in
    c.in_ok-by_rarest.ensures.all e (c.flipping-rarest.ensures.complete e inside flips)
    (omega (arith, inside, c.requires.cover, c.count.ensures.length, c.leave_out.ensures.length)) (omega (arith, covered, same, some)))

pub returns-else-len-clause-inside : goal.returns-else-len-clause-inside
returns-else-len-clause-inside c =
    let same : length c.leave_out.new.cover ≡ length c.args.errors.now.table.rows = omega (arith, c.requires.cover, c.count.ensures.length, c.leave_out.ensures.length) in
    subst (λ n. ForEach (λ r. r < n) c.in_ok-by_cover.by_cover.items) same c.in_ok-by_cover.ensures.inside

pub returns-else-len-clause-meet : goal.returns-else-len-clause-meet
returns-else-len-clause-meet c =
    let t = c.args.errors.now.table in
    let ds = c.detectors_of-detectors.result.now in
    let some : 0 < length ds = c.detectors_of-detectors.ensures.some c.requires.some c.requires.detector in
    let few = div-mul-le_self (length ds - 1) c.args.left in
    let least : ℕ = (length ds - 1) / c.args.left + 1 in
    let same : least - 1 ≡ (length ds - 1) / c.args.left = omega arith in
    meet-covering t c.args.errors.now.pairs c.args.first c.args.path.now c.args.flipped.now ds c.detectors_of-detectors.ensures.inside
    c.detectors_of-detectors.ensures.flipped c.args.left least c.in_ok-by_cover.by_cover.items (omega arith) (subst (λ k. k * c.args.left < length ds) (sym same) (omega (arith, few, some)))
    (λ e d inside may many among flips.
    let covered = c.count.ensures.covers e inside (record { later = may.later; fresh = refl; unpaired = λ a none. absurd (false≢true none) }) in
    let retained = c.leave_out.ensures.others e may.fresh may.unpaired in
    c.in_ok-by_cover.ensures.all e d (omega (arith, inside, c.requires.cover, c.count.ensures.length, c.leave_out.ensures.length))
    (omega (arith, covered, retained, many)) among inside flips)
