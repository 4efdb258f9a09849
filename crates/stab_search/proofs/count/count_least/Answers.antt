use Rattle.stab_search.proofs.Names.{◌≡◌, ◌<◌, ◌+◌, ◌-◌, ℕ, List, [], ◌∙◌, sym, ap, subst, arith, length, ForEach, has, ways, ReportsNumber}
use Rattle.stab_search.proofs.CountLemmas.{count-nothing, groups-count, groups-none, groups-fewer, groups-reported}
use Rattle.stab_search.proofs.TryLemmas.{part-whole, none-first}
use Rattle.stab_search.proofs.count.count_least.Goals as goal

pub returns-then-size-eq0-clause-count : goal.returns-then-size-eq0-clause-count
returns-then-size-eq0-clause-count c = count-nothing c.args.table.now c.args.size c.if-size-eq0.true

pub try_each-requires-clause-none : goal.try_each-requires-clause-none
try_each-requires-clause-none c =
    groups-none c.args.table.now c.in_ok-errors.errors.table c.detectors.result c.in_ok-groups.groups.rows.items c.in_ok-groups.groups.weights.items
    c.in_ok-errors.ensures.table c.detectors.ensures.value c.in_ok-groups.ensures.groups c.args.size c.requires.least (c.args.size - 1) (omega (arith, c.if-size-eq0.false))

pub try_each-requires-clause-fewer : goal.try_each-requires-clause-fewer
try_each-requires-clause-fewer c =
    groups-fewer c.args.table.now c.in_ok-errors.errors.table c.detectors.result c.in_ok-groups.groups.rows.items c.in_ok-groups.groups.weights.items
    c.in_ok-errors.ensures.table c.detectors.ensures.value c.in_ok-groups.ensures.groups c.args.size c.requires.least (c.args.size - 1 + 1) (omega (arith, c.if-size-eq0.false))

pub try_each-requires-clause-inside : goal.try_each-requires-clause-inside
try_each-requires-clause-inside c = subst (ForEach (λ e. e < length c.in_ok-errors.errors.table.rows)) (sym c.as_slice.ensures.value) c.in_ok-firsts.ensures.inside

pub returns-clause-count : goal.returns-clause-count
returns-clause-count c =
    let t = c.args.table.now in
    let part = c.in_ok-errors.errors.table in
    let rows = c.in_ok-groups.groups.rows.items in
    let weights = c.in_ok-groups.groups.weights.items in
    let before = c.as_mut_slice.result.now in
    let after = c.try_each.new.weights in
    let left : ℕ = c.args.size - 1 + 1 in
    let all : left ≡ c.args.size = omega (arith, c.if-size-eq0.false) in
    let count = groups-count t part c.detectors.result rows weights c.in_ok-errors.ensures.table c.detectors.ensures.value c.in_ok-groups.ensures.groups c.args.size c.requires.least in
    groups-reported t part c.detectors.result rows weights c.in_ok-errors.ensures.table c.detectors.ensures.value c.in_ok-groups.ensures.groups c.args.size c.requires.least
    left c.in_ok-count.count all
    (subst (λ (ws : List ℕ). ReportsNumber (ways part.detectors part.rows ws left []) c.in_ok-count.count) c.as_mut_slice.ensures.value
    (part-whole part before after [] left c.in_ok-count.count c.in_ok-count.ensures.count
    (none-first part before after left c.as_slice.result.now (c.in_ok-count.ensures.weights ∙ ap length c.as_mut_slice.ensures.value ∙ count)
    (λ e o lt le flips. ap (has e) c.as_slice.ensures.value ∙ c.in_ok-firsts.ensures.all e o lt le flips)
    c.in_ok-count.ensures.zero c.in_ok-count.ensures.others)))
