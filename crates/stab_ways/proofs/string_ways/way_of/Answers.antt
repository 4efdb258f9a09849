use Rattle.stab_ways.proofs.Names.{refl, sym, ap, subst, All, arith, length, map, StepFits, listed, unroll, circuit_items, check-fits, check-whole, few_steps, turn_shown, walk_shown}
use Rattle.stab_ways.proofs.EndLemmas.{walk-found}
use Rattle.stab_ways.proofs.string_ways.way_of.Goals as goal

pub over_items-requires-clause-fits : goal.over_items-requires-clause-fits
over_items-requires-clause-fits c =
    subst (λ xs. All (StepFits (length c.args.string.now.letters)) (unroll (listed xs))) (sym c.items.ensures.value)
    (check-fits (length c.args.string.now.letters) (circuit_items c.args.circuit.now) (unroll (circuit_items c.args.circuit.now)) c.requires.checked refl c.items.ensures.distinct)

pub over_items-requires-clause-few : goal.over_items-requires-clause-few
over_items-requires-clause-few c =
    omega (
      arith,
      few_steps (circuit_items c.args.circuit.now) (check-whole (length c.args.string.now.letters) (circuit_items c.args.circuit.now) c.requires.checked),
      ap (λ xs. length (unroll (listed xs))) c.items.ensures.value,
    )

pub returns-clause-turns : goal.returns-clause-turns
returns-clause-turns c =
    (walk-found c.args.every (length c.args.string.now.letters) c.len-n.result c.args.position c.args.string.now.letters (circuit_items c.args.circuit.now) (listed c.items.result.now)
    c.in_ok-new.field-0 (map turn_shown c.new-2.result.items) (walk_shown c.over_items.new.walk) (walk_shown c.finish.new.walk) refl c.len-n.ensures.value c.in_ok-new.ensures.value
    (ap (map turn_shown) c.new-2.ensures.items) (ap listed c.items.ensures.value) c.in_ok-over_items.ensures.over c.finish.ensures.value).turns

pub returns-clause-flips : goal.returns-clause-flips
returns-clause-flips c =
    (walk-found c.args.every (length c.args.string.now.letters) c.len-n.result c.args.position c.args.string.now.letters (circuit_items c.args.circuit.now) (listed c.items.result.now)
    c.in_ok-new.field-0 (map turn_shown c.new-2.result.items) (walk_shown c.over_items.new.walk) (walk_shown c.finish.new.walk) refl c.len-n.ensures.value c.in_ok-new.ensures.value
    (ap (map turn_shown) c.new-2.ensures.items) (ap listed c.items.ensures.value) c.in_ok-over_items.ensures.over c.finish.ensures.value).flips

pub returns-clause-left : goal.returns-clause-left
returns-clause-left c =
    (walk-found c.args.every (length c.args.string.now.letters) c.len-n.result c.args.position c.args.string.now.letters (circuit_items c.args.circuit.now) (listed c.items.result.now)
    c.in_ok-new.field-0 (map turn_shown c.new-2.result.items) (walk_shown c.over_items.new.walk) (walk_shown c.finish.new.walk) refl c.len-n.ensures.value c.in_ok-new.ensures.value
    (ap (map turn_shown) c.new-2.ensures.items) (ap listed c.items.ensures.value) c.in_ok-over_items.ensures.over c.finish.ensures.value).left

pub returns-clause-runs : goal.returns-clause-runs
returns-clause-runs c = λ coins.
    c.strings_flip_runs.ensures.law (length c.args.string.now.letters) c.args.position c.args.string.now.letters (unroll (circuit_items c.args.circuit.now)) coins
    (check-fits (length c.args.string.now.letters) (circuit_items c.args.circuit.now) (unroll (circuit_items c.args.circuit.now)) c.requires.checked refl c.items.ensures.distinct) refl
