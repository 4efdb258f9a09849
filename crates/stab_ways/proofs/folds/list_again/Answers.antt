use Rattle.stab_ways.proofs.Names.{◌-◌, ◌+◌, ◌++◌, ◌∷◌, [], refl, ◌∙◌, ap, arith, map, length-map, map-append, turn_shown}
use Rattle.stab_ways.proofs.ListedLemmas.{few-there, listed-further}
use Rattle.stab_ways.proofs.folds.list_again.Goals as goal

pub overflow_add-after : goal.overflow_add-after
overflow_add-after c =
    let xs = c.args.turns.now.items in
    omega (
      arith,
      few-there c.args.from c.loop-position.position c.args.steps (map turn_shown xs) (map turn_shown c.loop-position.turns.items) c.loop-position.turns.items c.index-turn.result.now
          (c.loop-position.position - c.args.from) c.loop-position.invariant.listed refl (omega (arith, c.loop-position-test.true, c.len-position-end.ensures, length-map xs turn_shown))
          c.index-turn.ensures c.loop-position.invariant.from c.requires.few,
    )

pub loop-position-preserved : goal.loop-position-preserved
loop-position-preserved c =
    let xs = c.args.turns.now.items in
    let values = c.loop-position.turns.items in
    let value = c.index-turn.result.now in record {
      from = omega (arith, c.loop-position.invariant.from);
      listed = listed-further c.args.from c.loop-position.position c.args.steps (map turn_shown xs) (map turn_shown values) values value
          (c.loop-position.position - c.args.from) c.loop-position.invariant.listed refl (omega (arith, c.loop-position-test.true, c.len-position-end.ensures, length-map xs turn_shown))
          c.index-turn.ensures c.loop-position.invariant.from (map turn_shown c.push.new.self.items) refl
          (ap (map turn_shown) c.in_ok-push.ensures.items
          ∙ map-append turn_shown values (record { after = value.after + c.args.steps; string = c.in_ok-string.string } ∷ [])
          ∙ ap (λ s. map turn_shown values ++ record { after = value.after + c.args.steps; string = s } ∷ []) (c.in_ok-string.ensures.items ∙ c.as_slice.ensures.value));
    }
