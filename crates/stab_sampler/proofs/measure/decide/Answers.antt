use Rattle.stab_sampler.proofs.Names.{rules, arith, refl, true, false, ◌≡◌, ◌+◌, sym, ◌∙◌, ap, length, take, get_or, [], ◌∷◌, length-append, length-take, ones, times_where, ones-few, lane_output, lane_difference}
use Rattle.stab_sampler.proofs.PivotLemmas.{counted-next, decided-deterministic, decided-random}
use Rattle.stab_sampler.proofs.measure.decide.Goals as goal
use Rattle.stab_frames.proofs.PivotAtLemmas.{ones-before}

pub string-string-requires : goal.string-string-requires
string-string-requires g c =
    let free = c.args.recorded_pivots.free.now in
    let coin : c.len-coin.result ≡ length c.args.lanes.now.free.items = search rules in
    let flag : get_or free (length c.args.lanes.now.free.items) false ≡ true = grind (arith, coin, c.bit_at.ensures.value) in
    record { in_range = omega (arith, c.requires.may.all, c.requires.may.counted, ones-before free (length c.args.lanes.now.free.items) flag) }

pub multiply-requires : goal.multiply-requires
multiply-requires g c = record { same_length = c.string-string.ensures.length ∙ sym c.requires.may.frames }

pub overflow_add-lanes : goal.overflow_add-lanes
overflow_add-lanes g c =
    let free = c.args.recorded_pivots.free.now in
    let coin = length c.args.lanes.now.free.items in
    omega (arith, c.requires.may.counted, ones-few (take coin free), length-take coin free, c.args.lanes.now.free.small)

pub returns-then-not-bit_at-clause-may : goal.returns-then-not-bit_at-clause-may
returns-then-not-bit_at-clause-may g c =
    let number = c.args.lanes.now.number in
    let coin : c.len-coin.result ≡ length c.args.lanes.now.free.items = search rules in
    let flag : get_or c.args.recorded_pivots.free.now (length c.args.lanes.now.free.items) false ≡ false = grind (arith, coin, c.bit_at.ensures.value) in
    let none : number ≡ number + ones (false ∷ []) = omega arith in
    record {
      all = c.requires.may.all;
      counted = counted-next c.args.recorded_pivots.free.now number (length c.args.lanes.now.free.items) false number _ c.requires.may.counted flag none
          (ap length c.in_ok-push.ensures.items ∙ length-append c.args.lanes.now.free.items (false ∷ []));
      frames = c.requires.may.frames;
    }

pub returns-then-not-bit_at-clause-measures : goal.returns-then-not-bit_at-clause-measures
returns-then-not-bit_at-clause-measures g c = λ l lt.
    let at = g.W.Word.at in
    let coin : c.len-coin.result ≡ length c.args.lanes.now.free.items = search rules in
    let flag : get_or c.args.recorded_pivots.free.now (length c.args.lanes.now.free.items) false ≡ false = grind (arith, coin, c.bit_at.ensures.value) in
    decided-deterministic c.args.recorded_pivots (g.D.Draw.sequences c.args.draw.now l) (at c.args.anticommuting l) (lane_difference at l c.args.lanes.now) _
    (λ i. record (lane_output at l c.args.lanes.now) { free = c.in_ok-push.ensures.items i }) flag refl

pub returns-clause-may : goal.returns-clause-may
returns-clause-may g c =
    let number = c.args.lanes.now.number in
    let coin : c.len-coin.result ≡ length c.args.lanes.now.free.items = search rules in
    let flag : get_or c.args.recorded_pivots.free.now (length c.args.lanes.now.free.items) false ≡ true = grind (arith, coin, c.bit_at.ensures.value) in
    record {
      all = c.requires.may.all;
      counted = counted-next c.args.recorded_pivots.free.now number (length c.args.lanes.now.free.items) true (number + 1) _ c.requires.may.counted flag refl
          (ap length c.in_ok-push.ensures.items ∙ length-append c.args.lanes.now.free.items (false ∷ []));
      frames = c.multiply.ensures.size ∙ c.requires.may.frames;
    }

pub returns-clause-measures : goal.returns-clause-measures
returns-clause-measures g c = λ l lt.
    let at = g.W.Word.at in
    let recorded_pivots = c.args.recorded_pivots in
    let old = lane_difference at l c.args.lanes.now in
    let coins = g.D.Draw.sequences c.args.draw.now l in
    let coin : c.len-coin.result ≡ length c.args.lanes.now.free.items = search rules in
    let flag : get_or recorded_pivots.free.now (length c.args.lanes.now.free.items) false ≡ true = grind (arith, coin, c.bit_at.ensures.value) in
    decided-random recorded_pivots coins (at c.args.anticommuting l) old _
    (λ i. record (lane_output at l c.args.lanes.now) { free = c.in_ok-push.ensures.items i })
    c.args.lanes.now.number (at c.coins-flips.result l) c.requires.may.all c.requires.may.counted flag
    (c.coins-flips.ensures.value l lt ∙ ap coins coin)
    (c.multiply.ensures.letters l lt
    ∙ (λ i. times_where (c.xor.ensures.value l lt i) (c.string-string.ensures.letters i) old.letters))
