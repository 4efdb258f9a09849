use Rattle.stab_sampler.proofs.Names.{arith, rules, ◌≡◌, ◌==◌, ◌∙◌, ap, ◌+◌, ◌*◌, ◌/◌, ◌%◌, ◌^◌, seed_coin}
use Rattle.stab_sampler.proofs.SeedLemmas.{coins-none, coins-next, coins-all}
use Rattle.stab_sampler.proofs.coins.coins_of_half.Goals as goal

pub loop-lane-init : goal.loop-lane-init
loop-lane-init c = coins-none c.args.shots c.args.group

pub loop-lane-preserved : goal.loop-lane-preserved
loop-lane-preserved c =
    let shots = c.args.shots in
    let lane = c.loop-lane.lane in
    coins-next shots c.args.group lane c.loop-lane.half c.put_lane.new.words (omega (arith, c.loop-lane-test.true)) c.loop-lane.invariant
    (λ k small blank.
    let position : 16 * (k / 16) + k % 16 ≡ k = omega arith in
    c.put_lane.ensures.here k small blank
    ∙ ap (λ word. word % 2 == 1) (c.words_of_shot-blocks.ensures.each (k / 16) (k % 16) (omega (arith, small)) (omega arith))
    ∙ ap (λ t. seed_coin shots.seed ((shots.first + lane) % 2 ^ 64) (64 * c.args.group + t)) position) c.put_lane.ensures.others

pub returns : goal.returns
returns c = record { each = coins-all c.args.shots c.args.group c.loop-lane.lane c.loop-lane.half (search rules) c.loop-lane.invariant }
