use Rattle.stab_tableau.proofs.Names.{arith, ℕ, ◌+◌, ◌/◌, ◌<◌, ◌∙◌, ap, set, Letter, letter_anticommuting}
use Rattle.stab_tableau.proofs.PutLettersLemmas.{put-in, put-end, put-next}
use Rattle.stab_tableau.proofs.rows.put_letters.Goals as goal

pub overflow_add-first : goal.overflow_add-first
overflow_add-first c =
    let lt = put-in c.args.first c.args.mask c.loop-rest.rest c.args.out.now c.loop-rest.out c.loop-rest.invariant c.first-k.result c.first-k.ensures.in_range c.first-k.ensures.chosen c.requires.in_range in
    omega (arith, lt, c.len-count.ensures.value, c.len-count.type_inv)

pub set-requires : goal.set-requires
set-requires c =
    let lt = put-in c.args.first c.args.mask c.loop-rest.rest c.args.out.now c.loop-rest.out c.loop-rest.invariant c.first-k.result c.first-k.ensures.in_range c.first-k.ensures.chosen c.requires.in_range in
    record { in_range = omega (arith, lt, c.loop-rest.invariant.size) }

pub loop-rest-preserved : goal.loop-rest-preserved
loop-rest-preserved c =
    let k : ℕ = c.first-k.result / 2 in
    let lt = put-in c.args.first c.args.mask c.loop-rest.rest c.args.out.now c.loop-rest.out c.loop-rest.invariant c.first-k.result c.first-k.ensures.in_range c.first-k.ensures.chosen c.requires.in_range in
    let below : k < 32 = omega (arith, c.first-k.ensures.in_range) in
    put-next c.loop-rest.rest c.without.result c.without-rest.result k below c.without.ensures.gone c.without.ensures.others c.without-rest.ensures.gone c.without-rest.ensures.others
    c.args.first c.args.mask c.args.out.now c.loop-rest.out c.set.new.self c.loop-rest.invariant lt
    (c.set.ensures.value
    ∙ ap (λ (l : Letter). record c.loop-rest.out { letters = set c.loop-rest.out.letters (c.args.first + k) l })
    (c.letter_where.ensures.value ∙ (λ i. letter_anticommuting (c.holds-with_x.ensures.value i) (c.holds-with_z.ensures.value i))))

pub returns-clause-within : goal.returns-clause-within
returns-clause-within c = put-end c.args.first c.args.mask c.loop-rest.rest c.args.out.now c.loop-rest.out c.loop-rest-test.false c.loop-rest.invariant
