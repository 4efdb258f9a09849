use Rattle.stab_run.proofs.Names.{◌≡◌, ◌+◌, ◌*◌, ◌-◌, ◌/◌, ◌≤◌, ◌∙◌, sym, ap, take, drop, arith, OnTrue_at, few_steps, unroll, circuit_items}
use Rattle.stab_run.proofs.PartLemmas.{more-rounds, rounds-few}
use Rattle.stab_run.proofs.SeamLemmas.{one-of-two}
use Rattle.stab_run.proofs.edited.joined.Goals as goal

pub overflow_mul-end : goal.overflow_mul-end
overflow_mul-end c = omega (arith, c.requires.last.inside, few_steps (circuit_items c.args.circuit.now) c.requires.checked)

pub overflow_add-end : goal.overflow_add-end
overflow_add-end c = omega (arith, c.requires.last.inside, few_steps (circuit_items c.args.circuit.now) c.requires.checked)

pub go_alike-requires-clause-few : goal.go_alike-requires-clause-few
go_alike-requires-clause-few c =
    let next = c.args.next in
    omega (
      arith,
      c.requires.next.inside,
      more-rounds 1 next.rounds next.length (omega (arith, c.requires.next.many)),
      c.if-next-length.false,
      few_steps (circuit_items c.args.circuit.now) c.requires.checked,
    )

pub overflow_add-result-2 : goal.overflow_add-result-2
overflow_add-result-2 c =
    omega (
      arith,
      c.requires.last.inside,
      rounds-few c.args.last.rounds c.args.last.length c.requires.last.some,
      c.requires.next.inside,
      rounds-few c.args.next.rounds c.args.next.length c.requires.next.some,
      c.if-rounds-gt-MOST_BETWEEN.false,
      few_steps (circuit_items c.args.circuit.now) c.requires.checked,
    )

pub returns-clause-is : goal.returns-clause-is
returns-clause-is c =
    let ys = unroll (circuit_items c.args.circuit.now) in
    let last = c.args.last in
    let next = c.args.next in
    let l = last.length in
    let n = last.rounds in
    let end = last.first + n * l in
    let between = next.first - end in
    let gap = between / l in
    let order : end ≤ next.first = omega (arith, c.if-next-end.false) in
    let whole : gap * l ≡ between = omega (arith, c.if-rounds-length.false) in
    let parts : n ≡ (n - 1) + 1 = omega (arith, c.requires.last.many) in
    let front : n * l ≡ (n - 1) * l + l = ap (λ i. i * l) parts ∙ omega arith in
    let same = OnTrue_at c.if-not-go_alike.false c.go_alike.ensures.same in
    one-of-two ys last next gap c.requires.last c.requires.next (omega (arith, c.if-next-length.false)) (omega (arith, whole, order))
    (ap (λ i. take i (drop (last.first + (n - 1) * l) ys)) {x = (gap + 1) * l} {y = between + l} (omega (arith, whole))
    ∙ ap (λ i. take (between + l) (drop i ys)) {x = last.first + (n - 1) * l} {y = end - l} (omega (arith, front))
    ∙ ap (take (between + l)) (sym c.in_ok-near.ensures.steps)
    ∙ same
    ∙ ap (take (between + l)) c.in_ok-far.ensures.steps
    ∙ ap (λ i. take i (drop end ys)) {x = between + l} {y = (gap + 1) * l} (omega (arith, whole)))
