use Rattle.stab_session.proofs.Names.{All-drop, length-drop, StepFits, ◌≡◌, ℕ, Bool, ◌+◌, ◌-◌, ◌<◌, ◌≤◌, ◌∷◌, refl, sym, ◌∙◌, ap, subst, arith, Some, length, take, drop, get_or, All, IfSome, unroll, observables_of, circuit_items, Checkpoint, checkpoint_steps, Near, last_of, Point, outputs, lengths_of, check-fits, check-whole, check-steps, longer, IsCheckpointCount, conjugated_end, StaysNear, IsPastSites, IsConjugating, HasConjugated}
use Rattle.std.specs.Prelude.{slice_get}
use Rattle.stab_session.proofs.FollowLemmas.{some-at}
use Rattle.stab_session.proofs.CourseLemmas.{count-of}
use Rattle.stab_session.proofs.FlipSignLemmas.{AreInside}
use Rattle.stab_session.proofs.ConjugatingLemmas.{checkpoint-is, checkpoint-before, from-few}
use Rattle.stab_session.proofs.DetermineLemmas.{end-following, has-conjugated-here}
use Rattle.stab_session.proofs.recording.Recording.conjugate.Goals as goal
use Rattle.stab_session.proofs.recording.Recording.conjugate.Goals.{After-as_slice-checkpoints, After-count_before-before, After-count_within-inside, After-index-checkpoints-before, In-Some, After-end_step-end}

few : (c : After-as_slice-checkpoints) → length (unroll (circuit_items c.args.circuit.now)) ≤ 1048576
few c = check-steps (circuit_items c.args.circuit.now) (check-whole c.args.self.now.tableau.qubits (circuit_items c.args.circuit.now) c.requires.checked)

total-is : (c : After-as_slice-checkpoints) → length (unroll (circuit_items c.args.circuit.now)) ≤ 1048576 → c.steps-total.result ≡ length (unroll (circuit_items c.args.circuit.now))
total-is c small = omega (arith, c.steps-total.ensures.value, small)

counted : (c : After-count_before-before) → IsCheckpointCount (c.args.span.first + 1) c.args.self.now.checkpoints.items c.count_before-before.result
counted c =
    let count = c.count_before-before.ensures in
    count-of (c.args.span.first + 1) c.as_slice-checkpoints.result.now c.args.self.now.checkpoints.items c.count_before-before.result c.as_slice-checkpoints.ensures.value count.within count.before
    count.following

inside : (c : After-count_within-inside) → AreInside c.args.span c.args.self.now.checkpoints.items c.count_before-before.result c.count_within-inside.result
inside c =
    let count = c.count_within-inside.ensures in
    record {
      order = count.order;
      within = subst (λ cs. c.count_within-inside.result ≤ length cs) c.as_slice-checkpoints.ensures.value count.within;
      among =
          subst (λ cs. All (λ (d : Checkpoint). d.step < c.args.span.old_end) (take (c.count_within-inside.result - c.count_before-before.result) (drop c.count_before-before.result cs)))
          c.as_slice-checkpoints.ensures.value count.among;
    }

here : (c : After-index-checkpoints-before) → length (unroll (circuit_items c.args.circuit.now)) ≤ 1048576 → IsCheckpointCount (c.args.span.first + 1) c.args.self.now.checkpoints.items c.count_before-before.result
    → slice_get c.args.self.now.checkpoints.items (c.count_before-before.result - 1) ≡ Some c.index-checkpoints-before.result
here c small count =
    let f = c.requires.follows.1 in
    checkpoint-is f.count f.preserved f.span small count c.index-checkpoints-before.result
    (c.index-checkpoints-before.is ∙ ap (λ cs. get_or cs (c.count_before-before.result - 1) c.index-checkpoints-before.result) c.as_slice-checkpoints.ensures.value)

passed : (c : In-Some) → IsPastSites (unroll (circuit_items c.args.circuit.now)) c.args.span c.count_before-before.result c.count_within-inside.result c.args.change.now c.args.self.now
    c.in-Some.passed.from c.in-Some.passed.propagation c.in-Some.passed.checkpoints.items
passed c =
    subst (λ o. IfSome o (λ p. IsPastSites (unroll (circuit_items c.args.circuit.now)) c.args.span c.count_before-before.result c.count_within-inside.result c.args.change.now c.args.self.now
    p.from p.propagation p.checkpoints.items)) c.in-Some.is c.in_ok-passed.ensures.passed

pub past_sites-requires-clause-counted : goal.past_sites-requires-clause-counted
past_sites-requires-clause-counted c =
    let at = goal.at.past_sites-requires-clause-counted c in
    let among = inside at.After-count_within-inside in
    record { first = counted at.After-count_before-before; order = among.order; within = among.within }

-- the steps that it tries are counted

pub returns-in_default-2-clause-tried : goal.returns-in_default-2-clause-tried
returns-in_default-2-clause-tried c =
    let order = c.requires.follows.1.span.new_order in
    omega (arith, c.past_sites.ensures.most, c.conjugating.ensures.most, order)

pub returns-clause-tried : goal.returns-clause-tried
returns-clause-tried c =
    let order = c.requires.follows.1.span.new_order in
    omega (arith, c.past_sites.ensures.most, c.conjugating.ensures.most, order)

pub conjugating-requires-clause-may : goal.conjugating-requires-clause-may
conjugating-requires-clause-may c =
    let at = goal.at.conjugating-requires-clause-may c in
    let f = c.requires.follows.1 in
    let n = c.args.self.now.tableau.qubits in
    let ys = unroll (circuit_items c.args.circuit.now) in
    let small = few at.After-as_slice-checkpoints in
    let count = counted at.After-count_before-before in
    let d_here = here at.After-index-checkpoints-before small count in
    let went = passed at.In-Some in
    let counts = some-at (λ (d : Checkpoint). (k : ℕ) (coins : ℕ → Bool) (a : Point) → c.in-Some.passed.from ≡ longer d.lengths (lengths_of (outputs k coins (take (c.args.span.first - d.step) (drop d.step ys)) a)))
    c.args.self.now.checkpoints.items (c.count_before-before.result - 1) c.index-checkpoints-before.result d_here went.from_is in
    record {
      same_length = f.preserved.has_pivots.size ∙ sym went.letters;
      fits =
          subst (λ k. All (StepFits k) (drop c.args.span.new_end ys)) (sym went.letters)
          (All-drop (StepFits n) c.args.span.new_end ys (check-fits n (circuit_items c.args.circuit.now) ys c.requires.checked refl c.in_ok-passed.ensures.distinct));
      placed = went.placed;
      few =
          omega (
            arith,
            went.few,
            from-few f.count f.preserved f.span small count c.index-checkpoints-before.result d_here c.in-Some.passed.from counts c.args.span.first,
            from-few f.count f.preserved f.span small count c.index-checkpoints-before.result d_here c.in-Some.passed.from counts c.args.span.new_end,
          );
      few_passed = omega (arith, c.past_sites.ensures.most, small, length-drop c.args.span.new_end ys);
    }

end-is : (c : After-end_step-end) → c.steps-total.result ≡ length (unroll (circuit_items c.args.circuit.now)) → c.end_step-end.result
    ≡ conjugated_end c.args.span (length (unroll (circuit_items c.args.circuit.now))) (slice_get c.args.self.now.checkpoints.items (c.count_within-inside.result + length c.in-Some-2.conjugating.rest.conjugated.items))
end-is c total =
    let same = c.as_slice-checkpoints.ensures.value in
    let count : c.len-2.result ≡ length c.in-Some-2.conjugating.rest.conjugated.items = c.len-2.ensures ∙ c.in-Some-2.conjugating.rest.conjugated.ok.0 in
    c.end_step-end.ensures.value
    ∙ (λ i. conjugated_end c.args.span (total i) (slice_get (same i) (c.count_within-inside.result + count i)))

pub propagated_between-followed-requires : goal.propagated_between-followed-requires
propagated_between-followed-requires c =
    let at = goal.at.propagated_between-followed-requires c in
    let f = c.requires.follows.1 in
    let small = few at.After-as_slice-checkpoints in
    let count = counted at.After-count_before-before in
    let order = f.span.new_order in
    let before = checkpoint-before f.count f.preserved f.span small count c.index-checkpoints-before.result (here at.After-index-checkpoints-before small count) in
    let following = end-following c.args.span (length (unroll (circuit_items c.args.circuit.now)))
    (slice_get c.args.self.now.checkpoints.items (c.count_within-inside.result + length c.in-Some-2.conjugating.rest.conjugated.items)) f.span.new_within small in
    record {
      order = omega (arith, order, before, following, end-is at.After-end_step-end (total-is at.After-as_slice-checkpoints small), ap (λ (d : Checkpoint). d.step) c.index-checkpoints-before.is);
    }

pub returns-clause-conjugated : goal.returns-clause-conjugated
returns-clause-conjugated c =
    let at = goal.at.returns-clause-conjugated c in
    let items = circuit_items c.args.circuit.now in
    let n = c.args.self.now.tableau.qubits in
    let d = c.index-checkpoints-before.result in
    let small = few at.After-as_slice-checkpoints in
    let total = total-is at.After-as_slice-checkpoints small in
    let before = counted at.After-count_before-before in
    let d_here = here at.After-index-checkpoints-before small before in
    let same = c.as_slice-checkpoints.ensures.value in
    let first = c.index-checkpoints-before.is in
    let checkpoints = c.as_slice.ensures.value in
    let count : length c.args.self.now.observables.items ≡ observables_of items =
    sym (sym c.observables.ensures.value ∙ c.if-observables-len.false ∙ c.len.ensures ∙ c.args.self.now.observables.ok.0) in
    λ coins f.
    subst (λ k. HasConjugated n coins c.args.stride (unroll items) k c.args.span c.args.self.now c.propagated_between-followed.result c.put.new.self) count
    (has-conjugated-here f small before (inside at.After-count_within-inside) d d_here c.in-Some.passed (passed at.In-Some) c.in-Some-last_near.last
    (subst (λ x. x) (λ i. Near c.args.stride ((sym first i).step ∷ checkpoint_steps (checkpoints i))) c.in-Some-last_near.ensures.near)
    ((λ i. last_of (first i).step (checkpoint_steps (sym checkpoints i))) ∙ c.in-Some-last_near.ensures.value)
    (subst (λ x. x) (λ i. StaysNear c.args.stride c.args.span (total i) c.in-Some-last_near.last (slice_get (same i) c.count_within-inside.result))
    (c.stays_near.ensures.near c.if-not-stays_near.false))
    c.in-Some-2.conjugating
    (subst (λ o. IfSome o (IsConjugating (unroll items) c.args.span c.count_within-inside.result c.in-Some.passed c.args.self.now)) c.in-Some-2.is c.in_ok-conjugating.ensures.conjugating)
    c.put.new.self c.put.ensures.put
    (check-fits n items (unroll items) c.requires.checked refl c.in_ok-passed.ensures.distinct)
    c.propagated_between-followed.result
    (omega (arith, c.propagated_between-followed.ensures.counted, ap (λ (x : Checkpoint). x.step) first, end-is at.After-end_step-end total)))
