use Rattle.stab_recording.proofs.Names.{◌≡◌, ◌∙◌, ap, subst, length, arith, Repeat, circuit_items, check-steps, check-whole, counted-steps, IsAtStep}
use Rattle.stab_recording.proofs.ProgressLemmas.{further-on, costs-on}
use Rattle.stab_recording.proofs.RunLemmas.{may-run-block, own-on, own-named}
use Rattle.stab_recording.proofs.replay.Replay.run_all.Given.{Over}
use Rattle.stab_recording.proofs.replay.Replay.run_all.Goals as goal
use Rattle.stab_recording.proofs.replay.Replay.run_all.Goals.{After-steps}
use Rattle.stab_recording.proofs.RepeatedRunLemmas.{repeat-at}

abbrev none : Repeat
none = record { first = 0; length = 0; rounds = 0; window = 0 }

pub taken_together-requires-clause-some : goal.taken_together-requires-clause-some
taken_together-requires-clause-some g c =
    (repeat-at 0 c.args.self.now.cursor.all c.args.repeats.now c.loop-repeat.repeat-index none c.loop-repeat-test.true c.requires.ready.repeated).some

pub taken_together-requires-clause-few : goal.taken_together-requires-clause-few
taken_together-requires-clause-few g c =
    let items = circuit_items c.args.circuit.now in
    let here = repeat-at 0 c.args.self.now.cursor.all c.args.repeats.now c.loop-repeat.repeat-index none c.loop-repeat-test.true c.requires.ready.repeated in
    omega (arith, here.inside, ap length c.requires.ready.steps, check-steps items (check-whole c.args.self.now.tableau.qubits items c.requires.ready.checked))

pub run_block-requires : goal.run_block-requires
run_block-requires g c =
    let inv = c.loop-repeat.invariant in
    let all = c.requires.ready in
    let items = circuit_items c.args.circuit.now in
    let checked = check-whole c.args.self.now.tableau.qubits items all.checked in
    let here = repeat-at 0 c.args.self.now.cursor.all c.args.repeats.now c.loop-repeat.repeat-index none c.loop-repeat-test.true all.repeated in
    record {
      ready =
          may-run-block items c.taken_together.result c.args.self.now c.loop-repeat.self inv.further.qubits inv.same_coins inv.further.all inv.own
          (record {
            has_steps = record { steps = all.steps; checked = checked };
            runnable = record { fits = all.fits; few = omega (arith, ap length all.steps, check-steps items checked) };
            is_repeat = c.taken_together.ensures.repeat c.args.self.now.cursor.all here;
            own = all.own;
          });
    }

pub loop-repeat-preserved : goal.loop-repeat-preserved
loop-repeat-preserved g c =
    let inv = c.loop-repeat.invariant in
    let ran = c.run_block.ensures in
    let done = c.in_ok-run_block.ensures {u = tt} in
    record {
      further = further-on _ _ _ _ _ _ inv.further ran.further;
      same_coins = ran.same_coins ∙ inv.same_coins;
      costs = costs-on _ _ _ _ _ _ inv.costs done.costs;
      own = own-named c.run_block.new.self inv.further.qubits inv.same_coins inv.further.all done.own;
    }

pub returns-in_err-run_block-clause-further : goal.returns-in_err-run_block-clause-further
returns-in_err-run_block-clause-further g c = further-on _ _ _ _ _ _ c.loop-repeat.invariant.further c.run_block.ensures.further

-- at the end

total : (g : Over) (c : After-steps g) → c.steps.result ≡ length c.args.self.now.cursor.all
total g c =
    c.steps.ensures.value
    ∙ counted-steps c.args.self.now.tableau.qubits (circuit_items c.args.circuit.now) c.requires.ready.checked
    ∙ ap length c.requires.ready.steps

pub run_to-requires-clause-order : goal.run_to-requires-clause-order
run_to-requires-clause-order g c =
    let within = c.loop-repeat.invariant.own.replay.at_step.within in
    omega (arith, within, total g ((goal.at.run_to-requires-clause-order g c).After-steps))

pub run_to-requires-clause-few : goal.run_to-requires-clause-few
run_to-requires-clause-few g c =
    let inv = c.loop-repeat.invariant in
    let within = inv.own.replay.at_step.within in
    let counted = inv.own.counted in
    let items = circuit_items c.args.circuit.now in
    omega (arith, within, counted, ap length inv.further.all, ap length c.requires.ready.steps, check-steps items (check-whole c.args.self.now.tableau.qubits items c.requires.ready.checked))

pub returns-in_err-run_to-clause-further : goal.returns-in_err-run_to-clause-further
returns-in_err-run_to-clause-further g c = further-on _ _ _ _ _ _ c.loop-repeat.invariant.further c.run_to.ensures.further

pub returns-clause-further : goal.returns-clause-further
returns-clause-further g c = further-on _ _ _ _ _ _ c.loop-repeat.invariant.further c.run_to.ensures.further

pub returns-clause-costs : goal.returns-clause-costs
returns-clause-costs g c = costs-on _ _ _ _ _ _ c.loop-repeat.invariant.costs (c.in_ok-run_to.ensures {u = tt}).costs

pub returns-clause-own : goal.returns-clause-own
returns-clause-own g c =
    let inv = c.loop-repeat.invariant in
    let done = c.in_ok-run_to.ensures {u = tt} in
    own-on c.args.self.now.tableau.qubits (g.C.Coins.sequence c.args.coins.now) c.args.self.now.cursor.all c.loop-repeat.self c.run_to.new.self inv.own
    (subst (λ x. x) (λ i. IsAtStep (inv.further.qubits i) (inv.same_coins i) (inv.further.all i) c.run_to.new.self) done.carried_out.at_step) done.carried_out.saved done.costs.counted
    c.run_to.ensures.further.step

pub returns-clause-step : goal.returns-clause-step
returns-clause-step g c = c.run_to.ensures.step ∙ total g ((goal.at.returns-clause-step g c).After-steps)
