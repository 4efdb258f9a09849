use Rattle.stab_recording.proofs.Names.{◌≡◌, ℕ, ◌+◌, ◌≤◌, ap, length, drop, arith, unroll, circuit_items, all_coins_of, output_of, check-whole, IsOwnRun}
use Rattle.stab_recording.proofs.RunLemmas.{may-run-all, ran-all, own-output}
use Rattle.stab_recording.proofs.ShotLemmas.{shot-of_output}
use Rattle.stab_recording.proofs.whole_run.run_whole.Given.{Over}
use Rattle.stab_recording.proofs.whole_run.run_whole.Goals as goal
use Rattle.stab_recording.proofs.whole_run.run_whole.Goals.{In_ok-replay, In_ok-run_all}

own : (g : Over) (c : In_ok-replay g) → IsOwnRun c.args.n (g.C.Coins.sequence c.args.coins.now) (unroll (circuit_items c.args.circuit.now)) c.in_ok-replay.replay
own g c = c.in_ok-replay.ensures.own (g.C.Coins.sequence c.args.coins.now)

pub new-requires-clause-checked : goal.new-requires-clause-checked
new-requires-clause-checked g c = check-whole c.args.n (circuit_items c.args.circuit.now) c.requires.checked

pub run_all-requires : goal.run_all-requires
run_all-requires g c = record {
  ready =
      may-run-all c.args.n (g.C.Coins.sequence c.args.coins.now) (circuit_items c.args.circuit.now) _ c.in_ok-replay.replay c.requires.checked c.requires.repeats
      c.in_ok-replay.ensures.distinct (own g ((goal.at.run_all-requires g c).In_ok-replay));
}

-- after all steps
ended : (g : Over) (c : In_ok-run_all g)
    → IsOwnRun c.args.n (g.C.Coins.sequence c.args.coins.now) (unroll (circuit_items c.args.circuit.now)) c.run_all.new.self × (c.run_all.new.self.step ≡ length (unroll (circuit_items c.args.circuit.now)))
ended g c =
    let done = c.in_ok-run_all.ensures {u = tt} in
    ran-all c.args.n (g.C.Coins.sequence c.args.coins.now) (unroll (circuit_items c.args.circuit.now)) c.in_ok-replay.replay c.run_all.new.self (own g ((goal.at.In_ok-run_all g c).In_ok-replay)) done.own done.step

-- no more coins are asked for than there are
few : (g : Over) (c : In_ok-replay g) (step before after : ℕ) → after + all_coins_of (drop step c.in_ok-replay.replay.cursor.all) ≤ before + all_coins_of (drop c.in_ok-replay.replay.step c.in_ok-replay.replay.cursor.all)
    → after ≤ before + all_coins_of (unroll (circuit_items c.args.circuit.now))
few g c step before after le =
    omega (arith, le, ap (λ k. all_coins_of (drop k c.in_ok-replay.replay.cursor.all)) c.in_ok-replay.ensures.step, ap all_coins_of (own g c).replay.at_step.all)

pub returns-in_err-run_all-clause-asks : goal.returns-in_err-run_all-clause-asks
returns-in_err-run_all-clause-asks g c = few g ((goal.at.returns-in_err-run_all-clause-asks g c).In_ok-replay) c.run_all.new.self.step _ _ c.run_all.ensures.further.asked

pub returns-in_err-shot-clause-asks : goal.returns-in_err-shot-clause-asks
returns-in_err-shot-clause-asks g c = few g ((goal.at.returns-in_err-shot-clause-asks g c).In_ok-replay) c.run_all.new.self.step _ _ c.run_all.ensures.further.asked

pub returns-clause-asks : goal.returns-clause-asks
returns-clause-asks g c = few g ((goal.at.returns-clause-asks g c).In_ok-replay) c.run_all.new.self.step _ _ c.run_all.ensures.further.asked

pub returns-clause-run : goal.returns-clause-run
returns-clause-run g c =
    let at = (goal.at.returns-clause-run g c).In_ok-run_all in
    let gave = c.in_ok-shot.ensures {u = tt} in
    shot-of_output c.args.n (g.C.Coins.sequence c.args.coins.now) (unroll (circuit_items c.args.circuit.now)) c.args.observables (output_of c.run_all.new.self.outputs)
    (own-output c.args.n (g.C.Coins.sequence c.args.coins.now) (unroll (circuit_items c.args.circuit.now)) c.run_all.new.self (ended g at).0 (ended g at).1)
    c.in_ok-shot.shot gave.records gave.free gave.detectors gave.observables
