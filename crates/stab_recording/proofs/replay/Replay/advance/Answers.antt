use Rattle.stab_recording.proofs.Names.{ℕ, ◌≤◌, refl, Option, Some, None, arith, IfSome, IsOnWay}
use Rattle.stab_recording.proofs.FollowedLemmas.{few-steps}
use Rattle.stab_recording.proofs.ReplayLemmas.{position-following, on-stop}
use Rattle.stab_recording.proofs.DifferingReplayLemmas.{ascending-from, way-past}
use Rattle.stab_recording.proofs.replay.Replay.advance.Given.{Over}
use Rattle.stab_recording.proofs.replay.Replay.advance.Goals as goal
use Rattle.stab_recording.proofs.replay.Replay.advance.Goals.{After-skip_differing-next}

-- old checkpoints that can't be met were passed
past : (g : Over) (c : After-skip_differing-next g) (begin : ℕ)
    → IsOnWay c.args.self.now.tableau.qubits (g.C.Coins.sequence c.args.coins.now) begin c.args.plan c.args.self.now.cursor.all c.args.old.now.checkpoints.now c.args.old.now.outputs.now.records.items c.args.next c.args.self.now
    → IsOnWay c.args.self.now.tableau.qubits (g.C.Coins.sequence c.args.coins.now) begin c.args.plan c.args.self.now.cursor.all c.args.old.now.checkpoints.now c.args.old.now.outputs.now.records.items c.skip_differing-next.result
    c.args.self.now
past g c begin way =
    way-past c.args.self.now.tableau.qubits (g.C.Coins.sequence c.args.coins.now) begin c.args.plan c.args.self.now.cursor.all c.args.old.now.checkpoints.now c.args.old.now.outputs.now.records.items c.args.next
    c.skip_differing-next.result c.args.self.now way c.skip_differing-next.ensures.order c.skip_differing-next.ensures.within
    (c.skip_differing-next.ensures.missed (g.C.Coins.sequence c.args.coins.now) (record { old = c.requires.old; at_step = c.requires.at_step })
    (few-steps c.requires.planned))

-- what is no further than something before a step is before it too
no-further : (position : Option ℕ) (a b : ℕ) → a ≤ b → IfSome position (λ q. b ≤ q) → IfSome position (λ q. a ≤ q)
no-further None a b le before = tt
no-further (Some q) a b le before = omega (arith, le, before)

pub run_past-requires-clause-runnable : goal.run_past-requires-clause-runnable
run_past-requires-clause-runnable g c = record { fits = c.requires.planned.fits; few = few-steps c.requires.planned }

pub stops-stops-requires-clause-following : goal.stops-stops-requires-clause-following
stops-stops-requires-clause-following g c =
    position-following c.args.plan c.args.self.now.step c.skip_differing-next.result c.args.old.now.checkpoints.now c.position-position.result c.position-position.ensures.value
    (ascending-from c.args.plan c.args.self.now.step c.args.next c.skip_differing-next.result c.args.old.now.checkpoints.now c.requires.ascending c.skip_differing-next.ensures.order)

pub returns-clause-way : goal.returns-clause-way
returns-clause-way g c = λ begin way.
    let done = c.in_ok-run_past.ensures in
    let stops = c.stops-stops.ensures in
    let most = c.run_past.ensures.most in
    on-stop c.args.self.now.tableau.qubits (g.C.Coins.sequence c.args.coins.now) begin c.args.plan c.args.self.now.cursor.all c.args.old.now.checkpoints.now c.args.old.now.outputs.now.records.items (g.C.Coins.sequence c.args.coins.now)
    c.skip_differing-next.result c.run_past.new.self.step c.position-position.result c.args.self.now c.run_past.new.self
    (past g ((goal.at.returns-clause-way g c).After-skip_differing-next) begin way)
    refl done.carried_out.at_step done.carried_out.saved done.costs.counted refl c.run_past.ensures.further.step
    (let within = stops.within in omega (arith, within, most)) (let near = stops.near in omega (arith, near, most)) c.position-position.ensures.value
    (no-further c.position-position.result c.run_past.new.self.step c.stops-stops.result.most most stops.before)
