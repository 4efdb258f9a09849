use Rattle.stab_recording.proofs.Names.{◌≡◌, ◌+◌, ◌*◌, ◌≤◌, ℕ, Option, Bool, List, length, slice_get, arith, option_map, Step, IsRepeat, Repeat, Checkpoint, Plan, IsEndIn, MayRecur, IsOnWay, step_among_new}
use Rattle.std.proofs.Common.{IfSome}
use Rattle.stab_recording.proofs.FollowedLemmas.{few-steps}
use Rattle.stab_recording.proofs.FoldedReplayLemmas.{position-known}
use Rattle.stab_recording.proofs.ProgressLemmas.{further-none, costs-none}
use Rattle.stab_recording.proofs.replay.Replay.come_again.Given.{Over}
use Rattle.stab_recording.proofs.replay.Replay.come_again.Goals as goal
use Rattle.stab_recording.proofs.replay.Replay.come_again.Goals.{After-end_in-end}

is_end : (ys : List Step) (block : Repeat) (p : Plan) (checkpoints : List Checkpoint) (next : ℕ) (position : Option ℕ) (end : ℕ) → IsRepeat ys block → p.total ≡ length ys
    → position ≡ option_map (step_among_new p) (slice_get checkpoints next) → end ≤ block.first + block.rounds * block.length → IfSome position (λ k. end ≤ k) → IsEndIn p checkpoints next block end
is_end ys block p checkpoints next position end is_repeat total is in_block before = record {
  in_block = in_block;
  in_steps = omega (arith, in_block, is_repeat.inside, total);
  before = position-known (λ k. end ≤ k) (slice_get checkpoints next) (step_among_new p) position is before;
}

-- it may go on in its block
may : (g : Over) (c : After-end_in-end g) (begin : ℕ) (checkpoints : List Checkpoint) (old : List Bool) (next : ℕ)
    → IsOnWay c.args.self.now.tableau.qubits (g.C.Coins.sequence c.args.coins.now) begin c.args.plan c.args.self.now.cursor.all checkpoints old next c.args.self.now
    → c.args.position ≡ option_map (step_among_new c.args.plan) (slice_get checkpoints next)
    → MayRecur c.args.self.now.tableau.qubits (g.C.Coins.sequence c.args.coins.now) begin c.args.plan c.args.self.now.cursor.all checkpoints old next c.in-Some.block c.end_in-end.result c.args.self.now
may g c begin checkpoints old next way position =
    let steps = c.args.self.now.cursor.all in
    let is_repeat = c.in-Some.ensures.found 0 steps c.requires.repeats in
    record {
      way = way;
      is_repeat = is_repeat;
      is_end =
          is_end steps c.in-Some.block c.args.plan checkpoints next c.args.position c.end_in-end.result is_repeat c.requires.planned.total position c.end_in-end.ensures.in_block c.end_in-end.ensures.before;
      total = c.requires.planned.total;
      few = few-steps c.requires.planned;
      fits = c.requires.planned.fits;
    }

pub fold-requires-clause-few : goal.fold-requires-clause-few
fold-requires-clause-few g c =
    let is_repeat = c.in-Some.ensures.found 0 c.args.self.now.cursor.all c.requires.repeats in
    omega (arith, c.end_in-end.ensures.in_block, is_repeat.inside, c.requires.planned.total, c.requires.planned.few)

pub fold-requires-clause-may : goal.fold-requires-clause-may
fold-requires-clause-may g c =
    let on = c.requires.on_way in
    (on.0, c.args.plan, on.1, on.2, on.3, may g ((goal.at.fold-requires-clause-may g c).After-end_in-end) on.0 on.1 on.2 on.3 on.4 on.5)

pub returns-clause-way : goal.returns-clause-way
returns-clause-way g c = λ begin checkpoints old next way position.
    (c.in_ok-fold.ensures {u = tt}).way begin c.args.plan checkpoints old next (may g ((goal.at.returns-clause-way g c).After-end_in-end) begin checkpoints old next way position)

pub returns-in_default-clause-further : goal.returns-in_default-clause-further
returns-in_default-clause-further g c = further-none _ _

pub returns-in_default-clause-costs : goal.returns-in_default-clause-costs
returns-in_default-clause-costs g c = costs-none _ _
