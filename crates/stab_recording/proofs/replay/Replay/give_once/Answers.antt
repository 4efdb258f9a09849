use Rattle.stab_recording.proofs.Names.{◌≡◌, ℕ, ◌+◌, ◌≤◌, ap, subst, true, IsSomeAnd, None, Some, slice_get, arith, ones, RunOutput, output_of, ones-append, Replay, between, HasRepeated, HasPropagated, IsFolding}
use Rattle.std.proofs.Common.{IfSome}
use Rattle.stab_recording.proofs.FoldedOverLemmas.{may-go-over, goes-on-repeated, goes-on-by_frame}
use Rattle.stab_recording.specs.inner.Progress.{IsFurther}
use Rattle.stab_recording.proofs.FoldedReplayLemmas.{coins-following}
use Rattle.stab_recording.proofs.ProgressLemmas.{further-none, costs-none}
use Rattle.stab_recording.proofs.replay.Replay.give_once.Goals as goal

pub frame_once-requires-clause-may : goal.frame_once-requires-clause-may
frame_once-requires-clause-may g c =
    let t = c.requires.folding in
    may-go-over c.args.self.now.tableau.qubits (g.C.Coins.sequence c.args.coins.now) t.0 t.1 c.args.self.now.cursor.all t.2 t.3 t.4 t.5 c.args.end t.6 c.args.self.now c.args.recurrence t.7 c.args.spacing
    c.in-Some.segment (c.in-Some.ensures {u = tt}).number (c.in-Some.ensures {u = tt}).is c.in-Some-frame.propagation c.in-Some-frame.is

pub returns-in_default-clause-further : goal.returns-in_default-clause-further
returns-in_default-clause-further g c = further-none _ _

pub returns-in_default-clause-costs : goal.returns-in_default-clause-costs
returns-in_default-clause-costs g c = costs-none _ _

-- a segment that is repeated asks for no coins
repeated : (before : ℕ) (old new : Replay) → new ≡ record old { outputs = new.outputs; step = new.step; by_frame = new.by_frame; saved = new.saved } → old.step ≤ new.step
    → IsFurther before before old new
repeated before old new rest step = record {
  all = λ i. (rest i).cursor.all;
  qubits = λ i. (rest i).tableau.qubits;
  step = step;
  window = let same : new.pivots.window ≡ old.pivots.window = λ i. (rest i).pivots.window in omega (arith, same);
  most = let same : new.pivots.strings.most ≡ old.pivots.strings.most = λ i. (rest i).pivots.strings.most in omega (arith, same);
  asked = omega (arith, coins-following old.step new.step old.cursor.all step);
}

pub returns-in_err-repeat_once-clause-further : goal.returns-in_err-repeat_once-clause-further
returns-in_err-repeat_once-clause-further g c = repeated _ _ _ c.repeat_once.ensures.rest c.repeat_once.ensures.further

pub returns-in_default-frame-clause-further : goal.returns-in_default-frame-clause-further
returns-in_default-frame-clause-further g c = repeated _ _ _ c.repeat_once.ensures.rest c.repeat_once.ensures.further

pub returns-in_default-frame-clause-costs : goal.returns-in_default-frame-clause-costs
returns-in_default-frame-clause-costs g c =
    let s = c.in-Some.segment in
    let old = c.args.self.now in
    let new = c.repeat_once.new.self in
    let is = (c.in-Some.ensures {u = tt}).is in
    let gave : HasRepeated s old new is.later = subst (λ o. IsSomeAnd o (HasRepeated s old new)) is.there (c.in_ok-repeat_once.ensures {u = tt}).repeated in
    let same : new.applied ≡ old.applied = ap (λ (r : Replay). r.applied) c.repeat_once.ensures.rest in
    let by_frame = gave.by_frame in
    let step = gave.step in
    record {
      counted = omega (arith, same, by_frame, step);
      asks = omega (arith, same);
      asks_random = omega (arith, ap (λ (o : RunOutput). ones o.free) gave.output, ones-append old.outputs.free.items (between s.from s.to (output_of old.outputs)).free);
    }

pub returns-in_default-frame-clause-way : goal.returns-in_default-frame-clause-way
returns-in_default-frame-clause-way g c = λ begin p checkpoints before next block passed folding.
    let n = c.args.self.now.tableau.qubits in
    let coins = g.C.Coins.sequence c.args.coins.now in
    let ys = c.args.self.now.cursor.all in
    let new = c.repeat_once.new.self in
    let same = (c.in-Some.ensures {u = tt}).number in
    subst (λ k. IsFolding n coins begin p ys checkpoints before next block c.args.end true new (record { number = k + 1; frame = None })) same
    (goes-on-repeated n coins begin p ys checkpoints before next block c.args.end passed c.args.self.now c.args.recurrence folding c.args.spacing c.in-Some.segment same (c.in-Some.ensures {u = tt}).is new
    c.in_default-frame.is c.repeat_once.ensures.rest (c.in_ok-repeat_once.ensures {u = tt}).repeated)

pub returns-clause-way : goal.returns-clause-way
returns-clause-way g c = λ begin p checkpoints before next block passed folding.
    let n = c.args.self.now.tableau.qubits in
    let coins = g.C.Coins.sequence c.args.coins.now in
    let ys = c.args.self.now.cursor.all in
    let s = c.in-Some.segment in
    let old = c.args.self.now in
    let new = c.frame_once.new.self in
    let w = c.in-Some-frame.propagation in
    let v = c.in-Some-by_frame.propagation in
    let same = (c.in-Some.ensures {u = tt}).number in
    subst (λ k. IsFolding n coins begin p ys checkpoints before next block c.args.end true new (record { number = k + 1; frame = Some v })) same
    (goes-on-by_frame n coins begin p ys checkpoints before next block c.args.end passed old c.args.recurrence folding c.args.spacing s same (c.in-Some.ensures {u = tt}).is new w v c.in-Some-frame.is
    c.frame_once.ensures.rest
    (subst (λ o. IfSome o (λ u. IsSomeAnd (slice_get old.saved.items (s.number + 1)) (HasPropagated coins s old new w u))) c.in-Some-by_frame.is (c.in_ok-by_frame.ensures {u = tt}).by_frame))
