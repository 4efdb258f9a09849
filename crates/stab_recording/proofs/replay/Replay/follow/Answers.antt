use Rattle.stab_recording.proofs.Names.{◌≡◌, ◌≤◌, [], ◌∷◌, ◌++◌, refl, sym, ◌∙◌, ap, subst, arith, Replay, Last, Joined, Arrival, Met, After, Between, output_of, IsReplay, IsEnd, EndsSoon, IsAtStop, IsOnWay, checkpoint_of, IsArrival}
use Rattle.stab_recording.specs.FollowedRuns.{Costs}
use Rattle.stab_recording.specs.inner.Progress.{IsFurther}
use Rattle.stab_recording.proofs.ReplayLemmas.{went-so, ends-soon, on-further, fewer-left}
use Rattle.stab_recording.proofs.FoldedReplayLemmas.{way-own, way-named}
use Rattle.stab_recording.proofs.ProgressLemmas.{further-on, further-saved, costs-on, costs-saved}
use Rattle.stab_recording.proofs.replay.Replay.follow.Given.{Over}
use Rattle.stab_recording.proofs.replay.Replay.follow.Goals as goal
use Rattle.stab_recording.proofs.replay.Replay.follow.Goals.{In_ok-reached, In_ok-save}

stopped : (g : Over) (c : In_ok-reached g) → IsAtStop c.args.self.now.tableau.qubits (g.C.Coins.sequence c.args.coins.now) c.args.self.now.step c.args.plan
    c.args.self.now.cursor.all c.args.old.now.checkpoints.now c.args.old.now.outputs.now.records.items c.in_ok-reached.reached c.advance.new.self
stopped g c =
    let inv = c.following.invariant in
    went-so c.args.self.now.step c.args.plan c.args.old.now.checkpoints.now c.args.old.now.outputs.now.records.items c.following.next c.in_ok-reached.reached c.following.self c.advance.new.self
    inv.further.qubits inv.same_coins inv.further.all (c.in_ok-reached.ensures.way c.args.self.now.step) inv.way

arrived : (g : Over) (c : In_ok-reached g) (a b : Arrival) → a ≡ b
    → IsArrival c.advance.new.self.tableau.qubits c.args.plan c.advance.new.self c.args.old.now.checkpoints.now c.args.old.now.outputs.now.records.items c.args.old.now.outputs.now.free.items c.in_ok-reached.reached a
    → IsArrival c.args.self.now.tableau.qubits c.args.plan c.advance.new.self c.args.old.now.checkpoints.now c.args.old.now.outputs.now.records.items c.args.old.now.outputs.now.free.items c.in_ok-reached.reached b
arrived g c a b same h =
    subst (λ x. x)
    (λ i. IsArrival ((stopped g c).replay.at_step.qubits i) c.args.plan c.advance.new.self c.args.old.now.checkpoints.now c.args.old.now.outputs.now.records.items c.args.old.now.outputs.now.free.items c.in_ok-reached.reached (same i)) h

replayed : (g : Over) (c : In_ok-reached g) (r : Replay) → r ≡ c.advance.new.self
    → IsReplay c.args.self.now.tableau.qubits (g.C.Coins.sequence c.args.coins.now) c.args.plan.stride c.args.self.now.step c.args.self.now.cursor.all r
replayed g c r same =
    subst (IsReplay c.args.self.now.tableau.qubits (g.C.Coins.sequence c.args.coins.now) c.args.plan.stride c.args.self.now.step c.args.self.now.cursor.all) (sym same)
    (stopped g c).replay

ended : (g : Over) (c : In_ok-reached g) (r : Replay) → r ≡ c.advance.new.self
    → EndsSoon c.args.self.now.tableau.qubits (g.C.Coins.sequence c.args.coins.now) c.args.plan c.args.self.now.cursor.all c.args.old.now.checkpoints.now c.args.old.now.outputs.now.records.items r.step
ended g c r same =
    subst (λ (r : Replay). EndsSoon c.args.self.now.tableau.qubits (g.C.Coins.sequence c.args.coins.now) c.args.plan c.args.self.now.cursor.all c.args.old.now.checkpoints.now c.args.old.now.outputs.now.records.items r.step)
    (sym same)
    (ends-soon c.args.self.now.tableau.qubits (g.C.Coins.sequence c.args.coins.now) c.args.self.now.step c.args.plan c.args.self.now.cursor.all c.args.old.now.checkpoints.now c.args.old.now.outputs.now.records.items
    c.in_ok-reached.reached c.advance.new.self (stopped g c))

pub returns-in-Met-clause-replay : goal.returns-in-Met-clause-replay
returns-in-Met-clause-replay g c = replayed g ((goal.at.returns-in-Met-clause-replay g c).In_ok-reached) c.arrive.new.self c.arrive.ensures.unchanged

pub returns-in-After-clause-replay : goal.returns-in-After-clause-replay
returns-in-After-clause-replay g c = replayed g ((goal.at.returns-in-After-clause-replay g c).In_ok-reached) c.arrive.new.self c.arrive.ensures.unchanged

-- how it ended, and what that cost

costs : (g : Over) (c : In_ok-reached g) (r : Replay) → r ≡ c.advance.new.self → Costs (g.C.Coins.asks c.args.coins.now) (g.C.Coins.asks c.advance.new.coins) c.args.self.now r
costs g c r same =
    subst (Costs (g.C.Coins.asks c.args.coins.now) (g.C.Coins.asks c.advance.new.coins) c.args.self.now) (sym same)
    (costs-on _ _ _ _ _ _ c.following.invariant.costs (c.in_ok-reached.ensures {u = tt}).costs)

further : (g : Over) (c : In_ok-reached g) → IsFurther (g.C.Coins.asks c.args.coins.now) (g.C.Coins.asks c.advance.new.coins) c.args.self.now c.advance.new.self
further g c = further-on _ _ _ _ _ _ c.following.invariant.further c.advance.ensures.further

window : (g : Over) (c : In_ok-reached g) (r : Replay) → r ≡ c.advance.new.self → c.args.self.now.pivots.window ≤ r.pivots.window
window g c r same = omega (arith, (further g c).window, ap (λ (r : Replay). r.pivots.window) same)

pub returns-in-Met-clause-costs : goal.returns-in-Met-clause-costs
returns-in-Met-clause-costs g c = costs g ((goal.at.returns-in-Met-clause-costs g c).In_ok-reached) c.arrive.new.self c.arrive.ensures.unchanged

pub returns-in-After-clause-costs : goal.returns-in-After-clause-costs
returns-in-After-clause-costs g c = costs g ((goal.at.returns-in-After-clause-costs g c).In_ok-reached) c.arrive.new.self c.arrive.ensures.unchanged

pub returns-in-Met-clause-ended : goal.returns-in-Met-clause-ended
returns-in-Met-clause-ended g c =
    let at = (goal.at.returns-in-Met-clause-ended g c).In_ok-reached in
    let met = arrived g at _ Met c.in-Met.is c.in_ok-arrive.ensures.value in
    record {
      end =
          subst (λ (r : Replay). IsEnd c.args.self.now.tableau.qubits c.args.plan r c.args.old.now.checkpoints.now (output_of c.args.old.now.outputs.now) (Joined c.in_ok-reached.reached))
          (sym c.arrive.ensures.unchanged) ((stopped g at).order, met);
      soon = ended g at c.arrive.new.self c.arrive.ensures.unchanged;
      raised = window g at c.arrive.new.self c.arrive.ensures.unchanged;
    }

pub returns-in-After-clause-ended : goal.returns-in-After-clause-ended
returns-in-After-clause-ended g c =
    let at = (goal.at.returns-in-After-clause-ended g c).In_ok-reached in
    let following = arrived g at _ After c.in-After.is c.in_ok-arrive.ensures.value in
    record {
      end =
          subst (λ (r : Replay). IsEnd c.args.self.now.tableau.qubits c.args.plan r c.args.old.now.checkpoints.now (output_of c.args.old.now.outputs.now) Last)
          (sym c.arrive.ensures.unchanged) following.0;
      soon = ended g at c.arrive.new.self c.arrive.ensures.unchanged;
      raised = window g at c.arrive.new.self c.arrive.ensures.unchanged;
    }

-- with a checkpoint saved it is on its way

saved : (g : Over) (c : In_ok-save g) → c.save.new.self ≡ record c.advance.new.self { saved = c.save.new.self.saved }
saved g c = c.save.ensures.unchanged ∙ ap (λ (r : Replay). record r { saved = c.save.new.self.saved }) c.arrive.ensures.unchanged

between : (g : Over) (c : In_ok-save g)
    → IsArrival c.args.self.now.tableau.qubits c.args.plan c.advance.new.self c.args.old.now.checkpoints.now c.args.old.now.outputs.now.records.items c.args.old.now.outputs.now.free.items c.in_ok-reached.reached (Between c.in-Between.later)
between g c = arrived g ((goal.at.In_ok-save g c).In_ok-reached) _ (Between c.in-Between.later) c.in-Between.is c.in_ok-arrive.ensures.value

on_way : (g : Over) (c : In_ok-save g) → IsOnWay c.args.self.now.tableau.qubits (g.C.Coins.sequence c.args.coins.now) c.args.self.now.step c.args.plan c.args.self.now.cursor.all
    c.args.old.now.checkpoints.now c.args.old.now.outputs.now.records.items c.in-Between.later c.save.new.self
on_way g c =
    on-further c.args.self.now.tableau.qubits (g.C.Coins.sequence c.args.coins.now) c.args.self.now.step c.args.plan c.args.self.now.cursor.all
    c.args.old.now.checkpoints.now c.args.old.now.outputs.now.records.items c.args.old.now.outputs.now.free.items c.in_ok-reached.reached c.in-Between.later c.advance.new.self c.save.new.self
    (stopped g ((goal.at.In_ok-save g c).In_ok-reached)) (between g c) (saved g c)
    ((c.in_ok-save.ensures {u = tt}).saved ∙ ap (λ (r : Replay). r.saved.items ++ checkpoint_of r ∷ []) c.arrive.ensures.unchanged)

-- by its own names
own_way : (g : Over) (c : In_ok-save g) → IsOnWay c.save.new.self.tableau.qubits (g.C.Coins.sequence c.advance.new.coins) c.args.self.now.step c.args.plan c.save.new.self.cursor.all
    c.args.old.now.checkpoints.now c.args.old.now.outputs.now.records.items c.in-Between.later c.save.new.self
own_way g c =
    subst (λ s. IsOnWay c.save.new.self.tableau.qubits s c.args.self.now.step c.args.plan c.save.new.self.cursor.all c.args.old.now.checkpoints.now c.args.old.now.outputs.now.records.items c.in-Between.later c.save.new.self)
    (sym ((c.advance.ensures).same_coins ∙ c.following.invariant.same_coins))
    (way-own c.args.self.now.tableau.qubits (g.C.Coins.sequence c.args.coins.now) c.args.self.now.step c.args.plan c.args.self.now.cursor.all c.args.old.now.checkpoints.now c.args.old.now.outputs.now.records.items
    c.in-Between.later c.save.new.self (on_way g c))

pub come_again-requires-clause-on_way : goal.come_again-requires-clause-on_way
come_again-requires-clause-on_way g c = (
  c.args.self.now.step,
  c.args.old.now.checkpoints.now,
  c.args.old.now.outputs.now.records.items,
  c.in-Between.later,
  own_way g ((goal.at.come_again-requires-clause-on_way g c).In_ok-save),
  c.position-position.ensures.value,
)

pub following-smaller : goal.following-smaller
following-smaller g c =
    let at = goal.at.following-smaller g c in
    let stop = stopped g at.In_ok-reached in
    let within = stop.replay.at_step.within in
    let fewer = fewer-left c.args.self.now.tableau.qubits c.args.plan c.args.old.now.checkpoints.now c.args.old.now.outputs.now.records.items c.args.old.now.outputs.now.free.items c.following.next c.in_ok-reached.reached c.in-Between.later
    c.following.self.step c.advance.new.self c.requires.planned.stride c.advance.ensures.further.step (omega (arith, within, c.requires.planned.total)) c.in_ok-reached.ensures.order stop.within
    c.in_ok-reached.ensures.stops (between g at.In_ok-save) in
    omega (arith, fewer, ap (λ (r : Replay). r.step) (saved g at.In_ok-save), c.come_again.ensures.further.step)

pub following-preserved : goal.following-preserved
following-preserved g c =
    let inv = c.following.invariant in
    let preserved = c.come_again.ensures in
    let again = c.in_ok-come_again.ensures {u = tt} in
    let at = goal.at.following-preserved g c in
    let reached = at.In_ok-reached in
    let way = on_way g at.In_ok-save in
    let same = saved g at.In_ok-save in
    let same_coins = c.advance.ensures.same_coins ∙ inv.same_coins in
    record {
      further = further-on _ _ _ _ _ _ (further-saved _ _ _ _ c.save.new.self (further g reached) same) preserved.further;
      same_coins = preserved.same_coins ∙ same_coins;
      costs = costs-on _ _ _ _ _ _ (costs-saved _ _ _ _ c.save.new.self (costs g reached c.advance.new.self refl) same) again.costs;
      way =
          way-named c.save.new.self.tableau.qubits c.args.self.now.tableau.qubits (g.C.Coins.sequence c.args.coins.now) c.args.self.now.step c.args.plan c.save.new.self.cursor.all c.args.self.now.cursor.all
          c.args.old.now.checkpoints.now c.args.old.now.outputs.now.records.items c.in-Between.later c.come_again.new.self way.stop.replay.at_step.qubits way.stop.replay.at_step.all
          (subst (λ s. IsOnWay c.save.new.self.tableau.qubits s c.args.self.now.step c.args.plan c.save.new.self.cursor.all c.args.old.now.checkpoints.now c.args.old.now.outputs.now.records.items c.in-Between.later
          c.come_again.new.self) same_coins
          (again.way c.args.self.now.step c.args.old.now.checkpoints.now c.args.old.now.outputs.now.records.items c.in-Between.later (own_way g at.In_ok-save) c.position-position.ensures.value));
    }
