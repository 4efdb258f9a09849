use Rattle.stab_recording.proofs.Names.{◌∙◌, arith}
use Rattle.stab_recording.proofs.ProgressLemmas.{further-on, costs-on, carried-on}
use Rattle.stab_recording.proofs.replay.Replay.run_past.Goals as goal

pub loop-self-preserved : goal.loop-self-preserved
loop-self-preserved g c =
    let inv = c.loop-self.invariant in
    let ran = c.run_to-in-loop-self.ensures in
    let done = c.in_ok-run_to-2.ensures {u = tt} in
    record {
      further = further-on _ _ _ _ _ _ inv.further ran.further;
      same_coins = ran.same_coins ∙ inv.same_coins;
      costs = costs-on _ _ _ _ _ _ inv.costs done.costs;
      carried_out = carried-on _ _ _ inv.further.qubits inv.same_coins inv.carried_out done.carried_out;
      before = omega (arith, ran.step, c.min-next.ensures, c.saturating_add.ensures, inv.within, inv.before);
      reached = omega (arith, c.min-next.ensures, c.saturating_add.ensures, inv.within, inv.reached);
      within = omega (arith, c.min-next.ensures);
    }

pub returns-in_err-run_to-2-clause-further : goal.returns-in_err-run_to-2-clause-further
returns-in_err-run_to-2-clause-further g c = further-on _ _ _ _ _ _ c.loop-self.invariant.further c.run_to-in-loop-self.ensures.further

pub returns-then-given-clause-further : goal.returns-then-given-clause-further
returns-then-given-clause-further g c = further-on _ _ _ _ _ _ c.loop-self.invariant.further c.run_to-in-loop-self.ensures.further

pub returns-then-given-clause-costs : goal.returns-then-given-clause-costs
returns-then-given-clause-costs g c = costs-on _ _ _ _ _ _ c.loop-self.invariant.costs (c.in_ok-run_to-2.ensures {u = tt}).costs

pub returns-then-given-clause-carried_out : goal.returns-then-given-clause-carried_out
returns-then-given-clause-carried_out g c =
    let inv = c.loop-self.invariant in
    carried-on _ _ _ inv.further.qubits inv.same_coins inv.carried_out (c.in_ok-run_to-2.ensures {u = tt}).carried_out
