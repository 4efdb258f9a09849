use Rattle.stab_recording.proofs.Names.{refl, ◌∙◌}
use Rattle.stab_recording.proofs.ProgressLemmas.{further-on, further-saved, costs-on, costs-saved}
use Rattle.stab_recording.proofs.RunLemmas.{may-run-block, own-on, own-front, own-named}
use Rattle.stab_recording.proofs.replay.Replay.run_block.Goals as goal

pub run_round-requires : goal.run_round-requires
run_round-requires g c =
    let inv = c.loop-round.invariant in
    record { ready = may-run-block _ _ c.args.self.now _ inv.further.qubits inv.same_coins inv.further.all inv.own c.requires.ready }

pub loop-round-init : goal.loop-round-init
loop-round-init g c =
    let done = c.in_ok-run_to.ensures {u = tt} in
    record {
      further = c.run_to.ensures.further;
      same_coins = c.run_to.ensures.same_coins;
      costs = done.costs;
      own =
          own-on c.args.self.now.tableau.qubits (g.C.Coins.sequence c.args.coins.now) c.args.self.now.cursor.all c.args.self.now c.run_to.new.self c.requires.ready.own done.carried_out.at_step
          done.carried_out.saved done.costs.counted c.run_to.ensures.further.step;
    }

pub loop-round-preserved : goal.loop-round-preserved
loop-round-preserved g c =
    let inv = c.loop-round.invariant in
    let ran = c.run_round.ensures in
    let done = c.in_ok-run_round.ensures {u = tt} in
    record {
      further = further-on _ _ _ _ _ _ inv.further ran.further;
      same_coins = ran.same_coins ∙ inv.same_coins;
      costs = costs-on _ _ _ _ _ _ inv.costs done.costs;
      own = own-named c.run_round.new.self inv.further.qubits inv.same_coins inv.further.all done.own;
    }

pub returns-in_err-run_round-clause-further : goal.returns-in_err-run_round-clause-further
returns-in_err-run_round-clause-further g c = further-on _ _ _ _ _ _ c.loop-round.invariant.further c.run_round.ensures.further

pub returns-clause-further : goal.returns-clause-further
returns-clause-further g c = further-saved _ _ _ _ _ c.loop-round.invariant.further refl

pub returns-clause-costs : goal.returns-clause-costs
returns-clause-costs g c = costs-saved _ _ _ _ _ c.loop-round.invariant.costs refl

pub returns-clause-own : goal.returns-clause-own
returns-clause-own g c =
    own-front c.args.self.now.tableau.qubits (g.C.Coins.sequence c.args.coins.now) c.args.self.now.cursor.all 0 c.loop-round.self (record c.loop-round.self { saved = c.truncate.new.self })
    c.loop-round.invariant.own refl c.truncate.ensures.items
