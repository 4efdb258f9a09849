use Rattle.stab_recording.proofs.Names.{refl}
use Rattle.stab_recording.proofs.ProgressLemmas.{further-by-steps, costs-by-steps}
use Rattle.stab_recording.proofs.ReplayLemmas.{run-on}
use Rattle.stab_recording.proofs.replay.Replay.run_to.Goals as goal

pub returns-in_err-run_recording_pivots-clause-further : goal.returns-in_err-run_recording_pivots-clause-further
returns-in_err-run_recording_pivots-clause-further g c =
    let ran = c.run_recording_pivots.ensures in
    further-by-steps _ _ _ _ ran.all ran.qubits c.requires.order ran.no_less.raised ran.no_less.most c.requires.begun.left ran.asks

pub returns-clause-further : goal.returns-clause-further
returns-clause-further g c =
    let ran = c.run_recording_pivots.ensures in
    further-by-steps _ _ _ _ ran.all ran.qubits c.requires.order ran.no_less.raised ran.no_less.most c.requires.begun.left ran.asks

pub returns-clause-costs : goal.returns-clause-costs
returns-clause-costs g c =
    let done = c.in_ok-run_recording_pivots.ensures {u = tt} in
    costs-by-steps _ _ _ _ c.requires.order c.requires.within c.requires.begun.left done.recorded.done.counted refl done.asks done.recorded.done.asks_random

pub returns-clause-carried_out : goal.returns-clause-carried_out
returns-clause-carried_out g c =
    let done = c.in_ok-run_recording_pivots.ensures in
    record {
      at_step =
          run-on c.args.self.now.tableau.qubits (g.C.Coins.sequence c.args.coins.now) c.args.self.now.cursor.all c.args.self.now _ c.requires.begun c.requires.order
          c.requires.within done.qubits done.sized done.all done.no_less done.recorded;
      saved = refl;
      by_frame = refl;
    }
