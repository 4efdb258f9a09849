use Rattle.stab_recording.proofs.Names.{◌≡◌, refl, sym, subst, [], length, MayRecur, IsOnWay, plan_of_run}
use Rattle.stab_recording.proofs.ProgressLemmas.{further-on, further-saved, costs-on, costs-saved, steps-named}
use Rattle.stab_recording.proofs.RunLemmas.{own-on, own-may, own-front}
use Rattle.stab_recording.proofs.replay.Replay.run_round.Given.{Over}
use Rattle.stab_recording.proofs.replay.Replay.run_round.Goals as goal
use Rattle.stab_recording.proofs.replay.Replay.run_round.Goals.{In_ok-save}

-- after the round, with a checkpoint saved, it may go on by what it gave
may : (g : Over) (c : In_ok-save g) → MayRecur c.args.self.now.tableau.qubits (g.C.Coins.sequence c.args.coins.now) 0 (plan_of_run (length c.args.self.now.cursor.all)) c.args.self.now.cursor.all [] [] 0
    c.args.block c.end_of-end.result c.save.new.self
may g c =
    let n = c.args.self.now.tableau.qubits in
    let coins = g.C.Coins.sequence c.args.coins.now in
    let ys = c.args.self.now.cursor.all in
    let done = c.in_ok-run_to.ensures {u = tt} in
    own-may n coins ys c.args.block c.end_of-end.result c.run_to.new.self c.save.new.self
    (own-on n coins ys c.args.self.now c.run_to.new.self c.requires.ready.own done.carried_out.at_step done.carried_out.saved done.costs.counted c.run_to.ensures.further.step)
    c.save.ensures.unchanged (c.in_ok-save.ensures {u = tt}).saved c.requires.ready.is_repeat c.end_of-end.ensures.within c.requires.ready.runnable.few c.requires.ready.runnable.fits

qubits : (g : Over) (c : In_ok-save g) → c.save.new.self.tableau.qubits ≡ c.args.self.now.tableau.qubits
qubits g c = (may g c).way.stop.replay.at_step.qubits

all : (g : Over) (c : In_ok-save g) → c.save.new.self.cursor.all ≡ c.args.self.now.cursor.all
all g c = (may g c).way.stop.replay.at_step.all

-- by its own names
own_may : (g : Over) (c : In_ok-save g) → MayRecur c.save.new.self.tableau.qubits (g.C.Coins.sequence c.run_to.new.coins) 0 (plan_of_run (length c.args.self.now.cursor.all)) c.save.new.self.cursor.all [] [] 0
    c.args.block c.end_of-end.result c.save.new.self
own_may g c =
    subst (λ x. x)
    (λ i. MayRecur (sym (qubits g c) i) (sym c.run_to.ensures.same_coins i) 0 (plan_of_run (length c.args.self.now.cursor.all)) (sym (all g c) i) [] [] 0 c.args.block c.end_of-end.result c.save.new.self)
    (may g c)

pub fold-requires-clause-circuit : goal.fold-requires-clause-circuit
fold-requires-clause-circuit g c = steps-named (sym (all g ((goal.at.fold-requires-clause-circuit g c).In_ok-save))) c.requires.ready.has_steps

pub fold-requires-clause-may : goal.fold-requires-clause-may
fold-requires-clause-may g c =
    (0, plan_of_run (length c.args.self.now.cursor.all), [], [], 0, own_may g ((goal.at.fold-requires-clause-may g c).In_ok-save))

pub returns-in_err-fold-clause-further : goal.returns-in_err-fold-clause-further
returns-in_err-fold-clause-further g c =
    further-on _ _ _ _ _ _ (further-saved _ _ _ _ c.save.new.self c.run_to.ensures.further c.save.ensures.unchanged) c.fold.ensures.further

pub returns-in_err-save-clause-further : goal.returns-in_err-save-clause-further
returns-in_err-save-clause-further g c = further-saved _ _ _ _ _ c.run_to.ensures.further c.save.ensures.unchanged

pub returns-clause-further : goal.returns-clause-further
returns-clause-further g c =
    further-saved _ _ _ _ _
    (further-on _ _ _ _ _ _ (further-saved _ _ _ _ c.save.new.self c.run_to.ensures.further c.save.ensures.unchanged) c.fold.ensures.further) refl

pub returns-clause-costs : goal.returns-clause-costs
returns-clause-costs g c =
    costs-saved _ _ _ _ _
    (costs-on _ _ _ _ _ _ (costs-saved _ _ _ _ c.save.new.self (c.in_ok-run_to.ensures {u = tt}).costs c.save.ensures.unchanged) (c.in_ok-fold.ensures {u = tt}).costs) refl

pub returns-clause-own : goal.returns-clause-own
returns-clause-own g c =
    let at = (goal.at.returns-clause-own g c).In_ok-save in
    let n = c.args.self.now.tableau.qubits in
    let coins = g.C.Coins.sequence c.args.coins.now in
    let ys = c.args.self.now.cursor.all in
    let on_way : IsOnWay c.save.new.self.tableau.qubits (g.C.Coins.sequence c.run_to.new.coins) 0 (plan_of_run (length ys)) c.save.new.self.cursor.all [] [] 0 c.fold.new.self =
    (c.in_ok-fold.ensures {u = tt}).way 0 (plan_of_run (length ys)) [] [] 0 (own_may g at) in
    let folded : IsOnWay n coins 0 (plan_of_run (length ys)) ys [] [] 0 c.fold.new.self =
    subst (λ x. x) (λ i. IsOnWay (qubits g at i) (c.run_to.ensures.same_coins i) 0 (plan_of_run (length ys)) (all g at i) [] [] 0 c.fold.new.self) on_way in
    own-front n coins ys c.saturating_sub-2.result c.fold.new.self (record c.fold.new.self { saved = c.truncate.new.self }) folded.stop refl c.truncate.ensures.items
