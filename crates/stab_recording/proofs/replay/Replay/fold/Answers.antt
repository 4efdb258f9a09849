use Rattle.stab_recording.proofs.Names.{◌≡◌, ℕ, ◌∙◌, sym, ap, subst, Bool, false, List, length, drop, arith, Checkpoint, Plan, Replay, AreRoundsFound, MayRecur, IsFolding, IsOnWay, with_state, with_cursor}
use Rattle.std.proofs.Common.{IfSome}
use Rattle.stab_recording.proofs.FoldedReplayLemmas.{own-checkpoints, folding-begins}
use Rattle.stab_recording.proofs.ProgressLemmas.{further-named, costs-named}
use Rattle.stab_recording.proofs.PropagatedWayLemmas.{cursor-set}
use Rattle.stab_recording.proofs.replay.Replay.fold.Given.{Over}
use Rattle.stab_recording.proofs.replay.Replay.fold.Goals as goal
use Rattle.stab_recording.proofs.replay.Replay.fold.Goals.{In-Some, In_ok-catch_up}

pub find_recurrence-requires-clause-own : goal.find_recurrence-requires-clause-own
find_recurrence-requires-clause-own g c =
    let t = c.requires.may in
    own-checkpoints c.args.self.now.tableau.qubits (g.C.Coins.sequence c.args.coins.now) t.0 t.1 c.args.self.now.cursor.all t.2 t.3 t.4 c.args.self.now t.5.way

-- from the checkpoint that was found
folding : (g : Over) (c : In-Some g) (begin : ℕ) (p : Plan) (checkpoints : List Checkpoint) (old : List Bool) (next : ℕ)
    → MayRecur c.args.self.now.tableau.qubits (g.C.Coins.sequence c.args.coins.now) begin p c.args.self.now.cursor.all checkpoints old next c.args.block c.args.end c.args.self.now
    → IsFolding c.args.self.now.tableau.qubits (g.C.Coins.sequence c.args.coins.now) begin p c.args.self.now.cursor.all checkpoints old next c.args.block c.args.end false c.args.self.now
    c.in-Some.recurrence
folding g c begin p checkpoints old next may =
    folding-begins c.args.self.now.tableau.qubits (g.C.Coins.sequence c.args.coins.now) begin p c.args.self.now.cursor.all checkpoints old next c.args.block c.args.end
    c.args.self.now c.in-Some.recurrence may
    (subst (λ o. IfSome o (AreRoundsFound c.args.block c.args.self.now)) c.in-Some.is (c.in_ok-recurrence.ensures {u = tt}).found)

pub give_on-requires-clause-folding : goal.give_on-requires-clause-folding
give_on-requires-clause-folding g c =
    let t = c.requires.may in
    (t.0, t.1, t.2, t.3, t.4, c.args.block, folding g ((goal.at.give_on-requires-clause-folding g c).In-Some) t.0 t.1 t.2 t.3 t.4 t.5)

-- with its tableau and its cursor if it has come to it is on its way
on_way : (g : Over) (c : In_ok-catch_up g) (begin : ℕ) (p : Plan) (checkpoints : List Checkpoint) (old : List Bool) (next : ℕ)
    → MayRecur c.args.self.now.tableau.qubits (g.C.Coins.sequence c.args.coins.now) begin p c.args.self.now.cursor.all checkpoints old next c.args.block c.args.end c.args.self.now
    → IsOnWay c.args.self.now.tableau.qubits (g.C.Coins.sequence c.args.coins.now) begin p c.args.self.now.cursor.all checkpoints old next
    (with_cursor c.args.self.now.cursor.all (with_state c.in_ok-passed.passed c.give_on.new.self))
on_way g c begin p checkpoints old next may =
    (c.in_ok-passed.ensures {u = tt}).way begin p checkpoints old next c.args.block
    (folding g ((goal.at.In_ok-catch_up g c).In-Some) begin p checkpoints old next may)

arrived : (g : Over) (c : In_ok-catch_up g) → IsOnWay c.args.self.now.tableau.qubits (g.C.Coins.sequence c.args.coins.now) c.requires.may.0 c.requires.may.1 c.args.self.now.cursor.all c.requires.may.2
    c.requires.may.3 c.requires.may.4 (with_cursor c.args.self.now.cursor.all (with_state c.in_ok-passed.passed c.give_on.new.self))
arrived g c =
    let t = c.requires.may in
    on_way g c t.0 t.1 t.2 t.3 t.4 t.5

state : (g : Over) (c : In_ok-catch_up g) → c.catch_up.new.self ≡ with_state c.in_ok-passed.passed c.give_on.new.self
state g c = (c.in_ok-catch_up.ensures {u = tt}).state

qubits : (g : Over) (c : In_ok-catch_up g) → c.catch_up.new.self.tableau.qubits ≡ c.args.self.now.tableau.qubits
qubits g c = ap (λ (r : Replay). r.tableau.qubits) (state g c) ∙ (arrived g c).stop.replay.at_step.qubits

pub at-requires-clause-in_range : goal.at-requires-clause-in_range
at-requires-clause-in_range g c =
    let within = (arrived g c).stop.replay.at_step.within in
    omega (arith, ap (λ (r : Replay). r.step) (state g c), within, ap (λ xs. length xs) c.requires.circuit.steps)

pub returns-in_err-self-clause-further : goal.returns-in_err-self-clause-further
returns-in_err-self-clause-further g c =
    let at = (goal.at.returns-in_err-self-clause-further g c).In_ok-catch_up in
    further-named _ _ _ _ _ c.give_on.ensures.further ((λ i. (state g at i).cursor.all) ∙ c.give_on.ensures.further.all) (qubits g at) (λ i. (state g at i).step) (λ i. (state g at i).pivots)

pub returns-clause-further : goal.returns-clause-further
returns-clause-further g c =
    let at = (goal.at.returns-clause-further g c).In_ok-catch_up in
    further-named _ _ _ _ _ c.give_on.ensures.further (c.in_ok-self.ensures.all ∙ c.requires.circuit.steps) (qubits g at) (λ i. (state g at i).step) (λ i. (state g at i).pivots)

pub returns-clause-costs : goal.returns-clause-costs
returns-clause-costs g c =
    let at = (goal.at.returns-clause-costs g c).In_ok-catch_up in
    costs-named _ _ _ _ _ (c.in_ok-passed.ensures {u = tt}).costs (λ i. (state g at i).step) (λ i. (state g at i).applied) (λ i. (state g at i).by_frame) (λ i. (state g at i).outputs)

pub returns-clause-way : goal.returns-clause-way
returns-clause-way g c = λ begin p checkpoints old next may.
    let at = (goal.at.returns-clause-way g c).In_ok-catch_up in
    let steps = c.args.self.now.cursor.all in
    let same = c.requires.circuit.steps in
    let cursor = c.in_ok-self.field-0 in
    subst (IsOnWay c.args.self.now.tableau.qubits (g.C.Coins.sequence c.args.coins.now) begin p steps checkpoints old next)
    (cursor-set steps (with_state c.in_ok-passed.passed c.give_on.new.self) cursor (c.in_ok-self.ensures.all ∙ same)
    (c.in_ok-self.ensures.steps ∙ (λ i. drop (state g at i).step (same i)))
    ∙ ap (λ (r : Replay). record r { cursor = cursor }) (sym (state g at)))
    (on_way g at begin p checkpoints old next may)
