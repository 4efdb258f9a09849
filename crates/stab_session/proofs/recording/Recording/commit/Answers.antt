use Rattle.stab_session.proofs.Names.{◌+◌, ◌≤◌, subst, length, arith, HasRoomFor, checkpoints_moved, HasRoom, checkpoints_after}
use Rattle.stab_session.proofs.StateLemmas.{checkpoints-long}
use Rattle.stab_session.proofs.recording.Recording.commit.Goals as goal
use Rattle.stab_session.proofs.recording.Recording.commit.Goals.{In-Old}

ordered : (c : In-Old) → c.args.before ≤ c.in-Old.rest.number
ordered c =
    let cs = c.args.self.now.checkpoints.items in
    let following : c.args.before + length (checkpoints_moved c.in-Old.rest cs) ≤ length cs = subst (λ x. c.args.before + length (checkpoints_after x cs) ≤ length cs) c.in-Old.is c.requires.following in
    let room : HasRoomFor c.args.self.now.tableau.qubits c.in-Old.rest cs = subst (λ x. HasRoom c.args.self.now.tableau.qubits x cs) c.in-Old.is c.requires.room in
    omega (arith, following, checkpoints-long c.in-Old.rest cs, room.few)

pub put_rest-requires-clause-order : goal.put_rest-requires-clause-order
put_rest-requires-clause-order c = ordered ((goal.at.put_rest-requires-clause-order c).In-Old)

pub put_rest-requires-clause-capacity : goal.put_rest-requires-clause-capacity
put_rest-requires-clause-capacity c = omega (arith, c.requires.capacity, ordered ((goal.at.put_rest-requires-clause-capacity c).In-Old))
