use Rattle.stab_recording.proofs.Names.{◌≡◌, ◌-◌, refl, ap, true, length, slice_get, arith, slice_get_read, IfSome_then, Checkpoint, output_of}
use Rattle.stab_recording.proofs.DifferingReplayLemmas.{all-missed}
use Rattle.stab_recording.proofs.replay.Replay.skip_differing.Goals as goal

pub returns-clause-missed : goal.returns-clause-missed
returns-clause-missed c = λ coins beside few number from before.
    let held : c.differs.result ≡ true = grind (arith, c.if-not-differs.false) in
    let some = c.differs.ensures.following held in
    let last = slice_get_read c.args.checkpoints.now (length c.args.checkpoints.now) (c.args.next - 1) c.index-checkpoints-next.result refl (omega (arith, some, c.requires.next)) c.index-checkpoints-next.is in
    all-missed c.args.self.now.tableau.qubits coins c.args.plan c.args.self.now.cursor.all c.args.checkpoints.now (output_of c.args.old.now) c.args.self.now beside few (c.args.next - 1)
    c.index-checkpoints-next.result last (c.differs.ensures.differs held) number
    (IfSome_then (slice_get c.args.checkpoints.now number) (c.first_from.ensures.among number from before) (λ d le. omega (arith, le, ap (λ (x : Checkpoint). x.step) c.index-checkpoints-next.is)))
