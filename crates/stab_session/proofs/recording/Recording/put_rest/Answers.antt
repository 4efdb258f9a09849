use Rattle.stab_session.proofs.Names.{sym, ◌∙◌, ap, subst, arith, length, TableauState, stabilises, IsConjugated}
use Rattle.stab_session.proofs.StateLemmas.{put-length, put-saved, taken-long}
use Rattle.stab_session.proofs.recording.Recording.put_rest.Goals as goal

pub take_moved-requires : goal.take_moved-requires
take_moved-requires c =
    let cs = c.args.self.now.checkpoints.items in
    let few = c.requires.room.few in
    record {
      room = omega (
        arith,
        ap length c.requires.room.nothing,
        c.requires.room.room,
        put-length c.args.rest.number c.args.stride c.args.rest.conjugated.items cs c.put_states.new.checkpoints.items (omega (arith, few)) c.put_states.ensures.value,
      );
    }

pub save_all-requires : goal.save_all-requires
save_all-requires c =
    let cs = c.args.self.now.checkpoints.items in
    let few = c.requires.room.few in
    let saved = c.save_after.ensures in
    record {
      room = omega (
        arith,
        c.requires.capacity,
        few,
        saved.shorter,
        saved.capacity,
        c.take_moved.ensures.capacity,
        c.put_states.ensures.capacity,
        taken-long c.args.rest.meeting c.args.rest.number c.put_states.new.checkpoints.items c.args.rest.room.items c.take_moved.new.taken.items c.take_moved.ensures.taken c.requires.room.nothing,
        put-length c.args.rest.number c.args.stride c.args.rest.conjugated.items cs c.put_states.new.checkpoints.items (omega (arith, few)) c.put_states.ensures.value,
      );
    }

pub returns : goal.returns
returns c =
    let n = c.args.self.now.tableau.qubits in
    let cs = c.args.self.now.checkpoints.items in
    let few = c.requires.room.few in
    let letters = c.letters.ensures.value in
    let saved = c.save_after.ensures in
    record {
      put = record {
        qubits = ap (λ (t : TableauState). t.qubits) saved.tableau ∙ c.apply_frame.ensures.qubits;
        conjugated =
            subst (λ t. IsConjugated n c.args.rest.propagation.letters (stabilises c.args.self.now.tableau) (stabilises t)) (sym saved.tableau)
            (subst (λ l. IsConjugated n l (stabilises c.args.self.now.tableau) (stabilises c.apply_frame.new.tableau)) letters c.apply_frame.ensures.conjugated);
        output = saved.output;
        observables = saved.observables;
        strings = saved.strings;
        window = saved.window;
        checkpoints =
            put-saved c.args.rest.number c.args.stride c.args.rest.conjugated.items cs c.put_states.new.checkpoints.items (omega (arith, few)) c.put_states.ensures.value
            c.args.before c.args.rest.meeting c.args.rest.room.items c.take_moved.new.taken.items c.take_moved.new.checkpoints.items c.args.saved.now.items
            c.save_after.new.self.checkpoints.items c.save_all.new.checkpoints.items c.requires.order
            c.requires.room.nothing c.take_moved.ensures.taken c.take_moved.ensures.left saved.checkpoints c.save_all.ensures.value;
      };
    }
