use Rattle.stab_session.proofs.Names.{◌+◌, length-drop, refl, sym, ◌∙◌, ap, subst, arith, length, drop, unroll, circuit_items, AreInOrder, IsRestFrame}
use Rattle.stab_recording.specs.PassedSteps.{MayPropagate}
use Rattle.stab_session.proofs.ConjugatingLemmas.{following-order, advanced-few}
use Rattle.stab_session.proofs.recording.Recording.conjugating.Goals as goal

pub propagate_rest-requires-clause-may : goal.propagate_rest-requires-clause-may
propagate_rest-requires-clause-may c =
    subst (λ x. x) (λ i. MayPropagate c.args.self.now.strings (sym c.as_slice-2.ensures.value i) 0 (sym c.in_ok-cursor.ensures.steps i) c.args.by_frame.now c.args.passed.propagation) c.requires.may

-- no more steps are counted than come after the span

pub returns-in_err-advanced-clause-most : goal.returns-in_err-advanced-clause-most
returns-in_err-advanced-clause-most c =
    omega (arith, c.propagate_rest.ensures.most, ap length c.in_ok-cursor.ensures.steps, length-drop c.args.span.new_end (unroll (circuit_items c.args.circuit.now)))

pub returns-then-not-advanced-clause-most : goal.returns-then-not-advanced-clause-most
returns-then-not-advanced-clause-most c =
    omega (arith, c.propagate_rest.ensures.most, ap length c.in_ok-cursor.ensures.steps, length-drop c.args.span.new_end (unroll (circuit_items c.args.circuit.now)))

pub returns-in_err-with_capacity-clause-most : goal.returns-in_err-with_capacity-clause-most
returns-in_err-with_capacity-clause-most c =
    omega (arith, c.propagate_rest.ensures.most, ap length c.in_ok-cursor.ensures.steps, length-drop c.args.span.new_end (unroll (circuit_items c.args.circuit.now)))

pub returns-clause-most : goal.returns-clause-most
returns-clause-most c =
    omega (arith, c.propagate_rest.ensures.most, ap length c.in_ok-cursor.ensures.steps, length-drop c.args.span.new_end (unroll (circuit_items c.args.circuit.now)))

pub propagate_rest-requires-clause-order : goal.propagate_rest-requires-clause-order
propagate_rest-requires-clause-order c =
    let f = c.requires.follows.3 in
    let cs = c.args.self.now.checkpoints.items in
    subst (AreInOrder c.args.span.old_end (c.args.span.old_end + length c.in_ok-cursor.cursor.left)) (sym (c.split_at.ensures.back ∙ ap (drop c.args.inside) c.as_slice.ensures.value))
    (subst (λ zs. AreInOrder c.args.span.old_end (c.args.span.old_end + length zs) (drop c.args.inside cs)) (sym c.in_ok-cursor.ensures.steps)
    (following-order f.count f.preserved f.span c.args.inside c.requires.following))

pub returns-clause-conjugating : goal.returns-clause-conjugating
returns-clause-conjugating c =
    let n = c.args.self.now.tableau.qubits in
    let ys = unroll (circuit_items c.args.circuit.now) in
    let cs = c.args.self.now.checkpoints.items in
    let advanced : IsRestFrame n c.args.self.now.strings.strings c.args.self.now.outputs.free.items c.args.self.now.window (drop c.args.span.new_end ys) c.args.span.old_end (drop c.args.inside cs)
    c.propagate_rest.new.conjugated.items c.args.passed.propagation c.propagate_rest.new.propagation =
    subst (λ x. x)
    (λ i. IsRestFrame (c.requires.letters i) c.args.self.now.strings.strings (c.as_slice-2.ensures.value i) c.args.self.now.window (c.in_ok-cursor.ensures.steps i) c.args.span.old_end
    ((c.split_at.ensures.back ∙ ap (drop c.args.inside) c.as_slice.ensures.value) i) c.propagate_rest.new.conjugated.items c.args.passed.propagation c.propagate_rest.new.propagation)
    (c.in_ok-advanced.ensures.advanced c.if-not-advanced.false) in
    record {
      from = refl;
      passed = refl;
      number = refl;
      meeting = c.meeting_after.ensures.value;
      advanced = advanced;
      room = record {
        nothing = c.in_ok-with_capacity.ensures.items;
        room = omega (arith, c.in_ok-with_capacity.ensures.capacity, c.len.ensures, c.args.self.now.checkpoints.ok.0);
        few =
            omega (
              arith,
              advanced-few n c.args.self.now.strings.strings c.args.self.now.outputs.free.items c.args.self.now.window (drop c.args.span.new_end ys) c.args.span.old_end c.args.inside cs
                  c.propagate_rest.new.conjugated.items c.args.passed.propagation c.propagate_rest.new.propagation advanced c.requires.inside,
            );
        letters = c.propagate_rest.ensures.length ∙ c.requires.letters;
      };
    }
