use Rattle.stab_session.proofs.Names.{◌≡◌, ℕ, ◌+◌, ◌≤◌, refl, sym, ap, subst, length, drop, All, None, arith, Result, Ok, Err, OnErr, unroll, circuit_items, HasDistinctQubits, AreRepeats, Plan, Span, all_coins_of, StepFits, output_of, IsOldRun, IsRecording, Follows, Ascending, check-fits, check-whole, check-steps, IsCheckpointCount}
use Rattle.stab_session.specs.FollowedEdits.{AsksWithin}
use Rattle.stab_session.proofs.CountLemmas.{coins-following}
use Rattle.stab_session.proofs.CourseLemmas.{HasBegun, HasEnded, count-of, seen-end, seen-soon, some-before, checkpoint-within, has-begun, asked-following, ascending-here, old-run, has-ended}
use Rattle.stab_session.proofs.recording.Recording.replay.Given.{Over}
use Rattle.stab_session.proofs.recording.Recording.replay.Goals as goal
use Rattle.stab_session.proofs.recording.Recording.replay.Goals.{After-as_slice, After-count_before-before, In_ok-replay, After-as_slice-3, After-follow, In_ok-end}

on-err : {A E : Type 0} (r : Result A E) (P : Type 0) → P → OnErr r P
on-err (Ok x) P p = tt
on-err (Err x) P p = p

few : (g : Over) (c : After-as_slice g) → length (unroll (circuit_items c.args.circuit.now)) ≤ 1048576
few g c = check-steps (circuit_items c.args.circuit.now) (check-whole c.args.self.now.tableau.qubits (circuit_items c.args.circuit.now) c.requires.checked)

fitting : (g : Over) (c : After-as_slice g) → All HasDistinctQubits (unroll (circuit_items c.args.circuit.now)) → All (StepFits c.args.self.now.tableau.qubits) (unroll (circuit_items c.args.circuit.now))
fitting g c distinct =
    check-fits c.args.self.now.tableau.qubits (circuit_items c.args.circuit.now) (unroll (circuit_items c.args.circuit.now)) c.requires.checked refl distinct

-- the checkpoints at or before the first step that changed
first : (g : Over) (c : After-count_before-before g) → IsCheckpointCount (c.args.span.first + 1) c.args.self.now.checkpoints.items c.count_before-before.result
first g c =
    let count = c.count_before-before.ensures in
    count-of (c.args.span.first + 1) c.as_slice.result.now c.args.self.now.checkpoints.items c.count_before-before.result c.as_slice.ensures.value count.within count.before
    count.following

-- and those before the end of what was changed
following : (g : Over) (c : After-as_slice-3 g) → IsCheckpointCount c.args.span.old_end c.args.self.now.checkpoints.items c.count_before.result
following g c =
    let count = c.count_before.ensures in
    count-of c.args.span.old_end c.as_slice-2.result.now c.args.self.now.checkpoints.items c.count_before.result c.as_slice-2.ensures.value count.within count.before count.following

begun : (g : Over) (c : In_ok-replay g) → length (unroll (circuit_items c.args.circuit.now)) ≤ 1048576
    → IsCheckpointCount (c.args.span.first + 1) c.args.self.now.checkpoints.items c.count_before-before.result
    → HasBegun c.args.self.now.tableau.qubits (g.C.Coins.sequence c.args.coins.now) c.args.stride (unroll (circuit_items c.args.circuit.now)) c.args.self.now
    c.count_before-before.result c.in_ok-replay.replay
begun g c few first = has-begun c.requires.follows few first c.in_ok-replay.replay c.in_ok-replay.ensures.begins

abbrev planned : (total stride : ℕ) (s : Span) (next window : ℕ) → Plan
planned total stride s next window = record { total = total; stride = stride; old_end = s.old_end; new_end = s.new_end; next = next; window = window }

-- no more coins are asked for than there may be
asked : (g : Over) (c : After-follow g) → length (unroll (circuit_items c.args.circuit.now)) ≤ 1048576
    → IsCheckpointCount (c.args.span.first + 1) c.args.self.now.checkpoints.items c.count_before-before.result
    → HasBegun c.args.self.now.tableau.qubits (g.C.Coins.sequence c.args.coins.now) c.args.stride (unroll (circuit_items c.args.circuit.now)) c.args.self.now
    c.count_before-before.result c.in_ok-replay.replay
    → AsksWithin c.args.stride (unroll (circuit_items c.args.circuit.now)) c.args.span.first (g.C.Coins.asks c.args.coins.now) (g.C.Coins.asks c.follow.new.coins)
asked g c few first begins =
    let asked = c.follow.ensures.asked in
    record {
      all = omega (arith, asked, coins-following c.in_ok-replay.replay.step c.in_ok-replay.replay.cursor.all, ap all_coins_of begins.all);
      near = asked-following c.requires.follows few first c.in_ok-replay.replay begins _ _ asked;
    }

-- the replay ended, whichever old steps are followed
end_of : (g : Over) (c : In_ok-end g)
    (f : Follows c.args.self.now.tableau.qubits (g.C.Coins.sequence c.args.coins.now) c.args.stride (unroll (circuit_items c.args.circuit.now)) c.args.span None c.args.self.now)
    → length (unroll (circuit_items c.args.circuit.now)) ≤ 1048576
    → IsCheckpointCount (c.args.span.first + 1) c.args.self.now.checkpoints.items c.count_before-before.result
    → HasBegun c.args.self.now.tableau.qubits (g.C.Coins.sequence c.args.coins.now) c.args.stride (unroll (circuit_items c.args.circuit.now)) c.args.self.now
    c.count_before-before.result c.in_ok-replay.replay
    → IsCheckpointCount c.args.span.old_end c.args.self.now.checkpoints.items c.count_before.result
    → HasEnded c.args.self.now.tableau.qubits (g.C.Coins.sequence c.args.coins.now) c.args.stride (unroll (circuit_items c.args.circuit.now)) c.args.span c.args.self.now
    c.count_before-before.result f.old c.in_ok-replay.replay.step (planned c.steps.result c.args.stride c.args.span c.max.result c.args.self.now.window) c.follow.new.self
    c.in_ok-end.end
end_of g c f few first begins following =
    let plan = planned c.steps.result c.args.stride c.args.span c.max.result c.args.self.now.window in
    has-ended f few first begins following plan refl refl (omega (arith, c.steps.ensures.value, few)) c.max.ensures refl c.follow.new.self c.in_ok-end.end
    c.in_ok-end.ensures.replay c.in_ok-end.ensures.ended.raised
    (seen-end c.in_ok-replay.replay.tableau.qubits plan c.follow.new.self (output_of c.args.self.now.outputs) c.in_ok-end.end c.as_slice-3.ensures.value c.in_ok-end.ensures.ended.end)

-- how many steps were followed
followed : (g : Over) (c : In_ok-end g) → c.in_ok-replay.replay.applied ≡ 0 → c.in_ok-replay.replay.by_frame ≡ 0
    → (c.follow.new.self.applied + c.follow.new.self.by_frame) + c.in_ok-replay.replay.step ≡ c.follow.new.self.step
followed g c applied by_frame = omega (arith, c.in_ok-end.ensures.costs.counted, applied, by_frame)

pub overflow_add-span : goal.overflow_add-span
overflow_add-span g c =
    let at = goal.at.overflow_add-span g c in
    let span = c.requires.follows.span in
    let order = span.new_order in
    let within = span.new_within in
    omega (arith, few g at.After-as_slice, order, within)

pub overflow_sub-before : goal.overflow_sub-before
overflow_sub-before g c =
    let at = goal.at.overflow_sub-before g c in
    some-before c.requires.follows (few g at.After-as_slice) (first g at.After-count_before-before)

pub resume-requires-clause-within : goal.resume-requires-clause-within
resume-requires-clause-within g c =
    let at = goal.at.resume-requires-clause-within g c in
    checkpoint-within c.requires.follows (few g at.After-as_slice) (first g at.After-count_before-before)

pub follow-requires-clause-begun : goal.follow-requires-clause-begun
follow-requires-clause-begun g c =
    let at = goal.at.follow-requires-clause-begun g c in
    let begins = begun g at.In_ok-replay (few g at.After-as_slice) (first g at.After-count_before-before) in
    record { replay = begins.replay; nothing_saved = begins.saved; nothing_applied = begins.applied; nothing_propagated = begins.by_frame }

pub follow-requires-clause-planned : goal.follow-requires-clause-planned
follow-requires-clause-planned g c =
    let at = goal.at.follow-requires-clause-planned g c in
    let begins = begun g at.In_ok-replay (few g at.After-as_slice) (first g at.After-count_before-before) in
    record {
      fits =
          subst (λ n. All (StepFits n) c.in_ok-replay.replay.cursor.all) (sym begins.qubits)
          (check-fits c.args.self.now.tableau.qubits (circuit_items c.args.circuit.now) c.in_ok-replay.replay.cursor.all c.requires.checked begins.all
          (subst (All HasDistinctQubits) (sym begins.all) begins.distinct));
      total = omega (arith, c.steps.ensures.value, few g at.After-as_slice, ap length begins.all);
      few = omega (arith, c.steps.ensures.value, few g at.After-as_slice);
      stride = c.requires.stride;
    }

pub follow-requires-clause-circuit : goal.follow-requires-clause-circuit
follow-requires-clause-circuit g c =
    let at = goal.at.follow-requires-clause-circuit g c in
    let begins = begun g at.In_ok-replay (few g at.After-as_slice) (first g at.After-count_before-before) in
    record { steps = sym begins.all; checked = check-whole c.args.self.now.tableau.qubits (circuit_items c.args.circuit.now) c.requires.checked }

pub follow-requires-clause-followed : goal.follow-requires-clause-followed
follow-requires-clause-followed g c =
    let at = goal.at.follow-requires-clause-followed g c in
    let begins = begun g at.In_ok-replay (few g at.After-as_slice) (first g at.After-count_before-before) in
    let plan = planned c.steps.result c.args.stride c.args.span c.max.result c.args.self.now.window in
    record {
      run =
          subst (λ cs. IsOldRun c.in_ok-replay.replay.tableau.qubits (g.C.Coins.sequence c.args.coins.now) plan c.in_ok-replay.replay.cursor.all cs (output_of c.args.self.now.outputs))
          (sym c.as_slice-3.ensures.value)
          (old-run c.requires.follows (few g at.After-as_slice) (first g at.After-count_before-before) begins (following g at.After-as_slice-3) plan refl refl (omega (arith, c.steps.ensures.value, few g at.After-as_slice)) c.max.ensures refl);
      next = omega (arith, (following g at.After-as_slice-3).within, (first g at.After-count_before-before).within, c.max.ensures, ap length c.as_slice-3.ensures.value);
      ascending =
          subst (λ cs. Ascending plan c.in_ok-replay.replay.step (drop c.max.result cs)) (sym c.as_slice-3.ensures.value)
          (ascending-here c.requires.follows (few g at.After-as_slice) (first g at.After-count_before-before) begins (following g at.After-as_slice-3) plan refl refl (omega (arith, c.steps.ensures.value, few g at.After-as_slice)) c.max.ensures refl);
      same_qubits = subst (All (λ d. d.tableau.qubits ≡ c.in_ok-replay.replay.tableau.qubits)) (sym c.as_slice-3.ensures.value) begins.checkpoints;
    }

pub follow-requires-clause-repeats : goal.follow-requires-clause-repeats
follow-requires-clause-repeats g c =
    let at = goal.at.follow-requires-clause-repeats g c in
    let begins = begun g at.In_ok-replay (few g at.After-as_slice) (first g at.After-count_before-before) in
    subst (λ ys. AreRepeats 0 ys c.args.repeats.now) (sym begins.all) c.requires.repeats

pub returns-in_err-end-clause-asked : goal.returns-in_err-end-clause-asked
returns-in_err-end-clause-asked g c =
    let at = goal.at.returns-in_err-end-clause-asked g c in
    let begins = begun g at.In_ok-replay (few g at.After-as_slice) (first g at.After-count_before-before) in
    asked g at.After-follow (few g at.After-as_slice) (first g at.After-count_before-before) begins

pub returns-in_err-prepared-clause-asked : goal.returns-in_err-prepared-clause-asked
returns-in_err-prepared-clause-asked g c =
    let at = goal.at.returns-in_err-prepared-clause-asked g c in
    let begins = begun g at.In_ok-replay (few g at.After-as_slice) (first g at.After-count_before-before) in
    asked g at.After-follow (few g at.After-as_slice) (first g at.After-count_before-before) begins

pub returns-clause-asked : goal.returns-clause-asked
returns-clause-asked g c =
    let at = goal.at.returns-clause-asked g c in
    let begins = begun g at.In_ok-replay (few g at.After-as_slice) (first g at.After-count_before-before) in
    asked g at.After-follow (few g at.After-as_slice) (first g at.After-count_before-before) begins

pub prepare-requires : goal.prepare-requires
prepare-requires g c =
    let at = goal.at.prepare-requires g c in
    let begins = begun g at.In_ok-replay (few g at.After-as_slice) (first g at.After-count_before-before) in
    let ended = end_of g at.In_ok-end c.requires.follows (few g at.After-as_slice) (first g at.After-count_before-before) begins (following g at.After-as_slice-3) in
    record { in_range = ended.checkpoint; same_length = ended.strings }

pub returns-in_err-prepared-clause-unchanged : goal.returns-in_err-prepared-clause-unchanged
returns-in_err-prepared-clause-unchanged g c =
    let at = goal.at.returns-in_err-prepared-clause-unchanged g c in
    on-err c.from_residual-in_err-prepared.result _ c.prepare.ensures.unchanged

pub commit-requires-clause-following : goal.commit-requires-clause-following
commit-requires-clause-following g c =
    let at = goal.at.commit-requires-clause-following g c in
    let begins = begun g at.In_ok-replay (few g at.After-as_slice) (first g at.After-count_before-before) in
    let ended = end_of g at.In_ok-end c.requires.follows (few g at.After-as_slice) (first g at.After-count_before-before) begins (following g at.After-as_slice-3) in
    let ready = ended.ready _ (record { tableau = refl; output = refl; observables = refl; strings = refl; window = refl; checkpoints = refl }) c.observables.result c.in_ok-prepared.prepared c.in_ok-prepared.ensures.prepared in
    ready.following c.prepare.new.self c.prepare.ensures.unchanged

pub returns-clause-qubits : goal.returns-clause-qubits
returns-clause-qubits g c =
    let at = goal.at.returns-clause-qubits g c in
    let begins = begun g at.In_ok-replay (few g at.After-as_slice) (first g at.After-count_before-before) in
    let ended = end_of g at.In_ok-end c.requires.follows (few g at.After-as_slice) (first g at.After-count_before-before) begins (following g at.After-as_slice-3) in
    let ready = ended.ready _ (record { tableau = refl; output = refl; observables = refl; strings = refl; window = refl; checkpoints = refl }) c.observables.result c.in_ok-prepared.prepared c.in_ok-prepared.ensures.prepared in
    (ready.preserved c.prepare.new.self c.prepare.ensures.unchanged (fitting g at.After-as_slice begins.distinct) c.commit.new.self c.commit.ensures.committed).qubits

pub returns-clause-followed : goal.returns-clause-followed
returns-clause-followed g c =
    let at = goal.at.returns-clause-followed g c in
    let begins = begun g at.In_ok-replay (few g at.After-as_slice) (first g at.After-count_before-before) in
    let ended = end_of g at.In_ok-end c.requires.follows (few g at.After-as_slice) (first g at.After-count_before-before) begins (following g at.After-as_slice-3) in
    let ready = ended.ready _ (record { tableau = refl; output = refl; observables = refl; strings = refl; window = refl; checkpoints = refl }) c.observables.result c.in_ok-prepared.prepared c.in_ok-prepared.ensures.prepared in
    let took = followed g at.In_ok-end begins.applied begins.by_frame in
    let soon =
    seen-soon (g.C.Coins.sequence c.args.coins.now) (planned c.steps.result c.args.stride c.args.span c.max.result c.args.self.now.window) c.follow.new.self.step begins.qubits begins.all
    c.as_slice-3.ensures.value refl c.in_ok-end.ensures.ended.soon in
    let costs = c.in_ok-end.ensures.costs in
    record {
      preserved =
          subst (λ count. IsRecording c.args.self.now.tableau.qubits (g.C.Coins.sequence c.args.coins.now) c.args.stride (unroll (circuit_items c.args.circuit.now)) count c.commit.new.self)
          c.observables.ensures.value
          (ready.preserved c.prepare.new.self c.prepare.ensures.unchanged (fitting g at.After-as_slice begins.distinct) c.commit.new.self c.commit.ensures.committed);
      distinct = begins.distinct;
      way = record {
        most = ended.applied _ took;
        few = λ xs count far preserved span agree.
            (end_of g at.In_ok-end (record { old = xs; count = count; preserved = preserved; span = span; differ = tt }) (few g at.After-as_slice) (first g at.After-count_before-before) begins (following g at.After-as_slice-3)).few _ took soon far agree;
        counted = λ xs count preserved span.
            (end_of g at.In_ok-end (record { old = xs; count = count; preserved = preserved; span = span; differ = tt }) (few g at.After-as_slice) (first g at.After-count_before-before) begins (following g at.After-as_slice-3)).counted _ took soon;
      };
      tried = omega (arith, c.requires.tried);
      asks = omega (arith, costs.asks, begins.applied);
      asks_random = omega (arith, costs.asks_random, ready.randomness c.prepare.new.self c.prepare.ensures.unchanged c.commit.new.self c.commit.ensures.committed);
    }
