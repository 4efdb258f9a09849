use Rattle.stab_sampler.proofs.Names.{◌≡◌, ◌+◌, ◌-◌, ◌*◌, ◌/◌, ◌<◌, ◌≤◌, arith, sym, ap, ◌∙◌, subst, length, refl, IfSome, div-mul-le_self, Frames, lane_letters, lane_pivots, IsLaneCheckpoint, lane_difference}
use Rattle.stab_sampler.proofs.CheckpointLemmas.{counted-again}
use Rattle.stab_sampler.proofs.AdvancedLemmas.{advanced-again}
use Rattle.stab_sampler.proofs.rounds.fold_rounds.Goals as goal
use Rattle.stab_frames.proofs.RandomLemmas.{pivot-none}

pub returns-clause-go_on : goal.returns-clause-go_on
returns-clause-go_on g c = λ coins steps is preserved advanced.
    let recorded_pivots = c.args.recorded_pivots in
    let later = subst (λ o. IfSome o (λ m. m.done < c.args.done)) c.in-Some.is c.requires.later in
    let checkpoint = subst (λ o. IfSome o (IsLaneCheckpoint g.W.Word.at g.W.Word.lanes recorded_pivots coins steps c.args.repeat)) c.in-Some.is preserved in
    let r = c.args.repeat in
    let early = c.in-Some.checkpoint.done in
    let done = c.args.done in
    let lengths = c.in-Some.checkpoint.lengths in
    let old = c.args.lanes.now in
    let new = c.repeat_flips.new.lanes in
    let left = r.rounds - done in
    let count = left / (done - early) in
    let within : done + count * (done - early) ≤ r.rounds = omega (arith, c.requires.within, div-mul-le_self left (done - early)) in
    let fixed = (c.if-not-are_deterministic.ensures {u = tt}).deterministic refl in
    let again = (c.if-not-comes_again.ensures {u = tt}).again refl in
    let flipped = c.in_ok-repeat_flips.ensures {u = tt} in
    let period = c.saturating_sub-coins.result in
    let few : period ≡ length old.free.items - lengths.free = omega (arith, c.saturating_sub-coins.ensures, c.len.ensures) in
    let all : c.in-Some-checked_mul.count ≡ period * (count + 1) = c.in-Some-checked_mul.ensures.1 in
    record {
      may = record {
        all = advanced.may.all;
        counted =
            flipped.number
            ∙ advanced.may.counted
            ∙ sym (counted-again recorded_pivots.free.now old.free.items new.free.items lengths.free count period few flipped.free
            (λ t lt. fixed t (omega (arith, lt, all))));
        frames = ap (λ (f : Frames g.row.W.Denot). length f.letters.items) flipped.frames ∙ advanced.may.frames;
      };
      follow = λ l lt.
          let at = g.W.Word.at in
          let pivots = lane_pivots recorded_pivots (coins l) in
          let now = lane_difference at l old in
          advanced-again recorded_pivots.strings.now.qubits pivots steps r is early done count later within (lane_letters at l c.in-Some.checkpoint.letters.items) lengths (checkpoint l lt) now
          (advanced.follow l lt) (again l lt).letters (again l lt).records period (lane_difference at l new) few
          (λ t le. pivot-none recorded_pivots.strings.now.strings recorded_pivots.free.now (lengths.free + t) (fixed t (omega (arith, le, all))))
          (λ i. record { letters = lane_letters at l (flipped.frames i).letters.items; flips = flipped.output l i });
    }
