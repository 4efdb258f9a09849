use Rattle.stab_recording.proofs.Names.{◌≡◌, ℕ, ◌+◌, ◌-◌, ◌≤◌, [], ◌∷◌, ◌++◌, refl, sym, ◌∙◌, ap, subst, All, IsSomeAnd, length, take, drop, arith, slice_get_read, ones, RunOutput, joined, all_coins_of, StepFits, output_of, ones-append, flipped_output, pivot_at, IsPlaced, coins_from, PropagatesToOthers, ones-within, flipped-empty, Checkpoint, stabilises, IsConjugated, coins-few, Replay, flips_after, HasPropagated, HasStringsAgain}
use Rattle.std.proofs.Common.{IfSome}
use Rattle.stab_recording.specs.inner.Progress.{IsFurther}
use Rattle.stab_recording.proofs.ProgressLemmas.{further-none, costs-none}
use Rattle.stab_recording.proofs.ReplayLemmas.{coins-cut}
use Rattle.stab_recording.proofs.FoldedReplayLemmas.{preserved-before, ones-given}
use Rattle.stab_recording.proofs.replay.Replay.frame_once.Given.{Over}
use Rattle.stab_recording.proofs.replay.Replay.frame_once.Goals as goal
use Rattle.stab_recording.proofs.replay.Replay.frame_once.Goals.{In-Some}

preserved : (g : Over) (c : In-Some g)
    → c.args.propagation.number + ones (drop c.args.segment.from.free (take c.args.segment.to.free c.args.self.now.outputs.free.items)) ≤ length c.args.self.now.pivots.strings.strings
preserved g c = let le = c.in-Some.ensures.preserved in omega (arith, le, c.number-before.ensures.value, c.in-Some.ensures.count)

-- the coins that it asks for, by the randomness that it takes
coins : (g : Over) (c : In-Some g)
    → ones (take (all_coins_of (take c.args.segment.steps c.args.self.now.cursor.left)) (drop c.args.propagation.coin c.args.self.now.outputs.free.items)) ≡ c.in-Some.asked
coins g c =
    let free = c.args.self.now.outputs.free.items in
    let to = c.args.segment.to.free in
    omega (
      arith,
      c.in-Some.ensures.count,
      ones-given c.args.propagation.coin (all_coins_of (take c.args.segment.steps c.args.self.now.cursor.left)) to free c.requires.may.last,
      ap (λ i. ones (drop i (take to free))) c.requires.may.coin,
    )

few : (g : Over) (c : In-Some g) → c.in-Some.asked ≤ c.args.segment.steps
few g c =
    let count = all_coins_of (take c.args.segment.steps c.args.self.now.cursor.left) in
    omega (
      arith,
      coins g c,
      ones-within count (drop c.args.propagation.coin c.args.self.now.outputs.free.items),
      coins-few c.args.segment.steps c.args.self.now.cursor.left,
    )

pub overflow_sub-self : goal.overflow_sub-self
overflow_sub-self g c = few g ((goal.at.overflow_sub-self g c).In-Some)

pub overflow_add-self-2 : goal.overflow_add-self-2
overflow_add-self-2 g c = let le = few g ((goal.at.overflow_add-self-2 g c).In-Some) in omega (arith, le, c.requires.few_counted, c.requires.within)

pub overflow_sub-ahead : goal.overflow_sub-ahead
overflow_sub-ahead g c = let k = c.requires.may in omega (arith, k.free, c.len.ensures)

pub propagated_checkpoint-requires : goal.propagated_checkpoint-requires
propagated_checkpoint-requires g c = record {
  same_length =
      ap length c.letters.ensures.value
      ∙ c.propagate_with_coins.ensures.length
      ∙ c.requires.may.size
      ∙ sym (subst (λ o. IfSome o (λ (d : Checkpoint). d.tableau.qubits ≡ c.args.self.now.tableau.qubits)) (slice_get_read c.args.self.now.saved.items (length c.args.self.now.saved.items) (c.args.segment.number + 1) c.index.result.now refl c.requires.in_range c.index.ensures) c.requires.may.qubits);
}

pub propagate_with_coins-requires-clause-fits : goal.propagate_with_coins-requires-clause-fits
propagate_with_coins-requires-clause-fits g c =
    let k = c.requires.may in
    subst (λ m. All (StepFits m) c.args.self.now.cursor.left) (sym k.size) k.fits

pub propagate_with_coins-requires-clause-few : goal.propagate_with_coins-requires-clause-few
propagate_with_coins-requires-clause-few g c = let k = c.requires.may in omega (arith, k.few, c.len.ensures)

pub propagate_with_coins-requires-clause-preserved : goal.propagate_with_coins-requires-clause-preserved
propagate_with_coins-requires-clause-preserved g c =
    let at = (goal.at.propagate_with_coins-requires-clause-preserved g c).In-Some in
    let k = c.requires.may in
    let free = c.args.self.now.outputs.free.items in
    subst (λ bits. ones (take (c.args.propagation.coin + all_coins_of (take c.args.segment.steps c.args.self.now.cursor.left)) bits) ≤ length c.args.self.now.pivots.strings.strings)
    (sym c.as_slice.ensures.value)
    (preserved-before c.args.propagation.number c.args.propagation.coin (all_coins_of (take c.args.segment.steps c.args.self.now.cursor.left)) c.args.segment.to.free
    (length c.args.self.now.pivots.strings.strings) free k.placed c.requires.may.last
    (subst (λ i. c.args.propagation.number + ones (drop i (take c.args.segment.to.free free)) ≤ length c.args.self.now.pivots.strings.strings) (sym k.coin) (preserved g at)))

-- it went further by the steps of the segment, and asked for no more coins than they use up
gone : (g : Over) (c : In-Some g) (before after : ℕ) (new : Replay) → after ≤ before + all_coins_of (take c.args.segment.steps c.args.self.now.cursor.left)
    → new.cursor.all ≡ c.args.self.now.cursor.all → new.tableau ≡ c.args.self.now.tableau → new.step ≡ c.args.self.now.step + c.args.segment.steps
    → new.pivots.window ≡ c.args.self.now.pivots.window → c.args.self.now.pivots.strings.most ≤ new.pivots.strings.most → IsFurther before after c.args.self.now new
gone g c before after new le all tableau step window most =
    let old = c.args.self.now in
    let cut = coins-cut old.step (old.step + c.args.segment.steps) old.cursor.all old.cursor.left (omega arith) c.requires.may.left in
    record {
      all = all;
      qubits = λ i. (tableau i).qubits;
      step = omega (arith, step);
      window = omega (arith, window);
      most = most;
      asked =
          omega (
            arith,
            le,
            cut,
            ap (λ k. all_coins_of (take k old.cursor.left)) {x = (old.step + c.args.segment.steps) - old.step} {y = c.args.segment.steps} (omega arith),
            ap (λ k. all_coins_of (drop k old.cursor.all)) step,
          );
    }

pub returns-in_default-clause-further : goal.returns-in_default-clause-further
returns-in_default-clause-further g c = further-none _ _

pub returns-in_default-clause-costs : goal.returns-in_default-clause-costs
returns-in_default-clause-costs g c = costs-none _ _

pub returns-in_err-propagate_with_coins-clause-further : goal.returns-in_err-propagate_with_coins-clause-further
returns-in_err-propagate_with_coins-clause-further g c =
    gone g ((goal.at.returns-in_err-propagate_with_coins-clause-further g c).In-Some) _ _ _ c.propagate_with_coins.ensures.asks c.propagate_with_coins.ensures.all refl refl refl (omega arith)

pub returns-in_err-tableau-clause-further : goal.returns-in_err-tableau-clause-further
returns-in_err-tableau-clause-further g c =
    gone g ((goal.at.returns-in_err-tableau-clause-further g c).In-Some) _ _ _ c.propagate_with_coins.ensures.asks c.propagate_with_coins.ensures.all refl refl refl (omega arith)

pub returns-in_err-part-clause-further : goal.returns-in_err-part-clause-further
returns-in_err-part-clause-further g c =
    gone g ((goal.at.returns-in_err-part-clause-further g c).In-Some) _ _ _ c.propagate_with_coins.ensures.asks c.propagate_with_coins.ensures.all refl refl refl (omega arith)

pub returns-in_err-append_propagated-clause-further : goal.returns-in_err-append_propagated-clause-further
returns-in_err-append_propagated-clause-further g c =
    gone g ((goal.at.returns-in_err-append_propagated-clause-further g c).In-Some) _ _ _ c.propagate_with_coins.ensures.asks c.propagate_with_coins.ensures.all refl refl refl (omega arith)

pub returns-in_err-repeat_pivots-clause-further : goal.returns-in_err-repeat_pivots-clause-further
returns-in_err-repeat_pivots-clause-further g c =
    gone g ((goal.at.returns-in_err-repeat_pivots-clause-further g c).In-Some) _ _ _ c.propagate_with_coins.ensures.asks c.propagate_with_coins.ensures.all refl refl refl c.repeat_pivots.ensures.most

pub returns-in_err-push-clause-further : goal.returns-in_err-push-clause-further
returns-in_err-push-clause-further g c =
    gone g ((goal.at.returns-in_err-push-clause-further g c).In-Some) _ _ _ c.propagate_with_coins.ensures.asks c.propagate_with_coins.ensures.all refl refl refl c.repeat_pivots.ensures.most

pub returns-clause-further : goal.returns-clause-further
returns-clause-further g c =
    gone g ((goal.at.returns-clause-further g c).In-Some) _ _ _ c.propagate_with_coins.ensures.asks c.propagate_with_coins.ensures.all refl refl refl c.repeat_pivots.ensures.most

pub returns-clause-costs : goal.returns-clause-costs
returns-clause-costs g c =
    let at = (goal.at.returns-clause-costs g c).In-Some in
    let free = c.args.self.now.outputs.free.items in
    let from = c.args.segment.from.free in
    let to = c.args.segment.to.free in
    let count = all_coins_of (take c.args.segment.steps c.args.self.now.cursor.left) in
    let asked = (c.in_ok-propagate_with_coins.ensures {u = tt}).asks_random in
    let randomness = ap (λ bits. ones (take count (drop c.args.propagation.coin bits))) c.as_slice.ensures.value in
    let given = ap (λ (o : RunOutput). ones o.free) ((c.in_ok-append_propagated.ensures {u = tt}).value ∙ ap (λ o. joined (output_of c.args.self.now.outputs) (flipped_output o (flips_after c.lengths_propagated-gone.result c.propagate_with_coins.new.propagation))) (c.in_ok-part.ensures {u = tt}).value) in
    record {
      counted = omega (arith, few g at);
      asks = omega (arith, asked, randomness, coins g at);
      asks_random =
          omega (
            arith,
            asked,
            given,
            randomness,
            ones-given c.args.propagation.coin count to free c.requires.may.last,
            ap (λ i. ones (drop i (take to free))) c.requires.may.coin,
            ap ones (flipped-empty (drop from (take to free))),
            ones-append free (drop from (take to free)),
            ap (λ bits. ones (free ++ bits)) (flipped-empty (drop from (take to free))),
          );
    }

pub returns-clause-by_frame : goal.returns-clause-by_frame
returns-clause-by_frame g c =
    let at = (goal.at.returns-clause-by_frame g c).In-Some in
    let propagated = c.in_ok-propagate_with_coins.ensures {u = tt} in
    let s = c.args.segment in
    let old = c.args.self.now in
    let w = c.args.propagation in
    let v = c.propagate_with_coins.new.propagation in
    let checkpoint = c.index.result.now in
    let coins = g.C.Coins.sequence c.args.coins.now in
    let new : Replay = record old {
      outputs = c.append_propagated.new.outputs;
      pivots = record old.pivots { strings = c.repeat_pivots.new.strings };
      cursor = c.propagate_with_coins.new.cursor;
      step = old.step + s.steps;
      applied = old.applied + c.in-Some.asked;
      by_frame = old.by_frame + (s.steps - c.in-Some.asked);
      saved = c.push.new.self;
    } in
    subst (λ o. IsSomeAnd o (HasPropagated coins s old new w v)) (sym (slice_get_read old.saved.items (length old.saved.items) (s.number + 1) checkpoint refl c.requires.in_range c.index.ensures))
    (record {
      step = refl;
      counted = omega (arith, few g at);
      size = c.propagate_with_coins.ensures.length;
      placed = subst (λ bits. IsPlaced bits v) c.as_slice.ensures.value propagated.placed;
      propagated =
          subst (λ x. x)
          (λ i. PropagatesToOthers (length w.letters) (pivot_at old.pivots.strings.strings (c.as_slice.ensures.value i)) (c.as_slice.ensures.value i)
          ((c.between.ensures.value ∙ ap (λ bits. drop s.from.free (take s.to.free bits)) c.as_slice-outcomes.ensures.value) i)
          (coins_from (ahead i) coins) (take s.steps old.cursor.left) w v)
          propagated.propagated;
      left = propagated.left;
      output =
          (c.in_ok-append_propagated.ensures {u = tt}).value
          ∙ (λ i. joined (output_of old.outputs) (flipped_output ((c.in_ok-part.ensures {u = tt}).value i) (record {
            records = drop (c.lengths_propagated-gone.ensures.records i) v.flips.records;
            free = [];
            outcomes = drop (c.lengths_propagated-gone.ensures.free i) v.flips.outcomes;
            detectors = drop (c.lengths_propagated-gone.ensures.detectors i) v.flips.detectors;
            additions = drop (c.lengths_propagated-gone.ensures.additions i) v.flips.additions;
          })));
      preserved = preserved g at;
      strings =
          subst (λ x. x) (λ i. HasStringsAgain (c.number-before.ensures.value i) (c.number-after.ensures.value i) old.pivots.strings c.repeat_pivots.new.strings)
          (c.in_ok-repeat_pivots.ensures {u = tt}).value;
      state = c.in_ok-tableau.tableau;
      qubits = (c.in_ok-tableau.ensures {u = tt}).qubits;
      conjugated =
          subst (λ l. IsConjugated checkpoint.tableau.qubits l (stabilises checkpoint.tableau) (stabilises c.in_ok-tableau.tableau)) c.letters.ensures.value (c.in_ok-tableau.ensures {u = tt}).conjugated;
      saved =
          (c.in_ok-push.ensures {u = tt}).items
          ∙ (λ i. old.saved.items ++ record { step = new.step; lengths = c.lengths.ensures.value i; tableau = c.in_ok-tableau.tableau } ∷ []);
    })
  where
    ahead : c.len.result - c.args.segment.from.free ≡ length c.args.self.now.outputs.free.items - c.args.segment.from.free
    ahead = omega (arith, c.len.ensures)
