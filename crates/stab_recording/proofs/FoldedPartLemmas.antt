-- Parts repeated: what a replay repeats from one checkpoint to the next, up to a frame if there is one, is what its run gives there.
use Rattle.stab_recording.proofs.Names.{◌≡◌, ℕ, zero, suc, ◌+◌, ◌-◌, ◌≤◌, refl, sym, ◌∙◌, ap, subst, Bool, false, List, [], ◌∷◌, ◌++◌, length, take, drop, All, Option, None, Some, slice_get, arith, take-append-le, length-drop, take-take, take-append-drop, drop-take, All-take, All-drop, with_sign, strings_anticommute, member, SameGroup, TableauState, stabilises, IsConjugated, Letter, Step, looks_too_far, most_steps, Lengths, ones, Point, RunOutput, origin, joined, point_after, outputs, all_coins_of, StepFits, output_of, lengths_of, AgreeBack, with_coin, randomness-is-coins, coins-few, coins-are, ones-append, flipped_output, AreTrue, pivot_at, LooksWithin, PropagationState, frame_at, DiffersBack, ArePropagatedOver, coins_from, PropagatesToOthers, Checkpoint, IsCheckpoint, Replay, between, flips_since, KeepsPivotList, Segment, IsAsAt, DiffersFrom, IsAlike, HasRepeated, MayGoOver, HasPropagated, HasStringsAgain, with_folded, flipped-empty, true-front, true-rest}
use Rattle.std.proofs.Common.{IfSome}
use Rattle.std.proofs.Math.Seq.{drop-drop}
use Rattle.stab_recording.proofs.RepeatedRunLemmas.{first-steps, first-point, later-point, part-is, ones-part, same-given, agrees-again}
use Rattle.stab_recording.proofs.CutLemmas.{ones-take}
use Rattle.stab_recording.proofs.RunCheckpointLemmas.{lengths-within}
use Rattle.stab_recording.proofs.RecordedReplayLemmas.{near-enough, has_pivots-fixed}
use Rattle.stab_recording.proofs.SegmentLemmas.{conjugated-from}
use Rattle.stab_recording.proofs.ConjugatedLemmas.{all-coins, comes-over}
use Rattle.stab_recording.proofs.PropagatedPivotLemmas.{has_pivots-conjugated}
use Rattle.stab_recording.proofs.RunCheckpointLemmas.{checkpoint-before}

-- of bits with others after them

ones-drop : (k : ℕ) (bits : List Bool) → ones (drop k bits) ≤ ones bits
ones-drop k bits = omega (arith, ones-take k bits)

ones-following : (c d : ℕ) (bits more : List Bool) → c ≤ d → ones (drop d (bits ++ more)) ≤ ones (drop c bits) + ones more
ones-following zero d bits more le = omega (arith, ones-drop d (bits ++ more), ones-append bits more)
ones-following (suc c) zero bits more le = absurd (omega (arith, le))
ones-following (suc c) (suc d) [] more le = omega (arith, ones-drop (suc d) more)
ones-following (suc c) (suc d) (bit ∷ bits) more le = ones-following c d bits more (omega (arith, le))

-- a replay that gave all up to its step, and two checkpoints before it, from which the same steps come as from there

pub record IsPartAgain (n : ℕ) (coins : ℕ → Bool) (ys : List Step) (r : Replay) (c d : Checkpoint) : Type 0 where
  pub within : r.step ≤ length ys
  pub few : length ys ≤ most_steps
  pub fits : All (StepFits n) ys
  pub output : output_of r.outputs ≡ outputs n coins (take r.step ys) origin
  pub has_pivots : KeepsPivotList n coins (take r.step ys) r.pivots.strings r.outputs.free.items r.pivots.window
  pub checkpoint : IsCheckpoint n coins ys c
  pub later : IsCheckpoint n coins ys d
  pub order : c.step ≤ d.step
  pub before : d.step ≤ r.step
  pub same_steps : take (d.step - c.step) (drop c.step ys) ≡ take (d.step - c.step) (drop r.step ys)

-- it came to where its run gave this part, with this state, and is from the second checkpoint on as it was from the first

pub record Comes (n : ℕ) (coins : ℕ → Bool) (ys : List Step) (r s : Replay) (c d : Checkpoint) (state : TableauState) (frame : Option PropagationState) : Type 0 where
  pub rest : s ≡ with_folded r s
  pub step : s.step ≡ r.step + (d.step - c.step)
  pub counted : s.applied + s.by_frame ≡ (r.applied + r.by_frame) + (d.step - c.step)
  pub output : output_of s.outputs
      ≡ joined (output_of r.outputs) (outputs n coins (take (d.step - c.step) (drop c.step ys)) (point_after n coins (take r.step ys) origin))
  pub qubits : state.qubits ≡ n
  pub group : SameGroup n (stabilises state) (member (point_after n coins (take s.step ys) origin).trace)
  pub has_pivots : KeepsPivotList n coins (take r.step ys ++ take (d.step - c.step) (drop c.step ys)) s.pivots.strings s.outputs.free.items r.pivots.window
  pub alike : IsAlike n coins ys (with_folded r s) frame d
  pub saved : s.saved.items ≡ r.saved.items ++ record { step = s.step; lengths = lengths_of (output_of s.outputs); tableau = state } ∷ []

module _ (n : ℕ) (coins : ℕ → Bool) (ys : List Step) (r : Replay) (number : ℕ) (c d : Checkpoint) (k : IsPartAgain n coins ys r c d) where
  abbrev pub span : Segment
  span = record { number = number; steps = d.step - c.step; from = c.lengths; to = d.lengths }

  abbrev window : ℕ
  window = r.pivots.window

  abbrev part : List Step
  part = take (d.step - c.step) (drop c.step ys)

  abbrev then : Point
  then = point_after n coins (take c.step ys) origin

  abbrev now : Point
  now = point_after n coins (take r.step ys) origin

  coin_here : c.lengths.free ≡ then.coin
  coin_here = ap (λ (l : Lengths). l.free) k.checkpoint.lengths ∙ randomness-is-coins n coins (take c.step ys)

  coin_now : length r.outputs.free.items ≡ now.coin
  coin_now = ap (λ (o : RunOutput). length o.free) k.output ∙ randomness-is-coins n coins (take r.step ys)

  last : d.lengths.free ≡ c.lengths.free + all_coins_of part
  last =
      omega (
        arith,
        coin_here,
        ap (λ (l : Lengths). l.free) k.later.lengths ∙ randomness-is-coins n coins (take d.step ys),
        ap (λ (a : Point). a.coin) (first-point n coins ys c.step d.step r.step window k.order k.before k.same_steps),
        coins-are n coins part then,
      )

  shorter : (c.lengths.free ≤ length r.outputs.free.items) × (c.lengths.records ≤ length r.outputs.records.items)
  shorter =
      lengths-within n coins (take r.step ys) (output_of r.outputs) c (checkpoint-before n coins ys r.step c k.checkpoint (omega (arith, k.order, k.before)) k.within) k.output

  shorter_after : (d.lengths.free ≤ length r.outputs.free.items) × (d.lengths.records ≤ length r.outputs.records.items)
  shorter_after = lengths-within n coins (take r.step ys) (output_of r.outputs) d (checkpoint-before n coins ys r.step d k.later k.before k.within) k.output

  near_part : All (LooksWithin window) part
  near_part =
      subst (All (LooksWithin window))
      (ap (λ k. drop c.step (take k ys)) {x = d.step} {y = c.step + (d.step - c.step)} (omega (arith, k.order)) ∙ drop-take c.step (d.step - c.step) ys)
      (All-drop (LooksWithin window) c.step (take d.step ys)
      (subst (All (LooksWithin window)) (take-take d.step r.step ys k.before) (All-take (LooksWithin window) d.step (take r.step ys) k.has_pivots.near)))

  near : looks_too_far window part ≡ false
  near = near-enough window window part (omega arith) near_part

  fits : All (StepFits n) part
  fits = All-take (StepFits n) (d.step - c.step) (drop c.step ys) (All-drop (StepFits n) c.step ys k.fits)

  part_given : between c.lengths d.lengths (output_of r.outputs) ≡ outputs n coins part then
  part_given =
      (λ i. between (k.checkpoint.lengths i) (k.later.lengths i) (k.output i))
      ∙ part-is n coins ys c.step d.step r.step window k.order k.before k.same_steps

  first_end : point_after n coins (take d.step ys) origin ≡ point_after n coins part then
  first_end = first-point n coins ys c.step d.step r.step window k.order k.before k.same_steps

  -- it gave the same again

  module _ (s : Replay) (rest : s ≡ record r { outputs = s.outputs; step = s.step; by_frame = s.by_frame; saved = s.saved }) (exact : IsAsAt n coins ys r c) (gave : HasRepeated span r s d) where
    abbrev again : RunOutput
    again = between c.lengths d.lengths (output_of r.outputs)

    no_coin : ones again.free ≡ 0
    no_coin = omega (arith, exact.fixed, ones-part c.lengths.free d.lengths.free r.outputs.free.items)

    fixed : ones (outputs n coins part then).free ≡ 0
    fixed = ap (λ (o : RunOutput). ones o.free) (sym part_given) ∙ no_coin

    agree : AgreeBack n window (with_coin (point_after n coins (take s.step ys) origin).coin (point_after n coins (take d.step ys) origin)) (point_after n coins (take s.step ys) origin)
    agree =
        subst (λ k. AgreeBack n window (with_coin (point_after n coins (take k ys) origin).coin (point_after n coins (take d.step ys) origin)) (point_after n coins (take k ys) origin)) (sym gave.step)
        (agrees-again n coins ys c.step d.step r.step window k.order k.before k.same_steps near fixed exact.agree)

    randomness : s.outputs.free.items ≡ r.outputs.free.items ++ again.free
    randomness = ap (λ (o : RunOutput). o.free) gave.output

    pub repeated-comes : Comes n coins ys r s c d d.tableau None
    repeated-comes = record {
      rest =
          rest
          ∙ (λ i. record r {
            outputs = s.outputs;
            pivots = record r.pivots { strings = (sym rest i).pivots.strings };
            cursor = (sym rest i).cursor;
            step = s.step;
            applied = (sym rest i).applied;
            by_frame = s.by_frame;
            saved = s.saved;
          });
      step = gave.step;
      counted = let by_frame = gave.by_frame in omega (arith, by_frame, ap (λ (x : Replay). x.applied) rest);
      output =
          gave.output
          ∙ ap (joined (output_of r.outputs)) (part_given ∙ sym (same-given n coins ys c.step d.step r.step window k.order k.before k.same_steps near fixed exact.agree));
      qubits = k.later.qubits;
      group = λ q size. k.later.group q size ∙ agree.group q size;
      has_pivots =
          subst (λ x. x) (λ i. KeepsPivotList n coins (take r.step ys ++ part) (sym (ap (λ (x : Replay). x.pivots.strings) rest) i) (sym randomness i) window)
          (has_pivots-fixed n coins (take r.step ys) part r.pivots.strings r.outputs.free.items again.free window k.has_pivots (ap (λ (o : RunOutput). o.free) k.output) no_coin near_part);
      alike = record {
        fixed =
            omega (
              arith,
              exact.fixed,
              no_coin,
              ap (λ bits. ones (drop d.lengths.free bits)) randomness,
              ones-following c.lengths.free d.lengths.free r.outputs.free.items again.free (omega (arith, last)),
            );
        agree = agree;
      };
      saved = gave.saved;
    }

  -- it gave that flipped by a frame

  module _ (w : PropagationState) (stands : DiffersFrom n coins ys r w c) where
    part_left : part ≡ take (d.step - c.step) r.cursor.left
    part_left = k.same_steps ∙ ap (take (d.step - c.step)) (sym stands.left)

    pub go-over : slice_get r.saved.items (number + 1) ≡ Some d → MayGoOver n ys r w span
    go-over there = record {
      free = shorter.0;
      size = stands.size;
      strings = k.has_pivots.size;
      qubits = subst (λ o. IfSome o (λ (f : Checkpoint). f.tableau.qubits ≡ n)) (sym there) k.later.qubits;
      fits = subst (All (StepFits n)) (sym stands.left) (All-drop (StepFits n) r.step ys k.fits);
      few =
          omega (
            arith,
            shorter.0,
            stands.coin,
            coin_now,
            coins-are n coins (take r.step ys) origin,
            coins-few r.step ys,
            ap length stands.left,
            length-drop r.step ys,
            k.within,
            k.few,
          );
      coin = stands.coin;
      placed = stands.placed;
      left = stands.left;
      last = last ∙ (λ i. sym stands.coin i + all_coins_of (part_left i));
    }

    module _ (s : Replay) (v : PropagationState) (rest : s ≡ with_folded r s) (gave : HasPropagated coins span r s w v d) where
      abbrev strings : ℕ → Option (List Letter)
      strings = pivot_at r.pivots.strings.strings r.outputs.free.items

      abbrev others : ℕ → Bool
      others = coins_from (length r.outputs.free.items - c.lengths.free) coins

      walk_here : w.coin ≡ then.coin
      walk_here = stands.coin ∙ coin_here

      true_then : AreTrue n coins strings part then
      true_then =
          true-rest n coins strings (take c.step ys) part origin
          (subst (λ zs. AreTrue n coins strings zs origin) (first-steps n coins ys c.step d.step r.step window k.order k.before k.same_steps)
          (subst (λ zs. AreTrue n coins strings zs origin) (take-take d.step r.step ys k.before)
          (true-front n coins strings (take d.step (take r.step ys)) (drop d.step (take r.step ys)) origin
          (subst (λ zs. AreTrue n coins strings zs origin) (sym (take-append-drop d.step (take r.step ys))) k.has_pivots.are_true))))

      abbrev bits : List Bool
      bits = drop c.lengths.free (take d.lengths.free r.outputs.outcomes.items)

      from_now : (length r.outputs.free.items - c.lengths.free) + w.coin ≡ now.coin
      from_now = let short = shorter.0 in let walk_coin = stands.coin in omega (arith, walk_coin, coin_now, short)

      true_here : AreTrue n (coins_from 0 coins) strings part (with_coin w.coin then)
      true_here =
          subst (λ cs. AreTrue n cs strings part (with_coin w.coin then)) (sym (all-coins 0 coins refl))
          (subst (λ k. AreTrue n coins strings part (with_coin k then)) (sym walk_here) true_then)

      randomness_here : (outputs n coins part then).free ≡ take (all_coins_of part) (drop w.coin r.outputs.free.items)
      randomness_here =
          sym (ap (λ (o : RunOutput). o.free) part_given)
          ∙ ap (λ k. drop c.lengths.free (take k r.outputs.free.items)) last
          ∙ drop-take c.lengths.free (all_coins_of part) r.outputs.free.items
          ∙ ap (λ k. take (all_coins_of part) (drop k r.outputs.free.items)) (sym stands.coin)

      propagated : PropagatesToOthers n strings r.outputs.free.items bits others part w v
      propagated = subst (λ x. x) (λ i. PropagatesToOthers (stands.size i) strings r.outputs.free.items bits others (sym part_left i) w v) gave.propagated

      over : (outputs n coins part now ≡ flipped_output (outputs n coins part then) (flips_since w v))
          × DiffersBack n window (frame_at stands.base v) (point_after n coins part then) (point_after n coins part now)
          × ArePropagatedOver n coins part then now
          × (v.coin ≡ w.coin + all_coins_of part)
      over =
          comes-over n window stands.base 0 (length r.outputs.free.items - c.lengths.free) coins strings r.outputs.free.items bits part then now w v fits near (omega (arith, walk_here)) from_now stands.differs
          true_here randomness_here (sym (ap (λ (o : RunOutput). o.outcomes) part_given)) propagated

      later_end : point_after n coins (take s.step ys) origin ≡ point_after n coins part now
      later_end = ap (λ k. point_after n coins (take k ys) origin) gave.step ∙ later-point n coins ys c.step d.step r.step window k.order k.before k.same_steps

      differs : DiffersBack n window (frame_at stands.base v) (point_after n coins (take d.step ys) origin) (point_after n coins (take s.step ys) origin)
      differs = subst (λ x. x) (λ i. DiffersBack n window (frame_at stands.base v) (sym first_end i) (sym later_end i)) over.1

      group : IsConjugated n v.letters (member (point_after n coins (take d.step ys) origin).trace) (member (point_after n coins (take s.step ys) origin).trace)
      group =
          conjugated-from n v.letters (member (point_after n coins (take d.step ys) origin).trace) (member differs.seen.trace) (member (point_after n coins (take s.step ys) origin).trace)
          differs.agree.group differs.by_frame.group

      -- the strings

      number_here : w.number ≡ ones (take c.lengths.free r.outputs.free.items)
      number_here = stands.placed ∙ ap (λ k. ones (take k r.outputs.free.items)) stands.coin

      number_there : v.number ≡ ones (take d.lengths.free r.outputs.free.items)
      number_there = gave.placed ∙ ap (λ k. ones (take k r.outputs.free.items)) (over.3 ∙ ap (λ k. k + all_coins_of part) stands.coin ∙ sym last)

      preserved : ones (take d.lengths.free r.outputs.free.items) ≤ length r.pivots.strings.strings
      preserved =
          let all_retained = gave.preserved in
          omega (
            arith,
            all_retained,
            number_here,
            ones-take c.lengths.free (take d.lengths.free r.outputs.free.items),
            ap ones (take-take c.lengths.free d.lengths.free r.outputs.free.items (omega (arith, last))),
          )

      new_strings : HasStringsAgain (ones (take c.lengths.free r.outputs.free.items)) (ones (take d.lengths.free r.outputs.free.items)) r.pivots.strings s.pivots.strings
      new_strings = subst (λ x. x) (λ i. HasStringsAgain (number_here i) (number_there i) r.pivots.strings s.pivots.strings) gave.strings

      new_randomness : s.outputs.free.items ≡ r.outputs.free.items ++ drop c.lengths.free (take d.lengths.free r.outputs.free.items)
      new_randomness =
          ap (λ (o : RunOutput). o.free) gave.output
          ∙ ap (λ more. r.outputs.free.items ++ more) (flipped-empty (drop c.lengths.free (take d.lengths.free r.outputs.free.items)))

      walked_to : v.coin ≡ d.lengths.free
      walked_to = over.3 ∙ ap (λ k. k + all_coins_of part) stands.coin ∙ sym last

      placed : ones (take d.lengths.free r.outputs.free.items) ≡ ones (take v.coin s.outputs.free.items)
      placed =
          ap ones (sym (take-append-le d.lengths.free r.outputs.free.items (drop c.lengths.free (take d.lengths.free r.outputs.free.items)) shorter_after.0))
          ∙ (λ i. ones (take (sym walked_to i) (sym new_randomness i)))

      pub by_frame-comes : Comes n coins ys r s c d gave.state (Some v)
      by_frame-comes = record {
        rest = rest;
        step = gave.step;
        counted = gave.counted;
        output =
            gave.output
            ∙ (λ i. joined (output_of r.outputs) (flipped_output (part_given i) (flips_since w v)))
            ∙ ap (joined (output_of r.outputs)) (sym over.0);
        qubits = gave.qubits ∙ k.later.qubits;
        group = λ q size.
            gave.conjugated q (size ∙ sym k.later.qubits)
            ∙ k.later.group (with_sign (strings_anticommute v.letters q.letters) q) size
            ∙ sym (group q size);
        has_pivots =
            subst (λ bits. KeepsPivotList n coins (take r.step ys ++ part) s.pivots.strings bits window) (sym new_randomness)
            (has_pivots-conjugated n coins (take r.step ys) part r.pivots.strings s.pivots.strings r.outputs.free.items c.lengths.free d.lengths.free window then k.has_pivots
            (ap (λ (o : RunOutput). o.free) k.output) (sym coin_here) true_then over.2 last preserved near_part new_strings);
        alike = record {
          base = stands.base;
          differs = differs;
          size = gave.size ∙ stands.size;
          coin = walked_to;
          placed = number_there ∙ placed;
          left =
              gave.left
              ∙ ap (drop (d.step - c.step)) stands.left
              ∙ drop-drop (d.step - c.step) r.step ys
              ∙ ap (λ i. drop i ys) (sym gave.step);
        };
        saved = gave.saved;
      }
