-- Propagated runs: a run that differs from another by Pauli gates is the other one, flipped and conjugated by a frame that was propagated over it.
use Rattle.stab_session.proofs.Names.{◌≡◌, ℕ, ◌-◌, arith, ◌+◌, ◌≤◌, sym, ◌∙◌, ap, subst, Bool, List, [], ◌++◌, All, length, take, drop, take-append-drop, All-drop, TableauState, Step, Lengths, Point, RunOutput, origin, joined, point_after, outputs, all_coins_of, lengths_of, front_of, rest_of, joined-assoc, cut, front-output, rest-output, flipped, flipped_additions, flipped_output, unflipped, PivotsState, AreTrue, pivot_at, LooksWithin, PropagationState, flipped-joined, unflipped-output, unflipped-matches, flipped-empty, Checkpoint, IsCheckpoint, KeepsPivotList, AreInOrder, IsRestFrame, IsFrameBetween, same-lengths}
use Rattle.stab_recording.proofs.FlippedLemmas.{flipped-zeros}
use Rattle.stab_session.proofs.RestFrameLemmas.{advanced-lengths, advanced-given, advanced-flips, advanced-unflagged}
use Rattle.stab_session.proofs.RestLemmas.{IsPropagatedRest, rest-after, later}
use Rattle.stab_session.proofs.PropagatedCheckpointLemmas.{lengths-joined, old_given, new_given}

-- two runs have the same steps after step i of the one and step k of the other, up to which a frame went between them from a step on
-- before which they are the same; it was propagated over these steps, past checkpoints of the first run
pub record IsPropagatedRun (n : ℕ) (coins : ℕ → Bool) (xs ys back : List Step) (i k : ℕ) (strings : PivotsState) (free : List Bool) (window : ℕ) (checkpoints : List Checkpoint)
    (conjugated : List TableauState) (o : RunOutput) (from : Lengths) (old new : PropagationState) : Type 0 where
  pub old_after : drop i xs ≡ back
  pub new_after : drop k ys ≡ back
  pub first : ℕ
  pub begins : first ≤ i
  pub from_is : from ≡ lengths_of (outputs n coins (take first xs) origin)
  pub between : IsFrameBetween n coins xs ys (pivot_at strings.strings free) free (length (point_after n coins (take first xs) origin).records)
      (unflipped (outputs n coins (take first xs) origin)) i k old
  pub are_true : AreTrue n coins (pivot_at strings.strings free) ys origin
  pub near : All (LooksWithin window) ys
  pub output : o ≡ outputs n coins xs origin
  pub randomness : free ≡ o.free
  pub has_pivots : KeepsPivotList n coins xs strings free window
  pub are_checkpoints : All (IsCheckpoint n coins xs) checkpoints
  pub order : AreInOrder i (length xs) checkpoints
  pub advanced : IsRestFrame n strings.strings free window back i checkpoints conjugated old new

module _ (n : ℕ) (coins : ℕ → Bool) (xs ys back : List Step) (i k : ℕ) (strings : PivotsState) (free : List Bool) (window : ℕ) (checkpoints : List Checkpoint) (conjugated : List TableauState)
    (o : RunOutput) (from : Lengths) (old new : PropagationState) (r : IsPropagatedRun n coins xs ys back i k strings free window checkpoints conjugated o from old new) where
  abbrev old_point : Point
  old_point = point_after n coins (take i xs) origin

  abbrev new_point : Point
  new_point = point_after n coins (take k ys) origin

  abbrev base : ℕ
  base = length (point_after n coins (take r.first xs) origin).records

  -- it differs there by that frame
  abbrev pub rest : IsPropagatedRest n coins xs ys back i k strings free base window checkpoints conjugated old new
  rest = record {
    old_after = r.old_after;
    new_after = r.new_after;
    old_within = r.between.old_within;
    new_within = r.between.new_within;
    fits = r.between.old_fit;
    near = subst (All (LooksWithin window)) r.new_after (All-drop (LooksWithin window) k ys r.near);
    by_frame = r.between.fronts.by_frame;
    coin = r.between.coin;
    are_true = subst (λ zs. AreTrue n coins (pivot_at strings.strings free) zs old_point) r.new_after r.between.are_true;
    randomness = subst (λ zs. (outputs n coins zs old_point).free ≡ drop old.coin free) r.new_after r.between.randomness;
    are_checkpoints = r.are_checkpoints;
    order = r.order;
    advanced = r.advanced;
  }

  -- the lists of both are as long as each other where a checkpoint is after the site
  pub run-lengths : (c : Checkpoint) → i ≤ c.step → IsCheckpoint n coins xs c → c.lengths ≡ lengths_of (outputs n coins (take (k + (c.step - i)) ys) origin)
  run-lengths c following is =
      is.lengths
      ∙ ap (λ m. lengths_of (outputs n coins (take m xs) origin)) {y = i + (c.step - i)} (omega (arith, following))
      ∙ ap lengths_of (old_given rest (c.step - i))
      ∙ lengths-joined (outputs n coins (take i xs) origin) (outputs n coins (take k ys) origin) (outputs n coins (take (c.step - i) back) old_point)
      (outputs n coins (take (c.step - i) back) new_point)
      (sym (ap lengths_of r.between.fronts.given
      ∙ same-lengths (outputs n coins (take i xs) origin) (joined (unflipped (outputs n coins (take r.first xs) origin)) old.flips)))
      (sym (advanced-lengths (rest-after rest) (c.step - i)))
      ∙ sym (ap lengths_of (new_given rest (c.step - i)))

  -- what the new run gives

  abbrev front : RunOutput
  front = outputs n coins (take r.first xs) origin

  abbrev since : RunOutput
  since = outputs n coins (drop r.first xs) (point_after n coins (take r.first xs) origin)

  abbrev flips : RunOutput
  flips = later rest

  -- flipped as a whole
  all_flipped : outputs n coins ys origin ≡ flipped_output (outputs n coins xs origin) (joined (unflipped front) new.flips)
  all_flipped =
      cut n coins ys k
      ∙ (λ j. joined (r.between.fronts.given j) ((ap (λ zs. outputs n coins zs new_point) r.new_after ∙ advanced-given (rest-after rest)) j))
      ∙ sym (flipped-joined (outputs n coins (take i xs) origin) (outputs n coins back old_point) (joined (unflipped front) old.flips) (later rest) r.between.fronts.matches)
      ∙ (λ j. flipped_output (joined (outputs n coins (take i xs) origin) (outputs n coins (sym r.old_after j) old_point)) (joined-assoc (unflipped front) old.flips (later rest) j))
      ∙ (λ j. flipped_output (sym (cut n coins xs i) j) (joined (unflipped front) (advanced-flips (rest-after rest) j)))

  -- and from where the frame began
  pub run-output : outputs n coins ys origin ≡ joined (front_of from o) (flipped_output (rest_of from o) new.flips)
  run-output =
      all_flipped
      ∙ ap (λ q. flipped_output q (joined (unflipped front) new.flips)) (cut n coins xs r.first)
      ∙ flipped-joined front since (unflipped front) new.flips (unflipped-matches front)
      ∙ (λ j. joined ((unflipped-output front ∙ sym front_is) j) (flipped_output (sym rest_is j) new.flips))
    where
      front_is : front_of from o ≡ front
      front_is = (λ j. front_of (r.from_is j) (r.output j)) ∙ front-output n coins xs r.first

      rest_is : rest_of from o ≡ since
      rest_is = (λ j. rest_of (r.from_is j) (r.output j)) ∙ rest-output n coins xs r.first

  -- its randomness is that of the old one, and so its strings are those

  abbrev flagged : ℕ
  flagged = r.between.flagged + all_coins_of (take r.advanced.steps back)

  randomness_preserved : (bits : List Bool) → flipped bits new.flips.free ≡ flipped bits []
  randomness_preserved bits = ap (flipped bits) (advanced-unflagged (rest-after rest) r.between.flagged r.between.unflagged) ∙ flipped-zeros bits flagged ∙ sym (flipped-empty bits)

  pub run-unflagged : (q : RunOutput) → flipped_output q new.flips ≡ flipped_output q (record new.flips { free = [] })
  run-unflagged q = λ j. record {
    records = flipped q.records new.flips.records;
    free = randomness_preserved q.free j;
    outcomes = flipped q.outcomes new.flips.outcomes;
    detectors = flipped q.detectors new.flips.detectors;
    additions = flipped_additions q.additions new.flips.additions;
  }

  pub run-randomness : (joined (front_of from o) (flipped_output (rest_of from o) new.flips)).free ≡ free
  run-randomness =
      ap (λ bits. take from.free o.free ++ bits)
      (randomness_preserved (drop from.free o.free) ∙ flipped-empty (drop from.free o.free))
      ∙ take-append-drop from.free o.free
      ∙ sym r.randomness

  pub run-has_pivots : KeepsPivotList n coins ys strings (joined (front_of from o) (flipped_output (rest_of from o) new.flips)).free window
  run-has_pivots =
      subst (λ bits. KeepsPivotList n coins ys strings bits window) (sym run-randomness)
      (record { size = r.has_pivots.size; numbered = r.has_pivots.numbered; are_true = r.are_true; near = r.near })
