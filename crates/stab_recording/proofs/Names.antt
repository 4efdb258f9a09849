-- What the proofs of this crate take from std, from crates below and from its definitions.
pub use Rattle.std.proofs.Common.{◌≡◌, ℕ, ◌+◌, ◌-◌, ◌≤◌, sym, ◌∙◌, ap, subst, Bool, List, ◌++◌, take, drop, arith, suc, ◌*◌, ◌<◌, refl, [], ◌∷◌, append_assoc, length, get_or, add-one, Option, zero, false, inl, inr, true, reverse, ◌^◌, map, Some, None, slice_get, All, ◌/◌, ◌⊎◌, IsSomeAnd, replicate, min, not, set, append-nil, ◌≢◌, ◌&&◌, ◌||◌, nat_lt, ◌↔◌, Vec, Global, vec_capacity, rules, IsTrue}
pub use Rattle.std.proofs.Math.Nat.{add-mul, mul-le-mul_right, div-mul-le_self}
pub use Rattle.std.proofs.Math.Seq.{take-add, drop-cons, take-suc, take-length, drop-append_seam, take-append-add, take-append_seam}
pub use Rattle.std.proofs.lemmas.Bool.{cases_lt, le-leb, lt-leb, or_cases, or_from}
pub use Rattle.std.proofs.lemmas.Bool.Decides.{leb_tells}
pub use Rattle.std.proofs.lemmas.Grind.{div_ceil_times}
pub use Rattle.std.proofs.lemmas.List.{take-append-drop, drop-drop, length-take-le, length-drop, take_at, drop_at, take-append-le, drop-append-le, take-take, reverse-append, length-append, length-take, drop-take, take_all, get_or-drop, get_or-take, get_or_append_left, get_or-append-add, map-append, length-replicate}
pub use Rattle.std.proofs.lemmas.List.Elements.{All-drop, All-head, All-tail, All-get_or, All-take, All-append, All-nil, All-cons, All-push}
pub use Rattle.std.proofs.lemmas.Option.{get_or_from_slice_get, slice_get_within, same_Some, IfSome_then, slice_get_past, none-some, slice_get-get_or, slice_get_read}
pub use Rattle.std.proofs.lemmas.Result.{IfOk-weaker}
pub use Rattle.std.proofs.lemmas.Slice.Eq.{slice_eq-Decides}
pub use Rattle.std.specs.Bool.{Decides}
pub use Rattle.std.specs.Cmp.{booleans_Decides}
pub use Rattle.std.specs.List.{list_any}
pub use Rattle.std.specs.Option.{option_map}
pub use Rattle.std.specs.Prelude.{IfSome, if◌then◌else◌, nat_le, Result, IfOk}
pub use Rattle.stab_items.specs.Cursors.{CursorState}
pub use Rattle.stab_items.specs.StepValues.{steps_shown}
pub use Rattle.stab_items.specs.Items.{Items}
pub use Rattle.stab_items.specs.Repeats.{round_of, IsRepeat, AreRepeats}
pub use Rattle.stab_items.specs.Steps.{Step, rounds, looks_too_far, one, two, controlled, collapse, product, detector, observable, most_steps, unroll, check_within, makes, lookbacks, records_of, observables_of, LooksWithin}
pub use Rattle.stab_items.specs.Views.{circuit_items}
pub use Rattle.stab_items.specs.declared.circuit.repeats.Repeat.{Repeat}
pub use Rattle.stab_frames.proofs.RepeatedStepLemmas.{come-conjugated, gone-over-seen, true-conjugated-at, true-conjugated}
pub use Rattle.stab_frames.proofs.FlipLemmas.{flipped-empty, length-flipped, flipped-differing}
pub use Rattle.stab_frames.proofs.PropagatedRepeatLemmas.{conjugated-next, conjugated-none, conjugated-all}
pub use Rattle.stab_frames.proofs.PropagatedPointLemmas.{conjugated-pauli}
pub use Rattle.stab_frames.proofs.TwoCircuitLemmas.{group-origin}
pub use Rattle.stab_frames.proofs.OtherCoinLemmas.{propagation-others}
pub use Rattle.stab_frames.proofs.OverLemmas.{enough-append}
pub use Rattle.stab_frames.proofs.PivotAtLemmas.{get-append, get-following, pivot-equal, pivot-past}
pub use Rattle.stab_frames.proofs.PropagatedLemmas.{over-append}
pub use Rattle.stab_frames.proofs.PropagationLemmas.{mixed-set}
pub use Rattle.stab_frames.proofs.StillLemmas.{still-base}
pub use Rattle.stab_frames.proofs.StillPropagationLemmas.{ones-within}
pub use Rattle.stab_frames.proofs.TrueLemmas.{true-front, true-rest, true-append, true-same, true-none}
pub use Rattle.stab_frames.specs.RepeatedStepLaws.{DiffersBack, ArePropagatedOver}
pub use Rattle.stab_frames.specs.Ends.{MayHaveCoin}
pub use Rattle.stab_frames.specs.Flips.{flipped_output, flipped, flipped_additions}
pub use Rattle.stab_frames.specs.FrameSteps.{frame_over, flips_over, frame_after}
pub use Rattle.stab_frames.specs.Frames.{Frame, PointsDifferBy}
pub use Rattle.stab_frames.specs.Limits.{most_strings}
pub use Rattle.stab_frames.specs.OtherCoins.{coins_from, pivots_between, PropagatesToOthers}
pub use Rattle.stab_frames.specs.Pivots.{AreTrue, PivotsState, pivot_at, stored_with, IsNumbered, IsTrueAt, KeepsTrue, front_stored, cut_to}
pub use Rattle.stab_frames.specs.PivotsOfSteps.{AreEnough}
pub use Rattle.stab_frames.specs.Propagations.{PropagationState, frame_at, PropagatesWith, IsGone, PropagatesOver, IsPlaced}
pub use Rattle.stab_frames.specs.RunPivots.{RunPivots, same_coins}
pub use Rattle.stab_recording.specs.Stops.{IsStop}
pub use Rattle.stab_recording.specs.declared.propagate.Stop.{Stop}
pub use Rattle.stab_recording.specs.declared.propagate.Stop.TheVariants.{Gone, NoString}
pub use Rattle.stab_gates.proofs.ParityLemmas.{parity-false}
pub use Rattle.stab_gates.specs.Letters.{◌⊕◌}
pub use Rattle.stab_gates.specs.declared.letter.Letter.{Letter}
pub use Rattle.stab_gates.specs.declared.letter.Letter.TheVariants.{I, X, Y, Z}
pub use Rattle.stab_pauli.proofs.SignedLemmas.{length-product}
pub use Rattle.stab_pauli.proofs.StringLemmas.{string_product-blank, string_product-self}
pub use Rattle.stab_pauli.specs.Paulis.{with_sign, strings_anticommute, string_product, Signed, single, minus, anticommute}
pub use Rattle.stab_run.proofs.CoinLemmas.{coins-append, coins-steps, coins-few, coins-are}
pub use Rattle.stab_run.proofs.FitLemmas.{check-fits, check-steps, check-whole, counted-steps}
pub use Rattle.stab_run.proofs.FixedLemmas.{fixed-future}
pub use Rattle.stab_run.proofs.FutureBackLemmas.{same-future-back, records-made}
pub use Rattle.stab_run.proofs.FutureLemmas.{same-future}
pub use Rattle.stab_run.proofs.LookbackLemmas.{looked_up-near, looked_up-far, looked_up-zeros}
pub use Rattle.stab_run.proofs.PointLemmas.{outcomes-counted, randomness-is-coins, records-are-records, rest-joined, front-output, HasAtMost, outputs-short, cut, rest-output, randomness-given, records-gathered}
pub use Rattle.stab_run.proofs.RecordLemmas.{ones-append}
pub use Rattle.stab_run.proofs.RoundLemmas.{rounds-append, rounds-rounds, rounds-within, length-rounds}
pub use Rattle.stab_run.proofs.RunLemmas.{after-append, outputs-append, fits-steps}
pub use Rattle.stab_run.proofs.SoundLemmas.{sound-run}
pub use Rattle.stab_run.proofs.StateLemmas.{run-state, run_of-same}
pub use Rattle.stab_run.specs.Cuts.{lengths_of, rest_of, front_of}
pub use Rattle.stab_run.specs.Ends.{AgreeBack, with_coin}
pub use Rattle.stab_run.specs.Laws.{AgreeAt, IsSoundRun, DependsOnCoinsAt}
pub use Rattle.stab_run.specs.Points.{origin, joined, all_coins_of, point_after, outputs, Point, RunOutput, with_additions, nothing, given, next_point, coins_of, state_at}
pub use Rattle.stab_run.specs.ProgramStates.{ProgramState, IsAt, IsRun, program_state, StepFits, output_of}
pub use Rattle.stab_run.specs.Records.{looked_up, ones}
pub use Rattle.stab_run.specs.Runs.{run, State, start}
unfoldable pub use Rattle.stab_run.specs.Runs.{run_of}
pub use Rattle.stab_run.specs.declared.records.Lengths.{Lengths}
pub use Rattle.stab_tableau.proofs.ReducedLemmas.{same-letters}
pub use Rattle.stab_tableau.proofs.TestLemmas.{and-left, and-right, not_both, not-true, same_test}
pub use Rattle.stab_tableau.specs.Columns.{chosen_product, CommutesWithAll, IsGenerated, stabiliser_of, destabiliser_of}
pub use Rattle.stab_tableau.specs.Conjugations.{IsConjugated}
pub use Rattle.stab_tableau.specs.Gates.{back}
pub use Rattle.stab_tableau.specs.Groups.{SameGroup, IsStabiliserGroup}
pub use Rattle.stab_tableau.specs.Rules.{is_random_by}
pub use Rattle.stab_tableau.specs.Tableaus.{TableauState, stabilises}
pub use Rattle.stab_tableau.specs.Traces.{member}
pub use Rattle.stab_recording.specs.Checkpoints.{IsCheckpoint, checkpoint_steps, IsRunFromStart}
pub use Rattle.stab_recording.specs.OldRuns.{IsOldRun, HaveSameFuture}
pub use Rattle.stab_recording.specs.FramesFrom.{flips_since, AreCompared, IsFrameFrom, flips_after}
pub use Rattle.stab_recording.specs.SavedCheckpoints.{saved, all_saved, moved, moved_checkpoint, moved_lengths}
pub use Rattle.stab_recording.specs.Meets.{Meets}
pub use Rattle.stab_recording.specs.Parts.{between}
pub use Rattle.stab_recording.specs.PivotLists.{KeepsPivotList, IsSpliced}
pub use Rattle.stab_recording.specs.Replays.{MeetsAt, Misses, EndsSoon, step_among_new, IsReplay, Ascending, IsEnd, IsAtStep, IsAtStop, IsOnWay, spacing_of, StopsAt, IsPlacedAt, checkpoint_of}
pub use Rattle.stab_recording.specs.RestFrames.{AreInOrder, ArePropagatedCheckpoints, IsRestFrame, Ending, AreEnoughBy, IsPropagatedAfter, Stabilise, FramesSome, IsLastDiffering}
pub use Rattle.stab_recording.specs.Samplers.{SamplerState}
pub use Rattle.stab_recording.specs.Spacing.{Near, last_of}
pub use Rattle.stab_recording.specs.declared.checkpoint.Checkpoint.{Checkpoint}
pub use Rattle.stab_recording.specs.declared.checkpoint.Meeting.{Meeting}
pub use Rattle.stab_recording.specs.declared.recurrence.Recurrence.{Recurrence}
pub use Rattle.stab_recording.specs.declared.loop_folding.Segment.{Segment}
pub use Rattle.stab_recording.specs.declared.replay.Arrival.{Arrival}
pub use Rattle.stab_recording.specs.declared.replay.Arrival.TheVariants.{Between, After, Met}
pub use Rattle.stab_recording.specs.declared.replay.End.TheVariants.{Last, Joined}
pub use Rattle.stab_recording.specs.declared.replay.Plan.{Plan}
pub use Rattle.stab_recording.specs.declared.replay.Replay.{Replay}
pub use Rattle.stab_recording.specs.declared.whole_run.Shot.{Shot}
pub use Rattle.stab_recording.specs.inner.Advanced.{after_rounds}
pub use Rattle.stab_recording.specs.inner.Arrivals.{IsArrival}
pub use Rattle.stab_recording.specs.inner.FoldedReplays.{IsRoundsAfter, IsAlike, MayRecur, IsFolding, IsSegment, HasRepeated, MayGoOver, HasPropagated, HasStringsAgain, with_folded, IsAsAt, DiffersFrom, IsOfOwn, StandsAs, AreRoundsFound, IsEndIn}
pub use Rattle.stab_recording.specs.inner.RestFrameStates.{last_state, with_state, with_cursor, IsBeside, HasOtherCoins}
pub use Rattle.stab_recording.specs.inner.Shots.{IsShotOf}
pub use Rattle.stab_recording.specs.inner.Runs.{plan_of_run, IsOwnRun}
pub use Rattle.stab_frames.specs.inner.Draws.{AsksRandom, outcome_of, differing}
pub use Rattle.stab_frames.specs.inner.Propagates.{GoesOver, IsMissing}
pub use Rattle.stab_frames.proofs.RandomLemmas.{ones-split, asks-later, asks-further, missing-later}
pub use Rattle.stab_frames.proofs.GoesOverLemmas.{goes-same}
pub use Rattle.stab_frames.proofs.StepsPropagatedLemmas.{left-over, left-none, drop-over, fits-over, coins-within, coins-less, goes-over, propagation-same, propagation-enough}
pub use Rattle.stab_frames.specs.inner.RecordedPivots.{PivotsSteps, AreOnQubits, RecordsNoLess}
pub use Rattle.stab_run.proofs.StepsLeftLemmas.{take-steps, drop-steps, take-none, drop-none, take-empty, drop-empty}
pub use Rattle.stab_frames.proofs.PivotsStepsLemmas.{pivots-all, pivots-steps}
