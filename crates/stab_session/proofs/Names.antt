-- What the proofs of this crate take from std, from crates below and from its definitions.
pub use Rattle.std.proofs.Common.{◌≡◌, ℕ, ◌+◌, ◌-◌, ◌≤◌, sym, ◌∙◌, ap, subst, Bool, List, ◌++◌, take, drop, arith, suc, ◌*◌, ◌<◌, refl, [], ◌∷◌, append_assoc, length, get_or, add-one, Option, zero, false, inl, inr, true, reverse, ◌^◌, map, Some, None, slice_get, All, ◌/◌, max, ◌⊎◌, replicate, min, not, set, append-nil, vec_capacity, ⊎_elim, ◌≢◌, rules, nat_lt, OnOk, IfErr}
pub use Rattle.std.proofs.Math.Bool.{beq}
pub use Rattle.std.proofs.Math.Nat.{le-div_iff_mul-le}
pub use Rattle.std.proofs.Math.Seq.{take-add, take-suc, take-append-add, drop-append-add}
pub use Rattle.std.proofs.lemmas.Bool.{cases_lt}
pub use Rattle.std.proofs.lemmas.Bool.Decides.{leb_tells}
pub use Rattle.std.proofs.lemmas.List.{take-append-drop, drop-drop, length-take-le, length-drop, take_at, drop_at, take-take, length-append, length-take, drop-take, take_all, take-map, get_or-drop, replicate-append-replicate, drop_all, map-append, length-replicate, drop-map, drop_more, length-map, length-reverse, reverse-reverse, drop-set-add, take-set-le, length-set, set-get_or, at_drop_more, at_drop_all}
pub use Rattle.std.proofs.lemmas.List.Elements.{All-drop, All-head, All-tail, All-weaker, All-get_or, All-take, All-append, All-nil, All-cons, All-map}
pub use Rattle.std.proofs.lemmas.Option.{get_or_from_slice_get, slice_get-map, slice_get_within, same_Some, IfSome_then, slice_get-get_or, slice_get_read}
pub use Rattle.std.specs.Prelude.{IfSome, if◌then◌else◌, nat_le, MatchOption, Result, IfOk, Ok, Err, OnErr}
pub use Rattle.stab_items.specs.Steps.{HasDistinctQubits, Step, looks_too_far, one, two, controlled, collapse, product, detector, observable, controlled_step, measured, unroll, check_within, observables_of, LooksWithin, past, qubits_of, named_qubits, named_observables, most_steps}
pub use Rattle.stab_items.specs.StepValues.{steps_shown, lookbacks_of}
pub use Rattle.stab_items.specs.Repeats.{AreRepeats}
pub use Rattle.stab_items.specs.Rounds.{interleaved, pieces, HaveRounds, AreGaps, item_steps, steps_between, ChangesEachRound}
pub use Rattle.stab_items.specs.Views.{circuit_items}
pub use Rattle.stab_items.specs.declared.edit.Span.{Span}
pub use Rattle.stab_frames.proofs.RepeatedStepLemmas.{looks-front, true-conjugated}
pub use Rattle.stab_frames.proofs.EditLemmas.{fronts-go-on, fronts-take-paulis, same-lengths, gates-fit}
pub use Rattle.stab_frames.proofs.FlipLemmas.{flipped-empty, flipped-joined, flipped-nothing, additions-empty, unflipped-output, unflipped-matches, looked_up-flipped}
pub use Rattle.stab_frames.proofs.PropagatedPointLemmas.{conjugated-blank, conjugated-stabiliser}
pub use Rattle.stab_frames.proofs.TwoCircuitLemmas.{group-origin, gates-give-nothing}
pub use Rattle.stab_frames.proofs.PivotLemmas.{enough-before, right-enough}
pub use Rattle.stab_frames.proofs.RunPivotLemmas.{run-pivots}
pub use Rattle.stab_frames.proofs.StartLemmas.{by_frame-same, by_frame-paulis, by_frame-exchanged}
pub use Rattle.stab_frames.proofs.StepLemmas.{over-by_frame, outputs-matches}
pub use Rattle.stab_frames.proofs.TrueLemmas.{true-front, true-rest, true-append}
pub use Rattle.stab_frames.specs.RepeatedStepLaws.{ArePropagatedOver}
pub use Rattle.stab_frames.specs.Ends.{MayHaveCoin}
pub use Rattle.stab_frames.specs.Flips.{flipped_output, flipped, flipped_additions, Matches, unflipped}
pub use Rattle.stab_frames.specs.FrameSteps.{frame_over, flips_over}
pub use Rattle.stab_frames.specs.Frames.{Frame, PointsDifferBy, frame_of, identity_frame}
pub use Rattle.stab_frames.specs.FirstSteps.{AreFronts}
pub use Rattle.stab_frames.specs.Limits.{most_strings}
pub use Rattle.stab_frames.specs.Pivots.{AreTrue, PivotsState, pivot_at, front_stored, cut_to}
pub use Rattle.stab_frames.specs.PivotsOfSteps.{AreEnough, AreRight}
pub use Rattle.stab_frames.specs.Propagations.{PropagationState, frame_at, IsGone, PropagatesOver, IsPlaced}
pub use Rattle.stab_frames.specs.RunPivots.{same_coins}
pub use Rattle.stab_frames.specs.Starts.{letters_on}
pub use Rattle.stab_gates.specs.Letters.{◌⊕◌, letter_product}
pub use Rattle.stab_gates.specs.declared.gate.Gate.{Gate}
pub use Rattle.stab_gates.specs.declared.letter.Letter.{Letter}
pub use Rattle.stab_gates.specs.declared.letter.Letter.TheVariants.{I}
pub use Rattle.stab_instructions.specs.declared.axis.Axis.{Axis}
pub use Rattle.stab_instructions.specs.declared.control.ControlledPair.{ControlledPair}
pub use Rattle.stab_instructions.specs.declared.operation.Measurement.{Measurement}
pub use Rattle.stab_instructions.specs.declared.range.MeasureTarget.{MeasureTarget}
pub use Rattle.stab_pauli.specs.Paulis.{with_sign, strings_anticommute, string_product, Signed, single}
pub use Rattle.stab_run.proofs.CoinLemmas.{coins-append, coins-steps, coins-are}
pub use Rattle.stab_run.proofs.FitLemmas.{check-fits, check-steps, check-whole, check-qubits}
pub use Rattle.stab_run.proofs.FixedLemmas.{fixed-future, fixed-front}
pub use Rattle.stab_run.proofs.FutureBackLemmas.{same-future-back}
pub use Rattle.stab_run.proofs.FutureLemmas.{same-future}
pub use Rattle.stab_run.proofs.PointLemmas.{randomness-is-coins, records-are-records, front-output, HasAtMost, outputs-short, cut, rest-output}
pub use Rattle.stab_run.proofs.RecordLemmas.{ones-append}
pub use Rattle.stab_run.proofs.RunLemmas.{after-append, outputs-append, joined-nothing, joined-assoc}
pub use Rattle.stab_run.proofs.StepsLeftLemmas.{take-empty, drop-empty, take-none, drop-none}
pub use Rattle.stab_run.specs.Cuts.{lengths_of, rest_of, front_of}
pub use Rattle.stab_run.specs.Ends.{AgreeBack, with_coin}
pub use Rattle.stab_run.specs.Laws.{AgreeAt, DependsOnCoinsAt, IsSoundRun}
pub use Rattle.stab_run.specs.Points.{origin, joined, all_coins_of, point_after, outputs, Point, RunOutput, with_additions, nothing, given, next_point, point_of, state_at}
pub use Rattle.stab_run.specs.ProgramStates.{program_state, StepFits, output_of}
pub use Rattle.stab_run.specs.Records.{looked_up, ones}
pub use Rattle.stab_run.specs.Runs.{gate_of, run, start, State}
pub use Rattle.stab_run.specs.declared.records.Addition.{Addition}
pub use Rattle.stab_run.specs.declared.records.Lengths.{Lengths}
pub use Rattle.stab_tableau.specs.Conjugations.{IsConjugated}
pub use Rattle.stab_tableau.specs.Groups.{SameGroup, IsStabiliserGroup}
pub use Rattle.stab_tableau.specs.Tableaus.{TableauState, stabilises}
pub use Rattle.stab_tableau.specs.Traces.{member}
pub use Rattle.stab_recording.specs.Checkpoints.{IsCheckpoint, checkpoint_steps, IsRunFromStart}
pub use Rattle.stab_session.specs.Counts.{last_until, MayBeMet, EndsAt, NoneBefore, IsCounted, AgreeAsFarAsLooked}
pub use Rattle.stab_recording.specs.OldRuns.{IsOldRun, HaveSameFuture}
pub use Rattle.stab_recording.specs.SavedCheckpoints.{saved, all_saved, moved, moved_checkpoint, moved_lengths}
pub use Rattle.stab_session.specs.LongerLists.{longer, AreBelow}
pub use Rattle.stab_recording.specs.Meets.{Meets}
pub use Rattle.stab_session.specs.PassedSites.{IsFrameBetween, IsBeforePiece, IsBeforeSites}
pub use Rattle.stab_session.specs.PauliSpans.{ArePaulis, DifferByPaulis, DifferAtSites}
pub use Rattle.stab_recording.specs.PivotLists.{KeepsPivotList, IsSpliced}
pub use Rattle.stab_run.specs.Spans.{IsSpan}
pub use Rattle.stab_session.specs.Recordings.{IsRecording, AgreeAfterSpan, AgreeBackAfterSpan, IsSameRecording, Follows}
pub use Rattle.stab_recording.specs.Replays.{MeetsAt, Misses, EndsSoon, step_among_new, IsReplay, Ascending, IsEnd}
pub use Rattle.stab_recording.specs.declared.propagate.Stop.TheVariants.{NoString}
pub use Rattle.stab_recording.specs.RestFrames.{AreInOrder, with_states, ArePropagatedCheckpoints, IsRestFrame, IsDropped, Ending, over, gone, dropped, AreEnoughBy, IsLastDiffering}
pub use Rattle.stab_recording.specs.Spacing.{Near, last_of, IsSpaced, Sparse}
pub use Rattle.stab_recording.specs.declared.checkpoint.Checkpoint.{Checkpoint}
pub use Rattle.stab_recording.specs.declared.checkpoint.Meeting.{Meeting}
pub use Rattle.stab_session.specs.declared.conjugating.Conjugating.{Conjugating}
pub use Rattle.stab_session.specs.declared.conjugating.PastSites.{PastSites}
pub use Rattle.stab_session.specs.declared.past_sites.PauliChange.{PauliChange}
pub use Rattle.stab_session.specs.declared.recording.Followed.{Followed}
pub use Rattle.stab_session.specs.declared.recording.Prepared.{Prepared}
pub use Rattle.stab_session.specs.declared.recording.Recording.{Recording}
pub use Rattle.stab_session.specs.declared.recording.Rest.{Rest}
pub use Rattle.stab_recording.specs.declared.replay.End.{End}
pub use Rattle.stab_recording.specs.declared.replay.End.TheVariants.{Last, Joined}
pub use Rattle.stab_recording.specs.declared.replay.Plan.{Plan}
pub use Rattle.stab_recording.specs.declared.replay.Replay.{Replay}
pub use Rattle.stab_session.specs.declared.rest.OldRest.{OldRest}
pub use Rattle.stab_session.specs.inner.PropagatedRecordings.{StaysNear, span_meeting, IsTakenOver, HasConjugated, checkpoints_conjugated, IsPastSites, IsConjugating, no_lengths}
pub use Rattle.stab_session.specs.inner.OldRests.{conjugated_end, checkpoints_moved, HasRoomFor}
pub use Rattle.stab_session.specs.inner.Prepared.{IsCheckpointCount, Begins, HasCheckpoint, IsRest, IsOldRest, IsPrepared, IsCommitted, checkpoints_after, IsTableauAfter, meeting_of, HasRoom}
pub use Rattle.std.proofs.lemmas.Result.{IfOk-weaker, on_ok_weaker}
pub use Rattle.stab_circuit.proofs.ClearLemmas.{steps-cleared, observables-cleared, delete-instead, deleted-ok, verdict-instead}
pub use Rattle.stab_circuit.proofs.EachRoundLemmas.{changes_each_round, same_lead}
pub use Rattle.stab_items.proofs.EditLemmas.{entries-listed, edits_leave, changed_split, rebuilds, steps-append, steps_split}
pub use Rattle.stab_items.proofs.EditingLemmas.{replaced}
pub use Rattle.stab_items.proofs.ItemAtLemmas.{found_taken, taken_named}
pub use Rattle.stab_items.proofs.UndoLemmas.{replace-retaken, insert-undone, insert-retaken, replace-undone, new_parts, front_size}
pub use Rattle.stab_items.specs.Editings.{IsSpanOf}
pub use Rattle.stab_items.specs.Edits.{edit_path, edited, verdict, put_item, first_changed, old_end, new_end, taken_at, taken, steps_before, after_taken, after_put, outermost, list_refusal, list_verdict, edited_in, inner, steps_in}
pub use Rattle.stab_items.specs.Items.{OneItem, listed, entries, depth, Items, repeat}
pub use Rattle.stab_circuit.specs.Laws.{SplitsLeaveTheSteps}
pub use Rattle.stab_items.specs.Splits.{AreAlike, split, split_refusal}
pub use Rattle.stab_items.specs.Nothings.{IsNothing}
pub use Rattle.stab_items.specs.Paths.{Path}
pub use Rattle.stab_items.specs.ItemsAt.{item_at}
unfoldable pub use Rattle.stab_items.specs.Steps.{check_of}
pub use Rattle.stab_items.specs.declared.edit.Edit.{Edit}
pub use Rattle.stab_items.specs.declared.edit.Edit.TheVariants.{Insert, Replace, Delete}
pub use Rattle.stab_io.specs.Refusals.{whole, IsCallFault}
pub use Rattle.stab_io.specs.declared.refusal.Fault.{Fault}
pub use Rattle.stab_io.specs.declared.refusal.Refusal.{Refusal}
pub use Rattle.stab_io.specs.declared.refusal.Refusal.TheVariants.{OutOfMemory, TooDeep, QubitOutOfRange, LookbackTooFar, TooManySteps}
pub use Rattle.stab_pauli.proofs.StringLemmas.{string_product-blank, string_product-blank_right, string_product-assoc, string_product-comm, length-string_product}
pub use Rattle.stab_run.proofs.SoundLemmas.{sound-run}
pub use Rattle.stab_run.proofs.StateLemmas.{run-state, run_of-same}
unfoldable pub use Rattle.stab_run.specs.Runs.{run_of}
pub use Rattle.stab_tableau.proofs.MemberLemmas.{same-random}
pub use Rattle.stab_tableau.proofs.OtherLetterLemmas.{string_product-set}
pub use Rattle.stab_tableau.proofs.ReducedLemmas.{same-rows}
pub use Rattle.stab_tableau.specs.Reduced.{AreReduced}
pub use Rattle.stab_session.specs.Bounds.{steps_of_item, steps_from_change, steps_after, unless_refused, most_refused_asks, steps_put, steps_near_change, most_tried, IsCountOf, AgreeAfter, AgreeBackAfter, most_checkpoints}
pub use Rattle.stab_session.specs.Headline.{IsRunOfItems}
pub use Rattle.stab_session.specs.SessionEdits.{IsEditedBy, IsSplit}
pub use Rattle.stab_session.specs.Sessions.{SessionState, IsSignIn}
pub use Rattle.stab_session.specs.declared.pending.Pending.{Pending}
pub use Rattle.stab_session.specs.declared.pending.Pending.TheVariants.{Inserted, Replaced, Deleted}
pub use Rattle.stab_session.specs.inner.SessionRecordings.{session_of, IsRecorded}
pub use Rattle.stab_session.specs.inner.PauliItems.{ArePauliItems, taken_items, AreAccepted}
pub use Rattle.stab_session.specs.inner.Pendings.{finished_items, IsBegun, pending_path, IsPendingOf, taken_back, IsSpanNow}
pub use Rattle.stab_items.specs.declared.circuit.repeats.Repeat.{Repeat}
