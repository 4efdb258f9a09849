-- What the proofs of this crate take from std, from crates below and from its definitions.
pub use Rattle.std.proofs.Common.{◌≡◌, ℕ, zero, suc, ◌+◌, refl, sym, ◌∙◌, ap, subst, Bool, false, ◌||◌, List, [], ◌∷◌, ◌++◌, length, take, drop, All, replicate, nat_lt, arith, ◌<◌, map, ◌≤◌, ◌≢◌, true, get_or, set, ◌-◌, ◌&&◌, min, not, append_assoc, append-nil, ◌⊎◌, inl, inr, ◌*◌, ◌/◌, nat_le, add-zero, rules}
pub use Rattle.std.proofs.Math.Bool.{beq}
pub use Rattle.std.proofs.Math.Nat.{div-mul-le_self}
pub use Rattle.std.proofs.Math.Seq.{take-add, take-length, take-append_seam, take-append-add, drop-append_seam}
pub use Rattle.std.proofs.lemmas.Bool.{cases_lt, cases_order}
pub use Rattle.std.proofs.lemmas.Bool.Decides.{leb_tells}
pub use Rattle.std.proofs.lemmas.List.{length-replicate, length-set, get_or-set_other, length-append, length-map, map-append, take_all, get_or-replicate, set-get_or, map_more, get_or-map, length-take-le, take-append-drop, length-take, take-append-le, get_or_append_left, get_or-set_same, ext_get_or, get_or_default, take-map, take_more, length-drop, get_or-drop, get_or-take, drop-drop, take-take, drop-map}
pub use Rattle.std.proofs.lemmas.List.Elements.{All-take, All-nil, All-cons, All-head, All-tail, All-append, All-drop}
pub use Rattle.std.proofs.lemmas.Option.{IfSome_then, slice_get-get_or, slice_get_past}
pub use Rattle.std.proofs.lemmas.Result.{IfOk-weaker}
pub use Rattle.std.specs.List.{list_any}
pub use Rattle.std.specs.Prelude.{Option, IfSome, ◌==◌, if◌then◌else◌, Some, None, slice_get, is_some, max}
pub use Rattle.stab_items.specs.StepValues.{step_shown, lookbacks_of, steps_shown}
pub use Rattle.stab_items.specs.Steps.{Step, one, two, controlled, collapse, product, detector, observable, makes, records_of, lookbacks, looks_too_far, controlled_step, measured, controlled_gate, LooksWithin}
pub use Rattle.stab_gates.proofs.LetterLemmas.{letters_anticommute-I, letters_anticommute-comm, letter_product-I, each_letter}
pub use Rattle.stab_gates.proofs.ParityLemmas.{parity-false, parity-comm, parity-assoc, parity-mid, parity-twice, parity-self}
pub use Rattle.stab_gates.specs.Letters.{◌⊕◌, letters_anticommute, letter_product}
pub use Rattle.stab_gates.specs.XParts.{has_x}
pub use Rattle.stab_gates.specs.declared.gate.Gate.{Gate}
pub use Rattle.stab_gates.specs.declared.gate.PairGate.{PairGate}
pub use Rattle.stab_gates.specs.declared.gate.PairGate.TheVariants.{Cx, Cy, Cz, Swap}
pub use Rattle.stab_gates.specs.declared.letter.Letter.{Letter}
pub use Rattle.stab_gates.specs.declared.letter.Letter.TheVariants.{I, X, Y, Z}
pub use Rattle.stab_instructions.specs.Axes.{letter_of}
pub use Rattle.stab_instructions.specs.Products.{is_on, names_twice}
pub use Rattle.stab_instructions.specs.declared.axis.Axis.{Axis}
pub use Rattle.stab_instructions.specs.declared.control.ControlledPair.{ControlledPair}
pub use Rattle.stab_instructions.specs.declared.operation.Measurement.{Measurement}
pub use Rattle.stab_instructions.specs.declared.product.Factor.{Factor}
pub use Rattle.stab_instructions.specs.declared.range.MeasureTarget.{MeasureTarget}
pub use Rattle.stab_pauli.proofs.MaskLemmas.{clash}
pub use Rattle.stab_pauli.proofs.SignedLemmas.{signed_path, product-comm, product-minus_right, anticommute-comm}
pub use Rattle.stab_pauli.proofs.StringLemmas.{strings_anticommute-comm, strings_anticommute-blank_right, string_product-blank_right, string_product-comm, length-string_product, strings_anticommute-blank, strings_anticommute-product, strings_anticommute-product_right, get_or-string_product, string_product-assoc, string_product-self}
pub use Rattle.stab_pauli.specs.Masks.{chooses}
pub use Rattle.stab_pauli.specs.Paulis.{Signed, with_sign, strings_anticommute, single, string_product, minus, anticommute}
pub use Rattle.stab_items.proofs.LookLemmas.{within-more, one-more, near-gates, near-targets}
pub use Rattle.stab_run.proofs.CoinLemmas.{coins-append, coins-one, coins-are}
pub use Rattle.stab_run.proofs.FutureBackLemmas.{same-future-back}
pub use Rattle.stab_run.proofs.LookbackLemmas.{or-left, or-right, looked_up-near, looked_up-zeros, looked_up-far, looked_up-more}
pub use Rattle.stab_run.proofs.PointLemmas.{records-are-records}
pub use Rattle.stab_run.proofs.ProductLemmas.{length-string_of}
pub use Rattle.stab_run.proofs.RecordLemmas.{ones-append}
pub use Rattle.stab_run.proofs.RunLemmas.{joined-nothing, after-append, outputs-append, joined-assoc, IsRun-none, IsRun-append}
pub use Rattle.stab_run.proofs.SoundLemmas.{IsGood, good-next}
pub use Rattle.stab_run.proofs.StateLemmas.{run-state, both_false, both_true, random-outcome}
pub use Rattle.stab_run.proofs.TargetLemmas.{coins-measured, fits-target}
pub use Rattle.stab_run.specs.Cuts.{lengths_of}
pub use Rattle.stab_run.specs.Ends.{AgreeBack, with_coin}
pub use Rattle.stab_run.specs.Points.{Point, RunOutput, joined, given, trace_after, coins_of, all_coins_of, next_point, point_after, outputs, origin, nothing, with_additions}
pub use Rattle.stab_run.specs.ProgramStates.{StepFits, ProgramState, IsRun, IsRunWithPivot, IsAt, program_state, output_of}
pub use Rattle.stab_run.specs.Records.{looked_up, parity, ones}
pub use Rattle.stab_run.specs.Runs.{measured_by, gate_of, with_factors, string_of, when, added, applied_where, State, start, run, flip_of, outcome_at}
pub use Rattle.stab_run.specs.StepPivots.{HasPivot}
pub use Rattle.stab_run.specs.declared.records.Addition.{Addition}
pub use Rattle.stab_tableau.proofs.FrameLemmas.{differ}
pub use Rattle.stab_tableau.proofs.RandomLemmas.{anticommuting-member_of_random}
pub use Rattle.stab_tableau.proofs.GroupLemmas.{group-zeros, group-back, group-projected}
pub use Rattle.stab_tableau.proofs.MemberLemmas.{same-random}
pub use Rattle.stab_tableau.proofs.OneLetterLemmas.{one_letter-anticommute, length-one_letter}
pub use Rattle.stab_tableau.proofs.OtherLetterLemmas.{get_or-blank, string_product-set}
pub use Rattle.stab_tableau.proofs.SignFrameLemmas.{frame-stabilises}
pub use Rattle.stab_tableau.proofs.SymmetryLemmas.{IsSymmetry, IsSymmetry-image, IsSymmetry-pair, image-length, pair-length, back-image, pair-undone}
pub use Rattle.stab_tableau.proofs.TestLemmas.{not-true, not_both}
pub use Rattle.stab_tableau.proofs.TraceLemmas.{outcome-only}
pub use Rattle.stab_tableau.specs.Conjugations.{IsConjugated}
pub use Rattle.stab_tableau.specs.Gates.{inverse, image, image_pair, back, back_pair, letter_at, letter_image, pair_letters, put_letter}
pub use Rattle.stab_tableau.specs.Groups.{IsStabiliserGroup, SameGroup}
pub use Rattle.stab_tableau.specs.Pivots.{IsPivot}
pub use Rattle.stab_tableau.specs.Rules.{outcome_by, is_random_by, projected_by}
pub use Rattle.stab_tableau.specs.Tableaus.{TableauState, stabilises}
pub use Rattle.stab_tableau.specs.Traces.{member, Event, is_random, projected}
pub use Rattle.stab_tableau.specs.inner.ColumnLetters.{letter_anticommuting}
pub use Rattle.stab_tableau.specs.inner.Frames.{SameLetters, sign_frame}
pub use Rattle.stab_tableau.specs.inner.InverseRows.{InverseRows}
pub use Rattle.stab_frames.specs.RepeatedStepLaws.{DiffersBack, ArePropagatedOver, StepsComePropagated}
pub use Rattle.stab_frames.specs.Flips.{flipped_output, Matches, unflipped, flipped, flipped_additions}
pub use Rattle.stab_frames.specs.FrameSteps.{flip_by, letters_for, one_flipped, frame_over, flips_over, frame_after, letters_after, flips_given, flipped_by, letters_by, flips_outcome, letters_measured}
pub use Rattle.stab_frames.specs.PropagatedTableaus.{propagated_rows, propagated_tableau}
pub use Rattle.stab_frames.specs.Frames.{Frame, PointsDifferBy, identity_frame, plus, times_where, frame_of, frame_product}
pub use Rattle.stab_frames.specs.Images.{letter_where, controlled_letter}
pub use Rattle.stab_frames.specs.FirstSteps.{edit_frame, IsFlippedRun, AreFronts}
pub use Rattle.stab_frames.specs.Limits.{bytes_of, most_strings}
pub use Rattle.stab_frames.specs.OtherCoins.{coins_from, pivots_between, HasGoneOver, PropagatesToOthers}
pub use Rattle.stab_frames.specs.PivotLaws.{FramesHaveCoins, RightPivotsAreEnough, FlippedCoinsNeedNoPivots, PivotsAreEnoughBefore, MeasurementsHavePivots, RandomnessDeterminesPivots, RunsHavePivots}
pub use Rattle.stab_frames.specs.Pivots.{IsTrueAt, AreTrue, pivot_at, PivotsState, IsNumbered, stored_with, front_stored, KeepsTrue, cut_to}
pub use Rattle.stab_frames.specs.PivotsOfSteps.{AreEnough, AreFlippedPivots, IsRightAt, IsEnoughAt, AreRight}
pub use Rattle.stab_frames.specs.Propagations.{PropagationState, IsPlaced, frame_at, PropagatesWith, PropagatesOver, IsGone}
pub use Rattle.stab_frames.specs.RunLaws.{FrontsFlip, FrontsGoOn, FrontsTakePaulis, PauliFronts, PauliEditsFlip, CoinsFlip, CheckpointsTakeFrames}
pub use Rattle.stab_frames.specs.RunPivots.{RunPivots, coins_changed, same_coins, no_strings, pivots_of, IsPivotOf, IsEnough}
pub use Rattle.stab_frames.specs.Starts.{letters_on}
pub use Rattle.stab_frames.specs.StepLaws.{FramesEnd, StepsKeepFrames, RunsKeepFrames, AreStrings, FramesAdd}
pub use Rattle.stab_frames.specs.inner.Draws.{AsksRandom, IsDrawn, AreDrawn, outcome_of, differing, never}
pub use Rattle.stab_frames.specs.inner.Products.{AreMultiplied}
pub use Rattle.stab_frames.specs.inner.Propagates.{factors_anticommute, IsMissing, StepsWith, IsStepDetermined, AreDetermined, IsPropagated, GoesOver, GoesWithoutCoins, Goes, IsPropagatedWith, IsDeterminedBy, none_flipped}
pub use Rattle.stab_frames.specs.inner.RecordedPivots.{KeepsPivotsOf, KeepsPivots, PivotsSteps, IsAdded, AreOnQubits, RecordsNoLess, RecordsSteps}
pub use Rattle.stab_frames.specs.inner.Touches.{touches_target, acts, PairFits, touches_pair}
pub use Rattle.stab_frames.specs.inner.Weights.{string_weight, letter_weight}
