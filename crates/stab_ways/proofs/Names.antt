-- What the proofs of this crate take from std, from crates below and from its definitions.
pub use Rattle.std.proofs.Common.{◌≡◌, ℕ, zero, suc, ◌+◌, ◌-◌, ◌*◌, refl, sym, ◌∙◌, ap, subst, Bool, true, false, ◌&&◌, ◌||◌, not, List, [], ◌∷◌, ◌++◌, length, take, drop, All, replicate, nat_lt, nat_le, arith, ◌<◌, ◌≤◌, map, get_or, set, append_assoc, append-nil, le-ltb, ltb-true, ltb-false, ◌⊎◌, inl, inr}
pub use Rattle.std.proofs.Math.Seq.{take-add, take-take, take-append_seam, drop-append_seam}
pub use Rattle.std.proofs.lemmas.List.{map_more, length-map, map-append, take-append-drop, length-replicate, length-append, length-take, length-drop, replicate_more, take_more, drop_all, take_all, drop-drop, drop-take}
pub use Rattle.std.proofs.lemmas.List.Elements.{All-take, All-nil, All-cons, All-drop, All-head, All-tail, All-append}
pub use Rattle.std.proofs.lemmas.Bool.{cases_lt, leb-true, leb-false, le-leb, lt-leb}
pub use Rattle.std.specs.List.{list_any, flat_map}
pub use Rattle.std.specs.Prelude.{Option, Some, None, if◌then◌else◌}
pub use Rattle.stab_gates.specs.declared.letter.Letter.{Letter}
pub use Rattle.stab_gates.specs.declared.letter.Letter.TheVariants.{I, X, Y, Z}
pub use Rattle.stab_gates.specs.Letters.{◌⊕◌, letter_product, letters_anticommute}
pub use Rattle.stab_pauli.specs.Paulis.{Signed, single, with_sign, anticommute, identity, string_product, strings_anticommute}
pub use Rattle.stab_gates.proofs.LetterLemmas.{letter_product-I}
pub use Rattle.stab_tableau.proofs.OneLetterLemmas.{length-one_letter, one_letter-anticommute}
pub use Rattle.stab_pauli.proofs.StringLemmas.{length-string_product, string_product-blank, string_product-blank_right, string_product-assoc, string_product-self, strings_anticommute-blank, strings_anticommute-self, strings_anticommute-comm}
pub use Rattle.stab_tableau.specs.Traces.{Event, projected, member, is_random}
pub use Rattle.stab_tableau.specs.Groups.{IsStabiliserGroup}
pub use Rattle.stab_pauli.proofs.SignedLemmas.{product-self}
pub use Rattle.stab_gates.specs.declared.gate.Gate.{Gate}
pub use Rattle.stab_gates.specs.declared.gate.PairGate.{PairGate}
pub use Rattle.stab_tableau.proofs.OtherLetterLemmas.{get_or-blank, set-blank}
pub use Rattle.stab_tableau.specs.Gates.{image, image_pair, letter_image, pair_letters, letter_at}
pub use Rattle.stab_tableau.specs.Conjugations.{IsConjugated}
pub use Rattle.stab_instructions.specs.declared.axis.Axis.{Axis}
pub use Rattle.stab_instructions.specs.declared.operation.Measurement.{Measurement}
pub use Rattle.stab_instructions.specs.declared.range.MeasureTarget.{MeasureTarget}
pub use Rattle.stab_instructions.specs.declared.control.ControlledPair.{ControlledPair}
pub use Rattle.stab_instructions.specs.Axes.{letter_of}
pub use Rattle.stab_items.specs.Steps.{steps_of, controlled_step, measured, Step, one, two, controlled, collapse, product, detector, observable, makes, records_of, unroll, rounds}
pub use Rattle.stab_run.specs.Runs.{gate_of, flip_of, string_of, when, applied_where, outcome_at, State, start, run}
pub use Rattle.stab_run.specs.Points.{Point, RunOutput, origin, nothing, joined, coins_of, all_coins_of, next_point, point_after, outputs}
pub use Rattle.stab_run.specs.ProgramStates.{StepFits}
pub use Rattle.stab_run.proofs.CoinLemmas.{coins-few, coins-are, coins-append}
pub use Rattle.stab_run.proofs.PointLemmas.{randomness-counted}
pub use Rattle.stab_run.proofs.RunLemmas.{after-append, outputs-append, joined-assoc, joined-nothing}
pub use Rattle.stab_run.proofs.StateLemmas.{run-state}
pub use Rattle.stab_run.proofs.LookbackLemmas.{looked_up-zeros, or-left, or-right}
pub use Rattle.stab_frames.specs.Frames.{Frame, frame_of, identity_frame, plus, times_where}
pub use Rattle.stab_frames.specs.RunPivots.{RunPivots, no_strings, coins_changed}
pub use Rattle.stab_frames.specs.FrameSteps.{flipped_by, letters_by, letters_after, frame_after, flips_given, frame_over, flips_over}
pub use Rattle.stab_frames.specs.PivotsOfSteps.{IsEnoughAt, AreEnough}
pub use Rattle.stab_frames.specs.FirstSteps.{AreFronts, IsFlippedRun}
pub use Rattle.stab_frames.specs.Pivots.{pivot_at}
pub use Rattle.stab_frames.specs.Propagations.{PropagationState, frame_at, IsPlaced, PropagatesOver}
pub use Rattle.stab_frames.specs.inner.Draws.{never}
pub use Rattle.stab_frames.specs.inner.Propagates.{GoesOver, IsMissing}
pub use Rattle.stab_frames.specs.inner.Touches.{acts}
pub use Rattle.stab_frames.proofs.RandomLemmas.{pivot-none}
pub use Rattle.stab_frames.proofs.StepsPropagatedLemmas.{propagation-same, fits-over}
pub use Rattle.stab_frames.proofs.OverLemmas.{frame-append, flips-append}
pub use Rattle.stab_frames.proofs.StartLemmas.{by_frame-same}
pub use Rattle.stab_frames.proofs.EditLemmas.{flipped-run, fronts-go-on, fronts-take-paulis}
pub use Rattle.stab_frames.proofs.GoesOverLemmas.{fits-mapped}
pub use Rattle.stab_frames.proofs.TwoCircuitLemmas.{group-origin}
pub use Rattle.stab_frames.proofs.PropagatedPointLemmas.{conjugated-over, conjugated-comm, conjugated-stabiliser}
pub use Rattle.stab_frames.proofs.SignLemmas.{sign-twice, back-letter}
pub use Rattle.stab_ways.specs.PutIn.{letter_gates, with_string_in, by_letters, reset_leaves, step_leaves, way_after, way_over, way_flips, frame_begun, string_after, string_flips}
pub use Rattle.stab_ways.specs.Laws.{coins_with, StringsFlipRuns, LettersFlipRuns, FixedOutcomesKeepCoins}
pub use Rattle.stab_ways.specs.Ways.{Part, is_tick, rest_of_instruction, rounds_counted, Turn, placed, differ, changed_string, tick_string, listed_string, turns, part_rounds, carried_parts, parts_after, string_turns, turn_shown}
pub use Rattle.stab_ways.specs.inner.Walks.{EndsTogether, IsFront, has_letter_at, steps_leave, passed, WalkState, put_in, ended, past_steps, reported, over_part, walked, walk_shown, IsWalkOn}
pub use Rattle.stab_ways.specs.declared.way.PlacedLetter.{PlacedLetter}
pub use Rattle.stab_run.specs.Records.{ones}
pub use Rattle.stab_items.specs.StepValues.{lookbacks_of, step_shown, steps_shown}
pub use Rattle.std.proofs.lemmas.List.Concat.{flat_map-append}
pub use Rattle.stab_items.specs.Items.{Items, OneItem, next, block, done, before, listed, join, repeat, depth, depth_of as nested_in}
pub use Rattle.stab_items.specs.inner.Parts.{part_of}
pub use Rattle.stab_items.proofs.ItemLemmas.{listed-append, listed_pushed, depth_at}
pub use Rattle.stab_items.proofs.StepLemmas.{length-rounds, unroll-join}
pub use Rattle.stab_items.proofs.SummaryLemmas.{few_steps}
pub use Rattle.stab_run.proofs.FitLemmas.{check-fits, check-whole}
pub use Rattle.stab_items.specs.Views.{circuit_items}
