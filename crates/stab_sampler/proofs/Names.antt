-- What the proofs of this crate take from std, from crates below and from its definitions.
pub use Rattle.std.proofs.Common.{◌≡◌, ℕ, ◌+◌, ◌-◌, ◌*◌, ◌<◌, ◌≤◌, refl, sym, ◌∙◌, ap, subst, Bool, false, List, ◌++◌, length, take, get_or, arith, ◌%◌, [], ◌∷◌, zero, suc, ◌/◌, ◌^◌, eqb, true, ◌&&◌, inl, inr, append-nil, append_assoc, nat_lt, map, set, drop, replicate, All, min, slice_index_or, ◌≢◌, ◌==◌, Ok, Err, rules, take-add, OnOk}
pub use Rattle.std.proofs.Math.Nat.{div-div-eq-div-mul, mod-eq_of_lt, div-mul-le_self}
pub use Rattle.std.proofs.Math.Pow.{pow-lt}
pub use Rattle.std.proofs.Math.Seq.{take-append_seam, drop-append_seam}
pub use Rattle.std.proofs.lemmas.Bool.{cases_lt, cases_order, cases_eq}
pub use Rattle.std.proofs.lemmas.Bool.Decides.{nat_tests}
pub use Rattle.std.proofs.lemmas.List.{length-map, take_at, length-append, length-replicate, map_more, take_all, map-set, get_or-map, set-get_or, map-append, drop_more, drop_all, length-set, length-drop, drop-map, get_or-drop, length-take, take-append-drop, get_or-take, drop-drop, drop_at, take_min, drop_min, take-map, flat_map_more, get_or-replicate, get_or-set_same, get_or-set_other, length_push, nil_from_length, get_or_default, replicate-append-replicate, drop-append-le, ext_get_or}
pub use Rattle.std.proofs.lemmas.List.Elements.{All-drop, All-take, All-nil}
pub use Rattle.std.proofs.lemmas.List.Sorted.{searched}
pub use Rattle.std.proofs.lemmas.Nat.{mod-pow-add, pow-add, pow_pos, le-div}
pub use Rattle.std.proofs.lemmas.Nat.Bits.{bit_at-suc, bit_at_lowest, bit_at_and, bit_at-lt, bit_at_cat_low, bit_at_cat_high, bit_at_above, bit_at-pow_same, bit_at-pow_other, bit_at_xor, bit_at_ones, bit_at-zero}
pub use Rattle.std.proofs.lemmas.Option.{slice_get_past}
pub use Rattle.std.specs.Int.{bit_at, w64, to_le_bytes, div_ceil}
pub use Rattle.std.specs.List.Sorted.{IsBinarySearchResult}
pub use Rattle.std.specs.Ordering.{nat_cmp}
pub use Rattle.std.specs.Prelude.{slice_get, None, if◌then◌else◌, bit_xor, ◌⊎◌, Option, bit_and, Some, IfSome}
pub use Rattle.std.specs.Slice.Iter.{chunks_rest, chunks_size}
pub use Rattle.rand_chacha.specs.ChaCha.{word_at}
pub use Rattle.stab_items.specs.StepValues.{steps_shown, step_shown, lookbacks_of}
pub use Rattle.stab_items.specs.Steps.{HasDistinctQubits, Step, one, two, controlled, collapse, product, detector, observable, unroll, controlled_step, measured, rounds, makes, lookbacks, looks_too_far, observables_of, check_within}
pub use Rattle.stab_items.specs.Views.{circuit_items}
pub use Rattle.stab_frames.proofs.FactorLemmas.{factors-distinct}
pub use Rattle.stab_frames.proofs.ImageLemmas.{first_by, second_by, first_controlled, second_controlled}
pub use Rattle.stab_frames.proofs.OverLemmas.{frame-append, flips-append}
pub use Rattle.stab_frames.proofs.PropagationLemmas.{ones-few}
pub use Rattle.stab_frames.specs.Flips.{flipped}
pub use Rattle.stab_frames.specs.FrameSteps.{frame_over, flips_over, flip_by, letters_for, letters_after, flips_given, flips_outcome, letters_measured, frame_after}
pub use Rattle.stab_frames.specs.Frames.{plus, times_where, Frame}
pub use Rattle.stab_frames.specs.Images.{letter_where, controlled_letter}
pub use Rattle.stab_frames.specs.Pivots.{pivot_at, IsTrueAt, AreTrue, PivotsState, IsNumbered, KeepsTrue}
pub use Rattle.stab_frames.specs.PivotsOfSteps.{AreRight, IsRightAt, AreEnough}
pub use Rattle.stab_frames.specs.RunPivots.{RunPivots, IsPivotOf, pivots_of, coins_changed}
pub use Rattle.stab_frames.specs.inner.Propagates.{factors_anticommute}
pub use Rattle.stab_gates.proofs.LetterLemmas.{letters_anticommute-comm, letter_product-I}
pub use Rattle.stab_gates.proofs.ParityLemmas.{parity-false}
pub use Rattle.stab_gates.specs.Letters.{◌⊕◌, letter_product, letters_anticommute}
pub use Rattle.stab_gates.specs.XParts.{has_x}
pub use Rattle.stab_gates.specs.declared.gate.Gate.{Gate}
pub use Rattle.stab_gates.specs.declared.gate.PairGate.{PairGate}
pub use Rattle.stab_gates.specs.declared.letter.Letter.{Letter}
pub use Rattle.stab_gates.specs.declared.letter.Letter.TheVariants.{I, X, Y, Z}
pub use Rattle.stab_instructions.specs.declared.product.Factor.{Factor}
pub use Rattle.stab_pauli.proofs.BitLemmas.{two_cases}
pub use Rattle.stab_pauli.proofs.PositionLemmas.{has_x_bits}
pub use Rattle.stab_pauli.proofs.StringLemmas.{string_product-empty, string_product-blank_right, strings_anticommute-comm}
pub use Rattle.stab_pauli.specs.Paulis.{Signed, single, strings_anticommute, string_product}
pub use Rattle.stab_results.proofs.GroupLemmas.{next_group}
pub use Rattle.stab_results.specs.Formats.{number, b8_bytes}
pub use Rattle.stab_run.proofs.CoinLemmas.{coins-append, coins-are, coins-steps}
pub use Rattle.stab_run.proofs.FitLemmas.{check-fits, check-steps, check-whole, counted-steps}
pub use Rattle.stab_run.proofs.RunLemmas.{joined-assoc, joined-nothing, fits-steps, after-append, outputs-append}
pub use Rattle.stab_run.proofs.StepsLeftLemmas.{take-steps, take-none, take-empty}
pub use Rattle.stab_run.proofs.TargetLemmas.{fits-target}
pub use Rattle.stab_run.specs.Coins.{seed_coin, Listed, list_coin, zero_coins}
pub use Rattle.stab_run.specs.Points.{RunOutput, joined, all_coins_of, nothing, coins_of, with_additions, outputs, Point, given, next_point, origin, point_after, state_at}
pub use Rattle.stab_run.specs.ProgramStates.{StepFits, ProgramState, IsAt, ProgramComesTo, IsRun, program_state, output_of}
pub use Rattle.stab_run.specs.Records.{looked_up, ones, parity}
pub use Rattle.stab_run.specs.Runs.{when, flip_of, string_of, added, State, start, run}
pub use Rattle.stab_tableau.proofs.OneLetterLemmas.{one_letter-anticommute}
pub use Rattle.stab_tableau.proofs.OtherLetterLemmas.{string_product-set}
pub use Rattle.stab_tableau.specs.Gates.{image, image_pair, letter_image, letter_at, pair_letters}
pub use Rattle.stab_tableau.specs.Traces.{member}
pub use Rattle.stab_tableau.specs.inner.InverseRows.{blank}
pub use Rattle.stab_sampler.specs.Blocks.{differing_bits, first_exchanged, second_exchanged, row_bytes}
pub use Rattle.stab_sampler.specs.Bytes.{lane_bytes, byte_at}
pub use Rattle.stab_sampler.specs.Differences.{Difference, frame_of_difference, next_coin, lane_difference, DiffersAlong, IsMeasuredBy, MayPropagateLanes, GoOver, GoWithoutCoins, without_outcomes, no_difference, IsLane, AreLanes, ArePropagated}
pub use Rattle.stab_sampler.specs.Lanes.{lane_letters, lane_bits, letter_in, letter_times, lane_additions, lane_output}
pub use Rattle.stab_sampler.specs.RecordedPivots.{lane_pivots, HasAll, most_pivots}
pub use Rattle.stab_sampler.specs.Seeds.{AreCoins, lane_coin, AreCoinsOfParts, shot_coins}
pub use Rattle.stab_sampler.specs.Units.{AreAscending, unit_coin}
pub use Rattle.stab_sampler.specs.Words.{word_bit, wide_bit}
pub use Rattle.stab_sampler.specs.declared.coins.SeededShots.{SeededShots}
pub use Rattle.stab_sampler.specs.declared.lanes.Sum.{Sum}
pub use Rattle.stab_sampler.specs.declared.letters.Letters.{Letters}
pub use Rattle.stab_sampler.specs.declared.measure.RecordedPivots.{RecordedPivots}
pub use Rattle.std.specs.Borrow.{Bor}
pub use Rattle.std.specs.List.{list_any}
pub use Rattle.std.specs.Option.{option_copied}
pub use Rattle.stab_items.specs.Items.{Items}
pub use Rattle.stab_items.specs.Repeats.{round_of, IsRepeat, AreRepeats}
pub use Rattle.stab_items.specs.declared.circuit.repeats.Repeat.{Repeat}
pub use Rattle.stab_frames.proofs.TwoCircuitLemmas.{fronts-outputs, fronts-matches, fronts-by_frame, records-flipped, randomness-flipped, detectors-flipped, observables-flipped}
pub use Rattle.stab_frames.proofs.RandomLemmas.{ones-split}
pub use Rattle.stab_frames.proofs.PivotLemmas.{right-enough}
pub use Rattle.stab_frames.proofs.StartLemmas.{by_frame-same}
pub use Rattle.stab_frames.proofs.TrueLemmas.{true-none, true-rest}
pub use Rattle.stab_frames.specs.FirstSteps.{AreFronts}
pub use Rattle.stab_frames.specs.Limits.{bytes_of, most_strings}
pub use Rattle.stab_recording.proofs.AdvancedLemmas.{coins-on}
pub use Rattle.stab_recording.proofs.RoundPositionLemmas.{more-rounds, following-later, repeat-here, repeats-following, following-more}
pub use Rattle.stab_recording.specs.RunsWithPivots.{IsRunWithPivots}
pub use Rattle.stab_recording.specs.declared.whole_run.Shot.{Shot}
pub use Rattle.stab_recording.specs.inner.Advanced.{after_rounds}
pub use Rattle.stab_run.proofs.LookbackLemmas.{looked_up-more, parity-same, or-left, or-right}
pub use Rattle.stab_run.proofs.PointLemmas.{records-are-records}
pub use Rattle.stab_run.proofs.RecordLemmas.{ones-append}
pub use Rattle.stab_run.proofs.RoundLemmas.{rounds-rounds, rounds-within}
pub use Rattle.stab_run.proofs.StateLemmas.{run-state}
pub use Rattle.stab_run.specs.Cuts.{lengths_of, rest_of}
pub use Rattle.stab_run.specs.RoundLaws.{output_copies}
unfoldable pub use Rattle.stab_run.specs.Runs.{run_of}
pub use Rattle.stab_run.specs.declared.records.Addition.{Addition}
pub use Rattle.stab_run.specs.declared.records.Lengths.{Lengths}
pub use Rattle.stab_tableau.specs.Tableaus.{stabilises}
pub use Rattle.stab_sampler.specs.Shots.{IsAsLong, AreFlipped, AreRuns, IsShot, AreShots}
pub use Rattle.stab_sampler.specs.LaneCheckpoints.{IsStoredAfter, IsLaneCheckpoint, times}
pub use Rattle.stab_sampler.specs.PartRecordings.{IsPartRecording, IsSized, HasPivots, given_by_part}
pub use Rattle.stab_sampler.specs.References.{IsReference}
pub use Rattle.stab_sampler.specs.declared.frames.Frames.{Frames}
pub use Rattle.stab_sampler.specs.declared.lanes.Lanes.{Lanes}
pub use Rattle.stab_sampler.specs.declared.part_recording.PartRecording.{PartRecording}
pub use Rattle.stab_sampler.specs.declared.shots.Shots.{Shots}
