-- What the proofs of this crate take from std, from crates below and from its definitions.
pub use Rattle.std.proofs.Common.{◌≡◌, ◌≤◌, ◌<◌, ◌^◌, ℕ, Bool, true, false, List, [], ◌∷◌, length, refl, sym, ap, ◌∙◌, subst, Option, Result, Ok, Err, inl, inr, arith, ◌++◌, zero, suc, get_or, ◌+◌, eqb, set, take, ◌*◌, ◌/◌, ◌%◌, drop, add-one, codes, ◌-◌, ap₂, rules, nat_lt, if◌then◌else◌, Some, None, append_assoc, append-nil, map, slice_index_or, ◌⊎◌, decimal, ◌==◌, ◌&&◌, replicate, All, IfNone}
pub use Rattle.std.proofs.Math.Seq.{take-length, drop-cons, set-append_seam}
pub use Rattle.std.proofs.lemmas.Grind.{flat_map-append}
pub use Rattle.std.proofs.lemmas.List.{take_more, take_more_set, set_split, drop_all, map-append, length-map, get_or_read, get_or-map, length-append, length-replicate, length-set, take_all, length-drop, length-take}
pub use Rattle.std.proofs.lemmas.List.Concat.{flat_map-cons}
pub use Rattle.std.proofs.lemmas.Nat.{and_mask}
pub use Rattle.std.proofs.lemmas.Nat.Bits.{bit_at-lt}
pub use Rattle.std.specs.Int.{bit_at}
pub use Rattle.std.specs.List.{flat_map}
pub use Rattle.std.specs.Prelude.{bit_and, IfErr}
pub use Rattle.std.specs.Result.{IsErrAnd}
pub use Rattle.stab_report.proofs.MemoryLaws.{memory_alone}
pub use Rattle.stab_report.proofs.SendingLaws.{sent_batch, batches_break_off, sent_shot, shots_break_off, cut_off_as, sends_none, cut_off_here, sends_cut_off, sends_finished, parts_join}
pub use Rattle.stab_report.proofs.WritingLaws.{written}
pub use Rattle.stab_report.specs.Endings.{Sends, SendsFound, FlushesOrFault, SendsUnflushed}
pub use Rattle.stab_report.specs.Rows.{lines_of, line_of}
pub use Rattle.stab_report.specs.Sources.{run_of_shot}
pub use Rattle.stab_circuit.specs.Inputs.{GaveText, RefusesText}
pub use Rattle.stab_items.specs.Items.{Items, entries}
pub use Rattle.stab_circuit.specs.Readings.{IsCircuit, IsFaultOf, ReadsCircuit}
pub use Rattle.stab_items.specs.Steps.{qubits_of, Step, one, two, controlled, collapse, product, detector, observable, unroll, makes, records_of, detectors_of, detectors_in, observables_of, measured, controlled_step}
pub use Rattle.stab_items.specs.Views.{circuit_items}
pub use Rattle.stab_io.proofs.DeviceLemmas.{failed_on, failed_within, took_and_failed, wrote_part, wrote_and_failed, WroteUpTo, took_none}
pub use Rattle.stab_io.specs.Devices.{InputView, OutputView, Took, CutOff, TookSome, TookAndFailed, WritesAllOrFault, WritesAll}
pub use Rattle.stab_io.specs.Refusals.{whole}
pub use Rattle.stab_io.specs.declared.refusal.Fault.{Fault}
pub use Rattle.stab_io.specs.declared.refusal.Refusal.TheVariants.{OutOfMemory, WriteFault}
pub use Rattle.stab_pauli.specs.Paulis.{Signed, single}
pub use Rattle.stab_pauli.specs.Texts.{pauli_text, letters_text}
pub use Rattle.stab_recording.specs.declared.whole_run.Shot.{Shot}
pub use Rattle.stab_results.specs.Formats.{f01_bytes, digit, shot_bytes, entry, one_positions, detector_bits_of as kinds_detectors, one_positions_from}
pub use Rattle.stab_results.specs.declared.format.Format.{Format}
pub use Rattle.stab_results.specs.declared.format.Format.TheVariants.{F01, B8}
pub use Rattle.stab_results.specs.declared.format.Kinds.{Kinds}
pub use Rattle.stab_results.specs.declared.format.Kinds.TheVariants.{Detectors as Detected, Whole}
pub use Rattle.stab_run.specs.Coins.{seed_coin, Seeded, zero_coins, Listed, list_coin}
pub use Rattle.stab_run.specs.Runs.{State, start, string_of, outcome_at, effect, run}
unfoldable pub use Rattle.stab_run.specs.Runs.{run_of}
pub use Rattle.stab_sampler.proofs.ColumnLemmas.{column-lane}
pub use Rattle.stab_sampler.proofs.RecordedLemmas.{if-copied}
pub use Rattle.stab_sampler.proofs.RowLemmas.{length-row}
pub use Rattle.stab_sampler.specs.Blocks.{row_bytes}
pub use Rattle.stab_sampler.specs.Bytes.{lane_bytes, byte_at}
pub use Rattle.stab_sampler.specs.Lanes.{lane_bits}
pub use Rattle.stab_sampler.specs.References.{IsReference}
pub use Rattle.stab_sampler.specs.Shots.{AreRuns}
pub use Rattle.stab_sampler.specs.Words.{word_bit}
pub use Rattle.stab_commands.specs.Outputs.{EndsRun, detected}
pub use Rattle.stab_report.specs.Texts.{texts_from as of_shots, row_head, texts_from, texts_joined}
pub use Rattle.stab_commands.specs.Sendings.{IsShown, shown_bytes, shown_kinds, shown_items, shots_of}
pub use Rattle.stab_commands.specs.declared.bits.Shown.{Shown}
pub use Rattle.stab_commands.specs.declared.bits.Shown.TheVariants.{Records, DetectorsAndObservables}
pub use Rattle.stab_commands.specs.inner.Packings.{packed_bytes}
pub use Rattle.std.proofs.lemmas.Bool.{cases_eq, cases_lt}
pub use Rattle.std.proofs.lemmas.Bool.Decides.{nat_tests}
pub use Rattle.std.proofs.lemmas.List.Elements.{All-nil, All-cons, All-take, All-head, All-tail, All-map}
pub use Rattle.std.proofs.lemmas.Result.{err_from_is_err_and}
pub use Rattle.std.specs.Global.{Vec}
pub use Rattle.stab_items.proofs.EditLemmas.{entries-listed}
pub use Rattle.stab_items.specs.StepValues.{step_shown, steps_shown, lookbacks_of}
pub use Rattle.stab_items.specs.Paths.{Path, path_text}
pub use Rattle.stab_items.specs.ItemsAt.{item_at}
pub use Rattle.stab_items.specs.declared.steps.Steps.{Steps}
pub use Rattle.stab_items.specs.declared.steps.Steps.TheVariants.{Gates, Pairs, Measurements, Detectors, Single}
pub use Rattle.stab_frames.proofs.RepeatedStepLemmas.{pivot-conjugated}
pub use Rattle.stab_frames.proofs.EditLemmas.{coins-flip}
pub use Rattle.stab_frames.proofs.TwoCircuitLemmas.{group-origin}
pub use Rattle.stab_frames.proofs.MeasuredLemmas.{conjugated-random}
pub use Rattle.stab_frames.proofs.PivotLemmas.{right-enough, enough-before}
pub use Rattle.stab_frames.proofs.RunPivotLemmas.{run-pivots}
pub use Rattle.stab_frames.proofs.StartLemmas.{by_frame-same}
pub use Rattle.stab_frames.proofs.StepLemmas.{over-by_frame}
pub use Rattle.stab_frames.specs.FrameSteps.{flips_over}
pub use Rattle.stab_frames.specs.Frames.{identity_frame}
pub use Rattle.stab_frames.specs.FirstSteps.{IsFlippedRun}
pub use Rattle.stab_frames.specs.PivotsOfSteps.{IsRightAt, AreRight}
pub use Rattle.stab_frames.specs.RunPivots.{pivots_of, coins_changed, IsPivotOf}
pub use Rattle.stab_gates.proofs.ParityLemmas.{parity-false}
pub use Rattle.stab_instructions.specs.declared.axis.Axis.{Axis}
pub use Rattle.stab_instructions.specs.declared.control.ControlledPair.{ControlledPair}
pub use Rattle.stab_recording.proofs.FlippedLemmas.{flips-random, flipped-zeros}
pub use Rattle.stab_run.proofs.ProductLemmas.{length-string_of}
pub use Rattle.stab_run.proofs.StateLemmas.{run-state, run_of-same}
pub use Rattle.stab_run.specs.ProgramStates.{StepFits}
pub use Rattle.stab_sampler.proofs.RecordingLemmas.{run-items}
pub use Rattle.stab_sampler.specs.Units.{AreAscending, unit_coin}
pub use Rattle.stab_tableau.proofs.OneLetterLemmas.{length-one_letter}
pub use Rattle.stab_tableau.specs.Conjugations.{IsConjugated}
pub use Rattle.stab_tableau.specs.Traces.{member}
pub use lib.Seq.{take-nil, get_or-drop}
pub use Rattle.stab_report.specs.Coins.{ShotBits, flips_of, coin_flipped, shot_bits_of, inverted, CoinsHaveRows, CoinRow, row_by, table_of, with_rows, IsCoinTable}
pub use Rattle.stab_report.specs.ItemPaths.{step_of_coin, steps_before_coin, path_at, bit_of, path_of_bit, steps_before_bit}
pub use Rattle.stab_commands.specs.CoinRuns.{AreCoinRuns, deciding_coins, LaneHasBits}
pub use Rattle.stab_commands.specs.declared.coin_runs.CoinRuns.{CoinRuns}
pub use Rattle.stab_circuit.specs.Explanations.{AppendsSome}
pub use Rattle.stab_search.proofs.IndexLemmas.{listed-set_here, listed-set_other, listed-push, listed-at}
pub use Rattle.stab_search.specs.Progress.{Heard}
pub use Rattle.stab_search.specs.inner.Indexes.{rows_listed}
pub use Rattle.stab_error_model.specs.ErrorTables.{IsErrorTable}
pub use Rattle.stab_error_model.specs.Errors.{errors_of}
pub use Rattle.stab_error_model.specs.Parts.{AreSearched}
pub use Rattle.stab_error_model.specs.Unseen.{IsDistance}
pub use Rattle.stab_frames.proofs.FlipLemmas.{length-flipped, flipped-empty}
pub use Rattle.stab_gates.specs.Letters.{◌⊕◌}
pub use Rattle.stab_gates.specs.declared.letter.Letter.{Letter}
pub use Rattle.stab_gates.specs.declared.letter.Letter.TheVariants.{I, X, Y, Z}
pub use Rattle.stab_io.specs.declared.refusal.Refusal.{Refusal}
pub use Rattle.stab_items.specs.Prints.{item_coordinates}
pub use Rattle.stab_jobs.specs.declared.job.DistanceOptions.{DistanceOptions}
pub use Rattle.stab_jobs.specs.declared.job.FaultLayout.{FaultLayout}
pub use Rattle.stab_instructions.proofs.WriteLemmas.{writes_failed, writes_then, writes_as}
pub use Rattle.stab_regions.specs.SingleErrors.{bits_in, numbers_where, IsSingleErrorTable, bit, IsDeterministic, RowsAdd}
pub use Rattle.stab_run.proofs.CoinLemmas.{coins-steps, coins-one, coins-few}
pub use Rattle.stab_run.proofs.FitLemmas.{check-fits, check-steps, check-whole}
pub use Rattle.stab_run.specs.Points.{all_coins_of, coins_of, Point, RunOutput, origin, next_point, point_after, with_additions}
pub use Rattle.stab_run.specs.Records.{parity}
pub use Rattle.stab_sampler.proofs.WordLemmas.{word_bit-zero}
pub use Rattle.stab_sampler.specs.declared.shots.Shots.{Shots}
pub use Rattle.stab_tableau.proofs.ReducedLemmas.{same-reduced}
pub use Rattle.stab_tableau.proofs.RowsDetermineLemmas.{rows-determine}
pub use Rattle.stab_commands.specs.Checks.{SendsSome, numbers_of, IsCountedBy, number_line}
pub use Rattle.stab_report.specs.CoinTables.{coin_entry, coins_text, whole_bits, whole_kinds}
pub use Rattle.stab_report.specs.Deciders.{checked_bits, deciders}
pub use Rattle.stab_report.specs.Deterministic.{IsDeterministicText}
pub use Rattle.stab_report.specs.Distances.{AreErrorsOf, HearsDistance, IsDistanceOf, IsDistanceText, IsRefusedFor, IsSearchedText, answer_text, distance_line, if_graphlike, line_end, none_line, numbered_line, of_errors, error_lines, up_to}
pub use Rattle.stab_report.specs.SingleErrorTables.{GoesOnWithItems, fault_of, random_of, set_all, IsFirstDecider, IsTableText, table_text}
pub use Rattle.stab_report.specs.Reasons.{bit_name, coordinates_at, decider_text, reason_line, reason_text, DeterministicHasNoDecider, has_bit, found_coordinates}
pub use Rattle.stab_commands.specs.declared.coin_rows.NumberedWord.{NumberedWord}
pub use Rattle.stab_commands.specs.declared.distance.Distance.{Distance}
pub use Rattle.stab_report.specs.declared.random.Bit.{Bit}
pub use Rattle.stab_report.specs.declared.random.FaultsRefused.{FaultsRefused}
pub use Rattle.stab_report.specs.declared.random.Random.{Random}
pub use Rattle.stab_commands.specs.inner.CoinRows.{HaveFlips, flips_at, text_at, coin_at, decides, positions_in}
pub use Rattle.stab_commands.specs.inner.Deciders.{ones_at, ones_of}
pub use Rattle.stab_commands.specs.inner.Faults.{SendsAtOnce}
pub use Rattle.stab_commands.specs.inner.Groups.{coins_together}
