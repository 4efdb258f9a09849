-- What the proofs of this crate take from std, from crates below and from its definitions.
pub use Rattle.std.proofs.Common.{◌≡◌, ◌<◌, ℕ, ◌+◌, zero, suc, Bool, false, List, [], ◌∷◌, ◌++◌, length, take, min, get_or, refl, ap, ◌∙◌, arith, drop, sym, append_assoc, codes, ◌-◌, ◌≤◌, subst, None, Ok, Err, Result, inl, inr, length-take, true, ◌&&◌, slice_set, map, Option, Some, nat_le, length-append, if◌then◌else◌, ◌==◌, nat_lt, All, set, ◌||◌, length-set, ap₂, ◌^◌, ◌⊎◌, ◌≢◌, IsTrue, not, rules, add-one, drop-cons}
pub use Rattle.std.proofs.lemmas.Bool.{ltb-true, eqb-false, ltb-false, leb-true}
pub use Rattle.std.proofs.lemmas.List.{append-nil, take_more_set, take_more, take-append-drop, take_all, map-append, ext_get_or, get_or_past}
pub use Rattle.std.proofs.lemmas.List.Elements.{All-cons, All-nil}
pub use Rattle.std.proofs.lemmas.Result.{err_from_is_err_and}
pub use Rattle.std.specs.List.{list_all, slice_split, flat_map}
pub use Rattle.std.specs.Option.{option_copied}
pub use Rattle.std.specs.Prelude.{IfOk, IfErr, bytes_eq}
pub use Rattle.std.specs.Result.{IsErrAnd}
pub use Rattle.stab_items.proofs.SummaryLemmas.{few_steps}
pub use Rattle.stab_report.specs.Rows.{lines_of}
pub use Rattle.stab_report.specs.Texts.{texts_joined}
pub use Rattle.stab_items.proofs.EditLemmas.{entries-listed, listed-entries}
pub use Rattle.stab_items.specs.Edits.{steps_before, edited, list_verdict, verdict}
pub use Rattle.stab_items.specs.Items.{Items, OneItem, listed, entries, done, before, depth}
pub use Rattle.stab_items.specs.Paths.{Path, numbers}
pub use Rattle.stab_items.specs.ItemsAt.{item_at}
pub use Rattle.stab_items.specs.Steps.{Step, unroll, check_within, steps_cap, is_inverted, looks_too_far, most_steps, named_qubits, qubits_of, detectors_of}
unfoldable pub use Rattle.stab_items.specs.Steps.{check_of}
pub use Rattle.stab_items.specs.Views.{circuit_items}
pub use Rattle.stab_gates.specs.Letters.{◌⊕◌}
pub use Rattle.stab_gates.specs.declared.letter.Letter.{Letter}
pub use Rattle.stab_io.proofs.DeviceLemmas.{took_none, left_more, took_more, took_and_failed, gave_none, gave_more, gave_and_failed, WroteUpTo, failed_within, wrote_part, wrote_and_failed, failed_on}
pub use Rattle.stab_io.specs.Devices.{OutputView, Took, TookAndFailed, CutOff, InputView, Gave, GaveAndFailed, GaveAll, IsAtEnd, Reads}
pub use Rattle.stab_io.specs.Refusals.{whole, IsCallFault}
pub use Rattle.stab_io.specs.declared.refusal.Fault.{Fault}
pub use Rattle.stab_io.specs.declared.refusal.Refusal.{Refusal}
pub use Rattle.stab_io.specs.declared.refusal.Refusal.TheVariants.{OutOfMemory, BadTarget, QubitOutOfRange, WriteFault, TooDeep, LookbackTooFar, TooManySteps, BadCommand, NotDeterministic, TooLong, ReadFault}
pub use Rattle.stab_instructions.proofs.WriteLemmas.{writes_failed, writes_then, writes_as}
pub use Rattle.stab_instructions.specs.Lines.{content_of, ends_with_byte, is_byte}
pub use Rattle.stab_instructions.specs.Products.{product_of}
pub use Rattle.stab_instructions.specs.Results.{◌>>=◌, Gives}
pub use Rattle.stab_instructions.specs.Words.{value, pieces_after, is_number}
pub use Rattle.stab_instructions.specs.declared.product.Factor.{Factor}
pub use Rattle.stab_pauli.specs.Paulis.{Signed, with_sign, minus}
pub use Rattle.stab_run.proofs.FitLemmas.{check-whole, check-fits}
pub use Rattle.stab_run.proofs.ProductLemmas.{length_identity}
pub use Rattle.stab_run.specs.Runs.{string_of, State, run_of}
pub use Rattle.stab_script.specs.Changes.{changes}
pub use Rattle.stab_script.specs.Editors.{EditorState, after_answer, Reported, ReportedSome, AnswersRequests, progress, FlushFails, Sent, Finishes}
pub use Rattle.stab_script.specs.CountedAnswers.{GivesText}
pub use Rattle.stab_script.specs.CountedReplies.{text_found, reply_text, greeting, session_numbers, made_text}
pub use Rattle.stab_script.specs.ItemCounts.{counts_of, path_after, steps_up_to, steps_at, counts_line, counts_text, two_numbers}
pub use Rattle.stab_script.specs.Replies.{ReplyBytes}
pub use Rattle.stab_script.specs.Requests.{opened_in, asked_if_any, request_asked}
pub use Rattle.stab_script.specs.ScriptWords.{is_path_number, most_numbers, numbers_after, Gathered, first_word, after_word, path_if_any, path_of_word, is_nothing}
pub use Rattle.stab_script.specs.Scripts.{Request, begin, put, delete, show, ask, deterministic, distance, refuse, ScriptReader, Gathering, Reading, silent, line_ended, begun, line_alone, opened_after, gathered_with, gathering_ended, line_gathered, line_after, read_byte, then_read, show_by, show_of, Environment, Held, Answer, IsAnswer, IsAnswerToAll, both, replying, read_last, script_closed, run_held, IsPut, Shows, IsDeterministicAnswer, IsDistanceAnswer, IsPlainAnswer, options_asked, unless, verdict_on, decided, refusing, edit_of, edited_items, counted_shown, held_split, held_after, shown_or_refused, counted_answer, put_at, delete_at, counted_of, distance_of, request_by, put_gathered, read_end, empty_reader, requests_of, held_at_first, requests_in, most_script}
unfoldable pub use Rattle.stab_script.specs.Scripts.{request_of, read_line, read}
pub use Rattle.stab_script.specs.Signs.{is_string_byte, letter_of_byte, lettered, string_within, string_without_sign, sign_in, sign_line, string_of_word}
pub use Rattle.stab_script.specs.declared.reply.StepCounts.{StepCounts}
pub use Rattle.stab_script.specs.inner.StepCounts.{counts_added, IsOfSteps}
pub use Rattle.std.proofs.Math.Seq.{take-append-add}
pub use Rattle.stab_items.proofs.CountLemmas.{steps_counted}
pub use Rattle.stab_report.proofs.RandomLaws.{first_random_is, deterministic_before, all_deterministic}
pub use Rattle.stab_report.specs.Deciders.{deciders}
pub use Rattle.stab_report.specs.Deterministic.{IsDeterministicText}
pub use Rattle.stab_report.specs.Distances.{IsDistanceText, answer_text, IsDistanceOf, IsRefusedFor, where_text}
pub use Rattle.stab_report.specs.Endings.{GaveCircuit}
pub use Rattle.stab_report.specs.FaultLines.{refused_text}
pub use Rattle.stab_report.specs.SingleErrorTables.{IsFirstDecider, IsFirstRandom}
pub use Rattle.stab_report.specs.ItemPaths.{bit_of, path_of_bit, path_of_coin, path_at}
pub use Rattle.stab_report.specs.Reasons.{DeterministicHasNoDecider}
pub use Rattle.stab_report.specs.Sources.{coins_of_shot}
pub use Rattle.stab_commands.specs.declared.distance.Distance.{Distance}
pub use Rattle.stab_report.specs.declared.random.Bit.{Bit}
pub use Rattle.stab_report.specs.declared.random.Decider.{Decider}
pub use Rattle.stab_report.specs.declared.random.Random.{Random}
pub use Rattle.stab_items.specs.Circuits.{item_fault, StandsForOne}
pub use Rattle.stab_circuit.specs.Laws.{AreOfLines, PutsLines, TextsAreLines, ItemTextsAreLines, ItemTextsHaveOneMeaning, EditedItemsAreOfLines, SplitsLeaveTheSteps, SplitItemsAreOfLines, LinesKeepQubitsDistinct}
pub use Rattle.stab_items.specs.Splits.{AreAlike, split as split_list, refused_by, split_refusal}
pub use Rattle.stab_items.specs.Prints.{printed}
pub use Rattle.stab_circuit.specs.Readings.{IsCircuit}
pub use Rattle.stab_items.specs.declared.edit.Edit.{Edit}
pub use Rattle.stab_report.specs.Coins.{ShotBits, CoinsHaveRows, IsCoinTable, table_of}
pub use Rattle.stab_error_model.specs.ErrorTables.{IsErrorTable}
pub use Rattle.stab_error_model.specs.Errors.{errors_of}
pub use Rattle.stab_error_model.specs.Laws.{CircuitsHaveDistances}
pub use Rattle.stab_error_model.specs.Unseen.{IsDistance}
pub use Rattle.stab_io.specs.declared.device.DeviceFault.{DeviceFault}
pub use Rattle.stab_jobs.specs.declared.job.DistanceOptions.{DistanceOptions}
pub use Rattle.stab_jobs.specs.declared.job.Source.{Source}
pub use Rattle.stab_instructions.proofs.BoolLemmas.{and_left, and_right}
pub use Rattle.stab_instructions.proofs.WordLemmas.{eighteen_digits}
pub use Rattle.stab_regions.proofs.SingleErrorTableLemmas.{deterministic-found}
pub use Rattle.stab_regions.specs.SingleErrorLaws.{DeterministicParities}
pub use Rattle.stab_regions.specs.SingleErrors.{AreDeterministic, IsDeterministic, bits_in}
pub use Rattle.stab_results.specs.Formats.{f01_bytes, entry, one_positions}
pub use Rattle.stab_results.specs.declared.format.Format.TheVariants.{F01}
pub use Rattle.stab_run.specs.Coins.{seed_coin, Seeded, Listed, list_coin}
pub use Rattle.stab_run.specs.Laws.{IsSoundRun, RunsAreSound}
pub use Rattle.stab_run.specs.ProgramStates.{StepFits}
pub use Rattle.stab_script.specs.CountedRequests.{CountedRequest, bookmark, split, changed, changed_records, sign, item, counts, coin_table, why, way, request_alone, round_number_of, counted_split, counted_show}
pub use Rattle.stab_script.specs.Watchers.{Asked, given_by, asked, Logs}
pub use Rattle.stab_script.specs.declared.changes.BookmarkedBits.{BookmarkedBits}
pub use Rattle.stab_script.specs.declared.editor.Answered.{Answered}
pub use Rattle.stab_script.specs.declared.request.ItemEdit.{ItemEdit}
pub use Rattle.stab_script.specs.declared.request.ItemEdit.TheVariants.{Insert, Replace}
pub use Rattle.stab_script.specs.declared.request.Show.{Show}
pub use Rattle.stab_script.specs.declared.request.Show.TheVariants.{Measurements, Free, Detectors, Observables, Stabilisers, Circuit}
pub use Rattle.stab_session.specs.SessionEdits.{IsEditedBy, IsAsBefore, IsSplit}
pub use Rattle.stab_session.specs.Sessions.{SessionState, IsSignIn}
pub use Rattle.stab_tableau.proofs.TestLemmas.{same_test}
pub use Rattle.stab_tableau.specs.Reduced.{TracesHaveReducedRows, TracesHaveOneList}
pub use Rattle.stab_tableau.specs.Traces.{member}
pub use Rattle.stab_script.specs.ScriptEndings.{EndsOn, EndsEditBy, EndsPlainEdit, EndsEdit, environment_of, qubits_for, AnswersScript, BreaksOff, AnswersFront, EndsScript}
pub use Rattle.stab_script.specs.ScriptLaws.{CanBeEdited, asks_distance, NoneAsksDistance}
pub use Rattle.stab_script.specs.ScriptTurns.{all_given, InTurn, TakesTurns, EditsInTurn}
pub use Rattle.stab_script.specs.inner.SessionAnswers.{answered, held_of, session_run}
pub use Rattle.stab_report.proofs.FaultLineLaws.{flat-drop}
pub use Rattle.stab_ways.specs.Ways.{Turn, turn_shown}
pub use Rattle.stab_script.specs.WayTexts.{factor_in_way, placed_text, string_text, turn_line}
pub use Rattle.stab_ways.specs.declared.way.PlacedLetter.{PlacedLetter}
pub use Rattle.stab_gates.specs.declared.letter.Letter.TheVariants.{I}
pub use Rattle.stab_items.specs.StepPaths.{outside, paths_of}
pub use Rattle.stab_items.proofs.StepPathLemmas.{length-paths}
