-- What the proofs of this crate take from std, from crates below and from its definitions.
pub use Rattle.std.proofs.Common.{◌≡◌, ◌<◌, ◌≤◌, ◌^◌, refl, ap, sym, ◌∙◌, subst, ℕ, ◌-◌, ◌==◌, ◌&&◌, ◌||◌, nat_le, nat_lt, nat_eq, List, [], ◌∷◌, ◌++◌, Bool, true, false, not, length, take, filter, map, append_assoc, append-nil, arith, codes, if◌then◌else◌, Some, Result, Ok, Option, ◌+◌, suc, drop, ◌⊎◌, inl, inr, Bor, None, MatchOption, Err, set, All, get_or, drop-cons, length-drop, is_some, zero, take_all, reverse, replicate, length-take, IfOk, ◌≢◌, max, ◌*◌, vec_len}
pub use Rattle.std.proofs.lemmas.Bool.{not-true, or_right, or_left}
pub use Rattle.std.proofs.lemmas.Bool.Decides.{nat_tests, Decides-eqb}
pub use Rattle.std.proofs.lemmas.Fmt.{digits_decimal, digits_value-decimal, decimal_nonempty, length-decimal-le}
pub use Rattle.std.proofs.lemmas.List.{length-append, take-append-drop, take_more_set, reverse-append, get_or-take, length-set, length-take-le, map-append, length-reverse, length-map, take-append-le, set_split, take_at, drop_at, take-take, drop-set-lt}
pub use Rattle.std.proofs.lemmas.List.Elements.{All-nil, All-cons, All-append, All-from_recursion, All-head, All-tail, All-weaker, All-push}
pub use Rattle.std.proofs.lemmas.List.Folds.{list_any-append, list_all_at, list_all-append}
pub use Rattle.std.proofs.lemmas.List.Splits.{slice_split-cons_yes, slice_split-cons_no, slice_split_none, slice_split_at, length-slice_split, join_with_byte-slice_split}
pub use Rattle.std.proofs.lemmas.List.Sums.{position_or_len_is}
pub use Rattle.std.proofs.lemmas.Result.{err_from_is_err_and}
pub use Rattle.std.specs.Cmp.Lexicographic.{pointwise}
pub use Rattle.std.specs.Fmt.{decimal}
pub use Rattle.std.specs.List.{slice_split, list_all, starts_with, list_any, prefix_len, onto_first, position_or_len, before_first, after_first, suffix_len, take_while, AllByRecursion, join_with_byte, remove}
pub use Rattle.std.specs.Option.{option_copied}
pub use Rattle.stab_gates.specs.Limits.{most_qubits}
pub use Rattle.stab_gates.specs.declared.gate.Gate.{Gate}
pub use Rattle.stab_io.specs.declared.refusal.Refusal.{Refusal}
pub use Rattle.stab_io.specs.declared.refusal.Refusal.TheVariants.{BadArguments, OutOfMemory, BadBlock, BadTarget, QubitOutOfRange, BadLine, TooDeep, LookbackTooFar, TooManySteps, PlaceOutOfRange, NotABlock, TooLong}
pub use Rattle.stab_instructions.specs.Axes.{first_axis}
pub use Rattle.stab_instructions.specs.Controls.{by_turns, paired, controlled_of, pair_of}
unfoldable pub use Rattle.stab_instructions.specs.Controls.{control_of}
pub use Rattle.stab_circuit.specs.FirstLines.{BeginsWithInstruction, ReadsInstruction}
pub use Rattle.stab_instructions.specs.Laws.{IsLine, line_printed, Says}
pub use Rattle.stab_instructions.specs.Limits.{most_observables, most_lookback}
pub use Rattle.stab_instructions.specs.Lines.{is_byte, is_digit, is_spacing, trimmed, starts_with_byte, ends_with_byte, is_brace, trimmed_front, Shape, after_tag, shaped, trimmed_end, has_byte, is_letter, is_name_byte, without_brace}
unfoldable pub use Rattle.stab_instructions.specs.Lines.{may_follow, shape_of, content_of, bracketed}
pub use Rattle.stab_instructions.specs.Lookbacks.{IsLookback}
pub use Rattle.stab_instructions.specs.Meanings.{without_open, shape_meaning, is_close, targets_alone, opening_of, only_count, is_of_line, coordinates_of}
unfoldable pub use Rattle.stab_instructions.specs.Meanings.{kind_of, named_line, meaning_of, block_of, observable_include_of}
pub use Rattle.stab_instructions.specs.Names.{gate_name, controlled_name, measurement_name, reset_name, first_named}
unfoldable pub use Rattle.stab_instructions.specs.Names.{name_of, gate_named, controlled_named, measurement_named, other_named, instruction_named}
pub use Rattle.stab_instructions.specs.Prints.{each_after, spaced, pair_text, mark_text, target_text, lookback_text, arguments_text, kind_name, controlled_text, product_text, kind_arguments, targets_text, axis_text, factor_text, tag_text, head_text, operation_text, open_text}
pub use Rattle.stab_instructions.specs.Products.{unmarked, factor_on, names_twice, on_different, is_on}
unfoldable pub use Rattle.stab_instructions.specs.Products.{is_factor, factor_of, product_of}
pub use Rattle.stab_instructions.specs.Results.{◌>>=◌, each}
pub use Rattle.stab_instructions.specs.Targets.{pair_qubits, lookback_digits, is_lookback, pairs_of, is_coordinate_byte, one_argument}
unfoldable pub use Rattle.stab_instructions.specs.Targets.{qubit_of, measure_target_of, lookback_of, count_of, coordinate_of, observable_of, number_of}
pub use Rattle.stab_instructions.specs.Words.{words, is_some_word, is_blank, arguments_of, is_number, value, pieces_after, value_from}
pub use Rattle.stab_instructions.specs.declared.axis.Axis.{Axis}
pub use Rattle.stab_instructions.specs.declared.control.Control.{Control}
pub use Rattle.stab_instructions.specs.declared.control.ControlTarget.{ControlTarget}
pub use Rattle.stab_instructions.specs.declared.control.ControlledPair.{ControlledPair}
pub use Rattle.stab_instructions.specs.declared.operation.Line.{Line}
pub use Rattle.stab_instructions.specs.declared.operation.Line.TheVariants.{Blank, Close, Open}
pub use Rattle.stab_instructions.specs.declared.name.Instruction.{Instruction}
pub use Rattle.stab_instructions.specs.declared.name.Name.{Name}
pub use Rattle.stab_instructions.specs.declared.operation.Kind.{Kind}
pub use Rattle.stab_instructions.specs.declared.operation.Measurement.{Measurement}
pub use Rattle.stab_instructions.specs.declared.operation.Operation.{Operation}
pub use Rattle.stab_instructions.specs.declared.product.Factor.{Factor}
pub use Rattle.stab_instructions.specs.declared.range.MeasureTarget.{MeasureTarget}
pub use Rattle.stab_circuit.specs.inner.FrontTargets.{BeginsWithTarget, begun_with, second_of, follows}
pub use Rattle.stab_circuit.specs.inner.Numbers.{is_word_end, BeginsWithNumber, IsAfterWord}
pub use Rattle.stab_circuit.specs.inner.Parts.{is_coordinate, after_coordinates}
pub use Rattle.stab_circuit.specs.inner.PlainLines.{EndsLine, paired_words, spaced_words, AreSpacedTargets, ReadsTargets, plain_shape, BeginsWithKind, ReadsKind, IsSpacedQubit, IsSpacedPair, AreNumbers}
pub use Rattle.std.proofs.Math.Seq.{take-append_seam}
pub use Rattle.std.proofs.lemmas.Slice.Eq.{starts_is}
pub use Rattle.std.specs.Global.{Vec}
pub use Rattle.std.specs.Prelude.{slice_get}
pub use Rattle.std.specs.Result.{IsErrAnd, IfErr}
pub use Rattle.stab_io.specs.declared.refusal.Fault.{Fault}
pub use Rattle.stab_instructions.proofs.BoolLemmas.{chosen, passed, and_left, and_right, both}
pub use lib.Dec.{eqb}
pub use Rattle.stab_items.specs.Circuits.{Meaning, at_line, meaning_after, one_item, depth_after, ends_item, line_meanings, Joins, nothing, blank_line, operation_line, block_lines, fault_from, text_fault, StandsFor, most_bytes, contents, meanings, is_empty, item_fault, StandsForOne, limited, AreLinesOf}
pub use Rattle.stab_items.specs.Items.{OneItem, Items, operation, repeat, done, next, block, before, listed, join, depth, entries, AreGood}
pub use Rattle.stab_items.specs.Nothings.{IsNothing}
pub use Rattle.stab_items.specs.Prints.{PrintedLine, printed_lines, text_of, printed}
pub use Rattle.stab_items.specs.Steps.{named_qubits, named_observables, Step, rounds, unroll, looks_too_far, past_named, qubits_of, observables_of, most_steps, check_within}
unfoldable pub use Rattle.stab_items.specs.Steps.{check_of}
pub use Rattle.stab_circuit.specs.declared.reader.OpenBlock.{OpenBlock as StoredBlock}
pub use Rattle.stab_circuit.specs.declared.stretches.Run.{Run}
pub use Rattle.stab_circuit.specs.declared.stretches.Stretch.{Stretch}
pub use Rattle.stab_circuit.specs.inner.KnownLines.{IsOneLine, IsCut, BeginsWithItem, IsKnownLine, IsMeant}
pub use Rattle.stab_circuit.specs.inner.Readers.{Progress, is_whole, meaning_at, OpenBlock, closed, stepped, finished, read_on, is_some_items, pending, ReadsItems, IsShallowProgress, open_block_of, open_blocks_of, stored_progress, closing, progress_of, reading, before_reading}
pub use Rattle.stab_items.specs.Edits.{outermost, with_item, rebuilt, edited_inside, changed, edited_in, edited, taken_in, taken, list_verdict, verdict, inner, edit_path, taken_at, put_item, steps_in, steps_before, first_changed, after_taken, after_put}
pub use Rattle.stab_circuit.specs.inner.Stretches.{Ran, reading_on, read_outside, ReadsAhead, items_of, IsLineStretch, KeepsStretches, IsRunOf, IsLineRun, IsEnded, RunsOn, AreLineStretches}
pub use Rattle.stab_instructions.proofs.LackLemmas.{Each, each-append, Lacks, lacks-append, lacks_spaces, lacks_any, any_lacking, split_lacking}
pub use Rattle.stab_instructions.proofs.GoodLineLemmas.{line_good}
pub use Rattle.stab_instructions.specs.Rules.{IsGoodKind, IsGoodLine, IsTag}
pub use Rattle.std.proofs.lemmas.Option.{slice_get_within}
pub use Rattle.stab_io.proofs.DeviceLemmas.{gave_more}
pub use Rattle.stab_io.specs.Devices.{InputView, Gave}
pub use Rattle.stab_io.specs.Refusals.{whole, Refuses, IsCallFault}
pub use Rattle.stab_items.proofs.ItemLemmas.{listed-append, depth-join, join_done, join_assoc, listed_pushed, no_length}
pub use Rattle.stab_items.proofs.SummaryLemmas.{past_named-join}
pub use Rattle.stab_circuit.specs.Inputs.{GaveTooMuch, GaveFront, ReadsText}
pub use Rattle.stab_circuit.specs.Laws.{StandsForOneOnly, AreOfLines, IsReadBack, PutsLines}
pub use Rattle.stab_items.specs.Paths.{Path}
pub use Rattle.stab_items.specs.Views.{circuit_items}
pub use Rattle.stab_circuit.specs.Readings.{IsCircuit, IsFaultOf, IsRefused, has_line, ReadsCircuit, HasLine, is_of_circuit, is_of_item}
pub use Rattle.stab_items.specs.Rounds.{interleaved, rounds_in, round_pieces, pieces_in, pieces, HaveRounds, item_steps, steps_between, ChangesEachRound}
pub use Rattle.stab_items.specs.Splits.{parts_of_block, parts_of_item, with_parts, split_in, split, rounds_as_block}
pub use Rattle.stab_items.specs.declared.edit.Edit.{Edit}
pub use Rattle.stab_items.specs.declared.edit.Edit.TheVariants.{Insert, Replace, Delete}
pub use Rattle.stab_items.specs.inner.Gaps.{block_pieces}
pub use Rattle.stab_items.proofs.LineDistinctLemmas.{each_left, each_right, joined_distinct}
pub use Rattle.stab_items.proofs.EditLemmas.{steps-append, steps_split, put_in, changed_split, changed_before, changed_after, after_put_is, Rebuilds, rebuilds, next_position, listed-entries, got_split, if_ok, lt_holds, edits_leave}
pub use Rattle.stab_items.proofs.UndoLemmas.{found, front_size, new_parts, new_inner, old_inner, around, old_parts, edited_new, edited_old, deleted, replace-retaken}
pub use Rattle.stab_items.proofs.PieceLemmas.{Stands, steps-pieces}
pub use Rattle.stab_items.proofs.GapPartLemmas.{nothing_left, got_taken, pieces-outer, pieces-block}
pub use Rattle.stab_items.proofs.SplitLemmas.{split_alike}
pub use Rattle.stab_items.proofs.StepPathLemmas.{length-paths}
