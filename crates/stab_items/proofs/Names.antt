-- What the proofs of this crate take from std, from crates below and from its definitions.
pub use Rattle.std.proofs.Common.{◌≡◌, ◌≤◌, ◌<◌, refl, ap, sym, ◌∙◌, ℕ, ◌+◌, zero, suc, List, [], ◌∷◌, ◌++◌, length, take, drop, get_or, arith, append_assoc, append-nil, Ok, subst, ◌-◌, Bool, true, false, Some, None, max, Err, if◌then◌else◌, codes, drop-cons, replicate, ◌*◌, nat_lt, map, All, min, ◌||◌, Bor, Option, ◌==◌, ◌⊎◌, inl, inr, Result, ◌&&◌, IfOk, set, nat_le, nat_eq, IfSome, IfNone, rules, ◌/◌, ◌%◌, slice_set}
pub use Rattle.std.proofs.Math.Seq.{take-length, drop-append-add, drop-nil}
pub use Rattle.std.proofs.lemmas.Bool.Decides.{nat_tests, Decides-eqb}
pub use Rattle.std.proofs.lemmas.List.{take_more, drop-append-le, length-append, length-take-le, take-append-drop, replicate-append-replicate, length-map, take_all, take-map, drop-map, drop-drop, map_more, get_or_default, map-append, take-append-le, set-set, set_split, take_at, drop_at, take-take, drop-set-lt, drop_min, drop-take, length-take, drop_more, drop_all, length-replicate, drop-replicate, length-drop, take_more_set, length-set, take_more_same, get_or_read}
pub use Rattle.std.proofs.lemmas.List.Elements.{All-nil, All-cons, All-append, All-map, All-head, All-tail}
pub use Rattle.std.proofs.lemmas.Result.{err_from_is_err_and, on_ok_weaker, IfErr-weaker}
pub use Rattle.std.specs.List.{slice_get, list_any, list_all, join_with_byte, insert, remove, flat_map}
pub use Rattle.stab_gates.specs.Limits.{most_qubits}
pub use Rattle.stab_gates.specs.declared.gate.Gate.{Gate}
pub use Rattle.stab_io.proofs.DeviceLemmas.{took_more, took_none}
pub use Rattle.stab_io.specs.Devices.{Took}
pub use Rattle.stab_io.specs.declared.refusal.Refusal.TheVariants.{LookbackTooFar, TooManySteps, TooDeep, OutOfMemory, PlaceOutOfRange, QubitOutOfRange}
pub use Rattle.stab_instructions.proofs.WriteLemmas.{writes_failed, writes_then, writes_as, took_as, written_more, written_failed, HasWritten}
pub use Rattle.stab_instructions.specs.Axes.{letter_of}
pub use Rattle.stab_instructions.specs.Limits.{most_lookback}
pub use Rattle.stab_instructions.specs.Lines.{content_of}
pub use Rattle.stab_instructions.specs.Lookbacks.{IsLookback}
pub use Rattle.stab_instructions.specs.Meanings.{meaning_of}
pub use Rattle.stab_instructions.specs.Prints.{operation_text, open_text}
pub use Rattle.stab_instructions.specs.Targets.{pair_qubits}
pub use Rattle.stab_instructions.specs.declared.axis.Axis.{Axis}
pub use Rattle.stab_instructions.specs.declared.control.ControlledPair.{ControlledPair}
pub use Rattle.stab_instructions.specs.declared.operation.Line.TheVariants.{Close}
pub use Rattle.stab_instructions.specs.declared.operation.Kind.{Kind}
pub use Rattle.stab_instructions.specs.declared.operation.Kind.TheVariants.{Tick}
pub use Rattle.stab_instructions.specs.declared.operation.Measurement.{Measurement}
pub use Rattle.stab_instructions.specs.declared.operation.Operation.{Operation}
pub use Rattle.stab_instructions.specs.declared.product.Factor.{Factor}
pub use Rattle.stab_instructions.specs.declared.range.MeasureTarget.{MeasureTarget}
pub use Rattle.stab_items.specs.Circuits.{Meaning, line_meanings, Joins, nothing, blank_line, operation_line, block_lines}
pub use Rattle.stab_items.specs.Items.{OneItem, Items, operation, repeat, done, next, block, before, listed, join, depth, depth_of, depth_of as nested_in, AreGood, entries}
pub use Rattle.stab_items.specs.Nothings.{IsNothing}
pub use Rattle.stab_items.specs.Prints.{PrintedLine, printed_lines, line_text, text_of, printed_in}
pub use Rattle.stab_items.specs.Steps.{steps_of, past, named_qubits, named_observables, Step, one, two, collapse, detector, observable, measured, measured_product, controlled_step, rounds, unroll, HasDistinctQubits, detector_in, detector_of, makes, records_of, is_detector, detectors_of, lookbacks, looks_too_far, target_qubits, factor_qubits, product_qubits, controlled_qubits, past_named, qubits_of, observables_of, is_inverted, LooksWithin, most_steps, check_within}
unfoldable pub use Rattle.stab_items.specs.Steps.{check_of}
pub use Rattle.stab_items.specs.declared.summary.Summary.{Summary}
pub use Rattle.stab_items.specs.inner.StoredSummaries.{shown, IsStored}
pub use Rattle.stab_items.specs.inner.Margins.{margin_depth}
pub use Rattle.stab_items.specs.inner.Summaries.{greatest, window, looks_back, furthest, steps_summary, kind_summary_of, summary_of, followed_by, repeated, judged, IsSummary, IsSumOf}
pub use Rattle.stab_gates.specs.Letters.{◌⊕◌}
pub use Rattle.stab_instructions.proofs.GoodLineLemmas.{line_good}
pub use Rattle.stab_instructions.specs.Rules.{Each, IsTag, IsQubit, IsMeasured, IsCount, IsPair, IsControlled, IsProduct, IsGoodKind, IsGoodLine}
pub use Rattle.stab_instructions.specs.Laws.{IsLine}
pub use Rattle.stab_items.specs.Detectors.{detects, lookbacks_at}
pub use Rattle.stab_items.specs.StepValues.{step_shown, steps_shown, lookbacks_of}
pub use Rattle.std.proofs.lemmas.Bool.{or_parts, or_from, ltb-true, OnTrue_from, lt-ltb}
pub use Rattle.std.specs.Cmp.Lexicographic.{pointwise}
pub use Rattle.std.specs.Prelude.{vec_capacity}
pub use Rattle.stab_io.specs.declared.refusal.Fault.{Fault}
pub use Rattle.stab_io.specs.declared.refusal.Refusal.{Refusal}
pub use Rattle.stab_items.specs.declared.circuit.stretches.Stretch.{Stretch}
pub use Rattle.stab_items.specs.Edits.{outermost, with_item, rebuilt, edited_inside, changed, edited_in, edited, taken_in, taken, list_verdict, verdict, inner, edit_refusal, list_refusal, edit_path, taken_at, steps_in, steps_before, first_changed, after_taken, after_put, old_end, new_end, IsInsert, LeavesTheRest}
pub use Rattle.stab_items.specs.StepPaths.{outside, within, path_rounds, paths_from, paths_of, item_steps_left}
pub use Rattle.stab_items.specs.inner.Stretches.{AreStretches, WereStretches, items_in}
pub use Rattle.std.proofs.Math.Nat.{div-lt_iff_lt-mul, div-add-mod, mod-lt}
pub use Rattle.std.proofs.lemmas.Option.{slice_get_within, slice_get-get_or}
pub use Rattle.std.specs.Bool.{beq, OnTrue}
pub use Rattle.std.specs.Fmt.{decimal}
pub use Rattle.std.specs.Option.{is_some, unwrap_or}
pub use Rattle.std.specs.Result.{OnOk, OnErr}
pub use Rattle.stab_io.specs.Refusals.{whole, IsCallFault}
pub use Rattle.stab_items.specs.inner.Blocks.{with_body}
pub use Rattle.stab_instructions.specs.contracts.axis.Axis.{the_type}
pub use Rattle.stab_instructions.specs.declared.control.ControlledPair.TheVariants.{Qubits, Record}
pub use denote.Enum.Bare.{same_true, sameb}
pub use Rattle.stab_items.specs.Paths.{Path, numbers, slash, path_text}
pub use Rattle.stab_items.specs.ItemsAt.{item_there, found_inside, item_in, item_at, FindsItem}
pub use Rattle.stab_items.specs.Repeats.{IsRepeat, AreRepeats, repeated_blocks}
pub use Rattle.stab_items.specs.Rounds.{interleaved, rounds_in, round_pieces, pieces_in, pieces, HaveRounds, item_steps, AreGaps}
pub use Rattle.stab_items.specs.Splits.{parts_of_block, parts_of_item, with_parts, split_in, split, rounds_as_block, refused_by, split_refusal, AreAlike}
pub use Rattle.stab_items.specs.Views.{circuit_items}
pub use Rattle.stab_items.specs.declared.circuit.repeats.Repeat.{Repeat}
pub use Rattle.stab_items.specs.declared.detectors.Detectors.{Detectors}
pub use Rattle.stab_items.specs.declared.edit.Edit.{Edit}
pub use Rattle.stab_items.specs.declared.edit.Edit.TheVariants.{Insert, Replace, Delete}
pub use Rattle.stab_items.specs.declared.judge.EditResult.{EditResult}
pub use Rattle.stab_items.specs.declared.judge.Judgement.{Judgement}
pub use Rattle.stab_items.specs.declared.walk.Level.{Level}
pub use Rattle.stab_items.specs.declared.walk.Walk.{Walk}
pub use Rattle.stab_items.specs.inner.Changes.{ListChange, changed_in, parts_at, with_parts_at, AreAsDeep, AreBefore}
pub use Rattle.stab_items.specs.inner.EditResults.{steps_within, PutsGood, IsGoodList, edit_result_by, IsEditResult}
pub use Rattle.stab_items.specs.inner.Gaps.{block_pieces, with_more, copies, round_gaps, AreGapsIn, AreGapsInside}
pub use Rattle.stab_items.specs.inner.Judgements.{IsShallow, IsShallowItem, BeginsWith, judgement_of, summed, block_refusal, shown_item}
pub use Rattle.stab_items.specs.inner.Repeats.{first_with_steps, finer_by, finer, repeat_as, repeats_in}
pub use Rattle.stab_items.specs.inner.Splices.{Splice, splice_at, splice_block, splice_of, spliced, IsWithin}
pub use Rattle.stab_items.specs.inner.Walks.{kind_steps, walk_left, levels_left, ahead, weight, weight_at, walk_weight, SameKind, Takes, level_left, IsNested, level_weight, levels_weight, IsWalk}
