-- What the proofs of this crate take from std, from crates below and from its definitions.
pub use Rattle.std.proofs.Common.{◌≡◌, ℕ, ◌+◌, refl, sym, ap, ◌∙◌, subst, List, [], ◌∷◌, ◌++◌, append_assoc, append-nil, map, take, drop, get_or, length, ◌<◌, Option, Some, false, arith, rules, ◌*◌, ◌≤◌, Bool, true, zero, suc, ◌⊎◌, ◌≢◌, inl, inr, take-append-drop, ◌-◌, not, true≢false, Ok, Err}
pub use Rattle.std.proofs.Math.Seq.{drop-append_seam}
pub use Rattle.std.proofs.lemmas.Bool.{cases_lt, ne_eqb, cases_eq, eqb-true, eq-eqb, lt-ltb, le-ltb}
pub use Rattle.std.proofs.lemmas.Bool.Decides.{nat_tests}
pub use Rattle.std.proofs.lemmas.List.{map-append, drop-drop, take_more, get_or-map, get_or_past, length-map, length-append, drop_more, get_or_default, take_all, drop_all, length-take-le}
pub use Rattle.std.proofs.lemmas.List.Concat.{flat_map-append}
pub use Rattle.std.proofs.lemmas.List.Elements.{All-append, All-cons, All-nil, All-head, All-tail, All-contains, All-drop, All-weaker, All-map, Contains-get_or, Contains-append_left, Contains-append_right}
pub use Rattle.std.proofs.lemmas.Fn.{filter_same}
pub use Rattle.std.proofs.lemmas.Result.{IfOk-weaker}
pub use Rattle.std.specs.List.{flat_map}
pub use Rattle.std.specs.Option.{unwrap_or}
pub use Rattle.std.specs.Result.{IsErrAnd}
pub use Rattle.std.specs.Prelude.{All, None, Result, IfOk, IfSome, Contains, ◌&&◌, ◌||◌, slice_index_or, ◌==◌, if◌then◌else◌, bytes_eq, codes}
pub use Rattle.stab_items.specs.StepValues.{step_shown}
pub use Rattle.stab_items.specs.Items.{Items, OneItem, next, block, join, done, before, listed, repeat, depth_of as nested_in, depth}
pub use Rattle.stab_items.specs.Steps.{Step, one, two, controlled, collapse, product, detector, observable, makes, records_of, HasDistinctQubits, unroll, detectors_of, steps_of, rounds, controlled_step, measured, measured_product, check_of, most_steps, observables_of}
pub use Rattle.stab_items.specs.Views.{circuit_items}
pub use Rattle.stab_search.proofs.PartLemmas.{graphlike-up_to}
pub use Rattle.stab_search.proofs.ShortestLemmas.{none-up_to}
pub use Rattle.stab_parities.specs.Ascending.{AscendsFrom, IsAscending}
pub use Rattle.stab_search.specs.Counts.{HasNoneBelow, IsLogicalSetOf, AreAsMany, IsCountOfSets}
pub use Rattle.stab_search.specs.Graphlike.{IsGraphlike, IsGraphlikeError, IsLeastGraphlike, HasNoGraphlikeWithin, IsGraphlikeAnswer}
pub use Rattle.stab_search.specs.LogicalErrors.{HasNoneWithin, IsLeastAnswer, IsLogicalError, IsLeast, HasNone, HasSome}
pub use Rattle.stab_search.specs.Progress.{Heard, begins, Hears, numbers_up_to, IsExcludedBy, ReportsSearch}
pub use Rattle.stab_parities.specs.OddNumbers.{odd, row}
pub use Rattle.stab_search.specs.declared.answer.Answer.{Answer}
pub use Rattle.stab_search.specs.declared.answer.Answer.TheVariants.{Least, NoneWithin, NoneAtAll}
pub use Rattle.stab_gates.proofs.ParityLemmas.{parity-assoc, parity-false}
pub use Rattle.stab_gates.specs.Letters.{◌⊕◌, letters_anticommute}
pub use Rattle.stab_gates.specs.declared.gate.Gate.{Gate}
pub use Rattle.stab_gates.specs.declared.letter.Letter.{Letter}
pub use Rattle.stab_gates.specs.declared.gate.PairGate.{PairGate}
pub use Rattle.stab_gates.specs.declared.letter.Letter.TheVariants.{I, X, Y, Z}
pub use Rattle.stab_items.proofs.ItemLemmas.{listed-append, listed_pushed, depth_at}
pub use Rattle.stab_items.proofs.StepLemmas.{length-rounds, unroll-join}
pub use Rattle.stab_items.proofs.SummaryLemmas.{few_steps}
pub use Rattle.stab_items.specs.inner.Parts.{part_of}
pub use Rattle.stab_jobs.specs.declared.job.ErrorLetters.{ErrorLetters}
pub use Rattle.stab_instructions.specs.Axes.{letter_of}
pub use Rattle.stab_instructions.specs.Products.{is_on, names_twice}
pub use Rattle.stab_instructions.specs.declared.axis.Axis.{Axis}
pub use Rattle.stab_instructions.specs.declared.control.ControlledPair.{ControlledPair}
pub use Rattle.stab_instructions.specs.declared.operation.Kind.{Kind}
pub use Rattle.stab_instructions.specs.declared.operation.Operation.{Operation}
pub use Rattle.stab_instructions.specs.declared.product.Factor.{Factor}
pub use Rattle.stab_regions.proofs.AscentLemmas.{where-same, ascending-is, ascends-below}
pub use Rattle.stab_regions.proofs.DetectorLemmas.{fits-front, fits-back}
pub use Rattle.stab_regions.proofs.SingleErrorSumLemmas.{single_error-fits, odd-where, row-names}
pub use Rattle.stab_regions.proofs.SingleErrorTableLemmas.{deterministic-found}
pub use Rattle.stab_regions.proofs.MoveLemmas.{long-parity}
pub use Rattle.stab_regions.proofs.PassLemmas.{first_image, second_image, none-flips, y-flips, end-flips, one-flips, one-other, first-flips, second-flips, pair-other, controlled-passes, detector-passes, observable-passes, collapse-other, product-other, unrecorded-passes, reset-passes, reset-stops, wrong-measured, wrong-reset, wrong-product}
pub use Rattle.stab_regions.proofs.ShowLemmas.{bits-letter}
pub use Rattle.stab_regions.proofs.NegatedLemmas.{AreNegated, collapse-negated, product-negated, negated-front, preserved-last, preserved-following, count-following, count-least, named_there}
pub use Rattle.stab_regions.specs.SingleErrorLaws.{SingleErrorFits, flips_together, SingleErrorsAdd, DeterministicParities, DeterministicParityBits, SitesFlipDeterministicParities}
pub use Rattle.stab_regions.specs.SingleErrors.{Site, SingleError, single_error_on, single_errors_on, in_front, following, bits_in, IsDeterministic, AreDeterministic, flips, single_errors_of, single_error_at, numbers_where, IsSingleErrorTable, flipped_by_single_error, single_errors_from, marked_at, sites_at, with_gates, bit}
pub use Rattle.stab_regions.specs.Parities.{parity_region, parity_preserved, parity_flips, parity_deterministic}
pub use Rattle.stab_regions.specs.Rows.{bits_at}
pub use Rattle.stab_run.proofs.FitLemmas.{check-fits}
pub use Rattle.stab_run.specs.ProgramStates.{StepFits}
pub use Rattle.stab_run.specs.Runs.{flip_of}
pub use Rattle.stab_tableau.proofs.OneLetterLemmas.{one_letter-anticommute}
pub use Rattle.stab_tableau.proofs.TestLemmas.{and-left}
pub use Rattle.stab_tableau.specs.Gates.{letter_at as letter_of_string, letter_image}
pub use Rattle.stab_tableau.specs.Traces.{diagonal}
pub use Rattle.stab_error_model.specs.ErrorTables.{ErrorTableState, IsErrorTable, flip_together, flipped_by_error, flip_each, ErrorsAdd, StepsInside}
pub use Rattle.stab_error_model.specs.Errors.{Error, each_letter, each_product, errors_at, letters_asked, wrong_record, single_errors_in, Marks, instruction_rounds, instructions, is_idle, marks_by, marks_from, marks_of, each_target, each_two_targets, letter, pairs_asked, product_at, wrong_product, errors_from, letters_left, errors_marked, errors_of, first_single_error, letters}
pub use Rattle.stab_error_model.specs.EverywhereLaws.{inverted_once, with_inverted, FlipAlike}
pub use Rattle.stab_error_model.specs.Parts.{letter_parts, GivesParts, AreSplit, AreSearched, parts_of_error, single_error_parts}
pub use Rattle.stab_error_model.specs.Placed.{single_error_of_letter, error_shown, single_error_shown, single_errors_shown}
pub use Rattle.stab_error_model.specs.Unseen.{IsDistance, AreUnseen, FlipsTwo, AreUnseenOf, error_at, errors_at_numbers, NoneUnseen, NoneUnseenWithin, SomeUnseen, IsWithinAsked, IsAskedFor, IsLeastSet, IsSetCount, ReportsUnseen}
pub use Rattle.stab_error_model.specs.declared.marks.Marks.{Marks as MarksValue}
pub use Rattle.stab_error_model.specs.declared.placed.Error.{Error as ErrorValue}
pub use Rattle.stab_error_model.specs.declared.placed.ErrorSite.{ErrorSite}
pub use Rattle.stab_error_model.specs.declared.placed.PlacedLetter.{PlacedLetter}
pub use Rattle.stab_error_model.specs.inner.ErrorLists.{Stands, ErrorStands, AddsErrors, HasFrom, IsUnderWay}
pub use Rattle.stab_error_model.specs.inner.ErrorRows.{letter_flips, error_names, IsErrorRow, AreErrorRows, RowsAscend}
pub use Rattle.stab_error_model.specs.inner.Everywhere.{factor_errors, factor_single_errors, measured_errors, back_of, reset_errors, step_single_errors}
pub use Rattle.stab_error_model.specs.inner.Marked.{target_single_errors, marked_single_errors, marks_shown}
pub use Rattle.stab_error_model.specs.inner.RowParts.{IsSplitByRow, SplitByRows, AreSplitByRows, AreSearchedByRows}
pub use Rattle.stab_error_model.specs.inner.Observed.{is_searched_number, retained_row, with_observable, IsLogicalOf}
