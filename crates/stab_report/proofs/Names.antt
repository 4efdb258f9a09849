-- What the proofs of this crate take from std, from crates below and from its definitions.
pub use Rattle.std.proofs.Common.{◌≡◌, refl, sym, ap, subst, ℕ, ◌+◌, ◌<◌, ◌≤◌, Bool, true, false, List, [], ◌∷◌, ◌++◌, length, drop, get_or, Some, None, Result, Ok, Err, arith, add-one, ap₂, ◌∙◌, zero, suc, ◌*◌, append_assoc, append-nil, map, codes, ◌-◌, Option, decimal, ◌==◌, replicate, take, nat_lt, if◌then◌else◌, ◌/◌, ◌%◌, set, ◌≢◌, ◌&&◌, All, ◌⊎◌, inl, inr}
pub use Rattle.std.proofs.Math.Seq.{drop-cons, take-append_seam}
pub use Rattle.std.proofs.lemmas.Bool.{ltb-true, ltb-false}
pub use Rattle.std.proofs.lemmas.Bool.Decides.{nat_tests}
pub use Rattle.std.proofs.lemmas.List.{length-append, length-map, length-replicate, length-set, get_or_default, get_or-set_other}
pub use Rattle.std.proofs.lemmas.List.Elements.{All-nil, All-cons}
pub use Rattle.std.proofs.lemmas.Option.{slice_get_within, get_or_from_slice_get, slice_get_past}
pub use Rattle.std.proofs.lemmas.Result.{err_from_is_err_and}
pub use Rattle.std.specs.List.{flat_map, range_with_len, slice_get}
pub use Rattle.std.specs.Result.{IsErrAnd}
pub use Rattle.stab_items.specs.StepValues.{step_shown}
pub use Rattle.stab_items.specs.Items.{Items}
pub use Rattle.stab_items.specs.Paths.{Path, path_text}
pub use Rattle.stab_items.specs.StepPaths.{paths_of, outside}
pub use Rattle.stab_items.specs.Steps.{Step, one, two, controlled, collapse, product, detector, observable, unroll, is_detector, detectors_of, observables_of, check_within, qubits_of}
pub use Rattle.stab_items.specs.Views.{circuit_items}
pub use Rattle.stab_search.specs.Tables.{ErrorTable}
pub use Rattle.stab_parities.specs.OddNumbers.{row}
pub use Rattle.stab_error_model.specs.ErrorTables.{ErrorTableState, IsErrorTable}
pub use Rattle.stab_error_model.specs.Errors.{Error, first_single_error}
pub use Rattle.stab_error_model.specs.Placed.{error_shown, single_error_shown}
pub use Rattle.stab_error_model.specs.Unseen.{error_at}
pub use Rattle.stab_gates.specs.LetterTexts.{letter_text}
pub use Rattle.stab_io.proofs.DeviceLemmas.{failed_within, left_more, took_more, took_and_failed, WroteUpTo, took_none, wrote_part, wrote_and_failed, failed_on, wrote_none}
pub use Rattle.stab_io.specs.Devices.{OutputView, Leaves, TookSome, TookAndFailed, Took, WritesAllOrFault, WritesAll, CutOff}
pub use Rattle.stab_io.specs.Refusals.{whole, refusal_number, refusal_name, Refuses}
pub use Rattle.stab_io.specs.declared.refusal.Fault.{Fault}
pub use Rattle.stab_io.specs.declared.refusal.Refusal.{Refusal}
pub use Rattle.stab_io.specs.declared.refusal.Refusal.TheVariants.{WriteFault, OutOfMemory}
pub use Rattle.stab_instructions.proofs.WriteLemmas.{writes_failed, writes_then}
pub use Rattle.stab_instructions.specs.declared.product.Factor.{Factor}
pub use Rattle.stab_regions.specs.SingleErrors.{SingleError, Site, single_error_on, single_errors_on, single_errors_from, sites_at, bits_in, numbers_where, single_errors_of, flipped_by_single_error, flips, IsSingleErrorTable, bit, IsDeterministic, AreDeterministic, in_front, following}
pub use Rattle.stab_regions.specs.Tables.{steps_before_detector}
pub use Rattle.stab_results.specs.Formats.{entry, shot_bytes}
pub use Rattle.stab_results.specs.declared.format.Kinds.{Kinds}
pub use Rattle.stab_run.specs.Records.{parity}
pub use Rattle.stab_run.specs.Runs.{State, start, effect, run}
pub use Rattle.stab_report.specs.FaultLines.{fault_line, refused_text, bit_text, reported_text, random_bit, random_line}
pub use Rattle.stab_report.specs.SingleErrorTables.{single_error_text, table_line, table_lines, set_all}
pub use Rattle.stab_report.specs.ItemPaths.{path_at, bit_of, adds_to, steps_before_adding, steps_before_bit}
pub use Rattle.stab_report.specs.Texts.{row_head, texts_joined, placed_coin, texts_from}
pub use Rattle.stab_report.specs.declared.random.Random.{Random}
pub use Rattle.stab_report.specs.Deterministic.{kinds_of}
pub use Rattle.stab_report.specs.Distances.{letter_name, where_text, what_text, numbered_line, line_end, count_line, error_lines, up_to, error_name}
pub use Rattle.stab_report.specs.MissingObservables.{missing_line}
pub use Rattle.stab_report.specs.declared.single_error_sites.Site.{Site as SiteValue}
pub use Rattle.stab_report.specs.declared.random.Bit.{Bit}
pub use Rattle.stab_report.specs.declared.random.Bit.TheVariants.{Detector, Observable}
pub use Rattle.stab_report.specs.inner.SingleErrorSites.{factor_sites, site_found, IsItemStretch, site_shown}
pub use Rattle.stab_report.specs.Endings.{FlushesOrFault, Sends, SendsUnflushed}
pub use Rattle.std.specs.Prelude.{IfErr, IfOk}
unfoldable pub use Rattle.stab_items.specs.Steps.{check_of}
