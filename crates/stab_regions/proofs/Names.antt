-- What the proofs of this crate take from std, from crates below and from its definitions.
pub use Rattle.std.proofs.Common.{◌≡◌, ℕ, zero, suc, ◌+◌, ◌<◌, ◌≤◌, refl, sym, ap, ◌∙◌, subst, Bool, true, false, List, [], ◌∷◌, ⊎_elim, arith, ◌&&◌, map, get_or, ◌-◌, ◌⊎◌, inl, inr, ◌++◌, lt-ltb, le-ltb, length, ◌||◌, take, drop, drop-cons, set, ◌↔◌, append_assoc, ne_eqb, reverse, ◌≢◌, ◌*◌, append-nil, length-take-le, not, Vec, eqb-true, ◌^◌, min, add-zero, zero-add, rules}
pub use Rattle.std.proofs.Math.Bool.{and-false}
pub use Rattle.std.proofs.Math.ListN.{drop_of_length-le}
pub use Rattle.std.proofs.Math.Seq.{get_or-append_seam, take-suc, take-length}
pub use Rattle.std.proofs.lemmas.Bool.{cases_eq, cases_lt, cond-true, cond-false, eqb-false, eq-eqb, and_from, not-false}
pub use Rattle.std.proofs.lemmas.Bool.Decides.{nat_tests}
pub use Rattle.std.proofs.lemmas.Fn.{filter_same}
pub use Rattle.std.proofs.lemmas.List.{get_or_append_left, get_or-append_right, get_or-set_other, take-append-drop, length-append, get_or-map, length-map, get_or-set_same, drop-drop, map-append, get_or_past, length-replicate, get_or-replicate, length-set, set-get_or, length-drop, length-take, drop_all, take-append-le, drop-append-le, take_all, take_at, drop_at, drop_more, take_more_set, drop-set-lt, nil_from_length, drop-map, take_more, get_or-append-add, with_items_is, length-reverse, get_or-reverse, map_push, length_push}
pub use Rattle.std.proofs.lemmas.List.Concat.{flat_map-append}
pub use Rattle.std.proofs.lemmas.List.FromFn.{length-map-range_with_len, get_or-map-range_with_len}
pub use Rattle.std.proofs.lemmas.List.Elements.{All-nil, All-cons, All-append, All-map, All-head, All-tail, All-get_or, All-weaker, filter-append, All-take, All-drop}
pub use Rattle.std.specs.List.{flat_map, list_any, range_with_len}
pub use Rattle.std.specs.Prelude.{Option, Some, ◌==◌, if◌then◌else◌, All, nat_lt, slice_index_or, replicate, Result, Ok, Err, OnOk, slice_set, None, slice_index}
pub use Rattle.std.specs.Vec.{with_items}
pub use Rattle.stab_items.specs.StepValues.{step_shown}
pub use Rattle.stab_items.specs.Items.{Items, done, next, block}
pub use Rattle.stab_items.specs.Steps.{Step, one, two, collapse, detector, observable, measured, product as measured_product, controlled_step, steps_of, rounds, unroll, past, named_observables, observables_of, detectors_of, controlled, product, is_detector, factor_qubits, check_of, HasDistinctQubits}
pub use Rattle.stab_items.specs.Views.{circuit_items}
pub use Rattle.stab_parities.proofs.AscendingLemmas.{named-ascending}
pub use Rattle.stab_parities.proofs.MergeLemmas.{odd-append}
pub use Rattle.stab_parities.specs.Ascending.{AscendsFrom, IsAscending}
pub use Rattle.stab_frames.proofs.ImageLemmas.{first_by, second_by, first_controlled, second_controlled}
pub use Rattle.stab_frames.proofs.SignLemmas.{sign-sign, product-sign_right, product-sign_left, back-letter}
pub use Rattle.stab_frames.specs.Images.{has_both, exchanges, controlled_letter}
pub use Rattle.stab_gates.proofs.ParityLemmas.{parity-comm, parity-false, parity-twice, parity-assoc, parity-mid, parity-self}
pub use Rattle.stab_gates.specs.Letters.{◌⊕◌, letter_product, letters_anticommute}
pub use Rattle.stab_gates.specs.declared.gate.Gate.{Gate}
pub use Rattle.stab_gates.specs.declared.gate.PairGate.{PairGate}
pub use Rattle.stab_gates.specs.declared.letter.Letter.{Letter}
pub use Rattle.stab_gates.specs.declared.letter.Letter.TheVariants.{I, X, Y, Z}
pub use Rattle.stab_instructions.specs.Axes.{letter_of}
pub use Rattle.stab_instructions.specs.Products.{is_on, names_twice}
pub use Rattle.stab_instructions.specs.declared.axis.Axis.{Axis}
pub use Rattle.stab_instructions.specs.declared.control.ControlledPair.{ControlledPair}
pub use Rattle.stab_instructions.specs.declared.operation.Kind.{Kind}
pub use Rattle.stab_instructions.specs.declared.product.Factor.{Factor}
pub use Rattle.stab_pauli.proofs.SignedLemmas.{signed_path, anticommute-product, anticommute-comm, length-product, product-self}
pub use Rattle.stab_pauli.proofs.StringLemmas.{strings_anticommute-blank_right, string_product-assoc, string_product-blank, strings_anticommute-product, strings_anticommute-blank, get_or-string_product, strings_anticommute-self}
pub use Rattle.stab_pauli.specs.Paulis.{single, anticommute, Signed, strings_anticommute, string_product, minus, with_sign, product as times, identity}
pub use Rattle.stab_pauli.specs.Phaseds.{plain}
pub use Rattle.stab_run.proofs.CoinLemmas.{coins-append}
pub use Rattle.stab_run.proofs.FitLemmas.{max-left, max-right, check-steps, check-fits, check-whole}
pub use Rattle.stab_run.proofs.LookbackLemmas.{or-left, or-right}
pub use Rattle.stab_run.proofs.ProductLemmas.{length-string_of}
pub use Rattle.stab_run.proofs.SoundLemmas.{IsGood, good-next}
pub use Rattle.stab_run.specs.Laws.{RunsArePointsWithOutputs}
pub use Rattle.stab_run.specs.Points.{Point, origin, given, next_point, outputs, all_coins_of, with_additions, coins_of, trace_after}
pub use Rattle.stab_run.specs.ProgramStates.{StepFits}
pub use Rattle.stab_run.specs.Records.{parity, looked_up}
pub use Rattle.stab_run.specs.Runs.{State, start, run, when, with_factors, string_of, gate_of, flip_of, applied_where, outcome_at, added, collapsed}
pub use Rattle.stab_tableau.proofs.RandomLemmas.{anticommuting-member}
pub use Rattle.stab_tableau.proofs.GroupLemmas.{anticommute-product_right}
pub use Rattle.stab_tableau.proofs.OneLetterLemmas.{length-one_letter, here_one_letter, off_one_letter, one_letter-anticommute}
pub use Rattle.stab_tableau.proofs.SymmetryLemmas.{IsSymmetry-image, IsSymmetry-pair, image-length, pair-length, image-back, pair-undone}
pub use Rattle.stab_tableau.proofs.TestLemmas.{not_both, test_left, test_right, and-left, and-right, not-true}
pub use Rattle.stab_tableau.proofs.TraceLemmas.{group-member}
pub use Rattle.stab_tableau.specs.Conjugations.{IsConjugated}
pub use Rattle.stab_tableau.specs.Gates.{letter_at, letter_image, inverse, back, image, image_pair, back_pair, pair_letters, put_letter, put_letters}
pub use Rattle.stab_tableau.specs.Groups.{IsStabiliserGroup}
pub use Rattle.stab_tableau.specs.Traces.{diagonal, Event, applied, applied_pair, projected, member, outcome}
pub use mathlib.Core.List.{reverse_aux}
pub use Rattle.stab_regions.specs.SingleErrorLaws.{DeterministicParities, DeterministicParityBits, with_single_error, DiffersAsFound, SingleErrorsFlipParities, SitesFlipDeterministicParities, SingleErrorFits, flips_together, SingleErrorsAdd}
pub use Rattle.stab_regions.specs.SingleErrors.{numbers_where, bit, Site, SingleError, in_front, single_error_on, single_errors_on, single_errors_from, single_errors_of, sites_at, bits_in, IsDeterministic, IsSingleErrorTable, flips, flipped_by_single_error, single_error_at, RowsAdd, AreDeterministic, with_gate, gates_at, with_gates_from, with_gates, following, marked_at, all_at}
pub use Rattle.stab_regions.specs.Frames.{SingleErrorFrame, single_error_frame_after, flipped_coins, all_flipped_coins, flipped_from, flipped_with}
pub use Rattle.stab_regions.specs.Laws.{bit_asked, DeterministicBits, RandomBits}
pub use Rattle.stab_regions.specs.Parities.{detectors_before, parity_region, parity_preserved, parity_deterministic, parity_bit, parity_flips}
pub use Rattle.stab_regions.specs.Regions.{region_of, region_through, keep_region, asks_nothing, asks_observable, is_deterministic, names_newest, product_where, earlier, look_where, Region, region_before, with_looks, keeps_region, before_measured, deterministic_bit}
pub use Rattle.stab_regions.specs.Rows.{ShowsLetters, MovesLetters, multiplied, MovesRegion, Toggles, TogglesWhere, ShowsLooks, ShowsRegion, bits_at, SameRows}
pub use Rattle.stab_parities.specs.OddNumbers.{odd, row}
pub use Rattle.stab_regions.specs.Tables.{steps_before_detector, named_by, region_of_detector, named_by_detector}
pub use Rattle.stab_regions.specs.declared.sites.Asked.{Asked}
pub use Rattle.stab_regions.specs.declared.sites.Asked.TheVariants.{Nowhere, Marked, Everywhere}
pub use Rattle.stab_regions.specs.declared.sites.Sides.{Sides}
pub use Rattle.stab_regions.specs.declared.counts.Counts.{Counts}
pub use Rattle.stab_regions.specs.declared.region_rows.RegionRows.{RegionRows}
pub use Rattle.stab_regions.specs.declared.sweep.Sweep.{Sweep}
pub use Rattle.stab_regions.specs.declared.walk.RegionWalk.{RegionWalk}
pub use Rattle.stab_regions.specs.inner.Inserted.{Inserted, inserted_from, inserted_on, inserted_at, inserted_by}
pub use Rattle.stab_regions.specs.inner.Passes.{NamesBelow, numbers_before, FitsCounts, MayPass, StandsAfter, GoesBefore}
pub use Rattle.stab_regions.specs.inner.RegionsAt.{AreRowsSized, IsRegionsAt, DetermineDeterministic, HasParity, asked_of, MovesTo}
pub use Rattle.stab_regions.specs.inner.RowMoves.{ShowsNumber, in_front_of, asked_about, HasOwn, HasNumbers, BeginsRecord, corrected_by, MovesRows}
pub use Rattle.stab_regions.specs.inner.Sites.{where_asked, sites_asked, step_qubits, sides_asked}
pub use Rattle.stab_regions.specs.inner.StoredRows.{is_stored, retained_of, rows_cut, Rises, ends_retained}
pub use Rattle.stab_regions.specs.inner.Sweeps.{IsWalkAt, parity_row, row_of, IsSwept}
