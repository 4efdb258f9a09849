-- What the proofs of this crate take from std, from crates below and from its definitions.
pub use Rattle.std.proofs.Common.{◌≡◌, ◌<◌, ◌≤◌, ◌^◌, refl, ap, sym, ◌∙◌, subst, ℕ, ◌-◌, ◌==◌, ◌&&◌, ◌||◌, nat_le, nat_lt, List, [], ◌∷◌, ◌++◌, Bool, true, false, not, length, take, filter, map, append_assoc, append-nil, arith, codes, if◌then◌else◌, Some, Result, Ok, Option, ◌+◌, suc, drop, ◌⊎◌, inl, inr, None, Err, All, get_or, drop-cons, length-drop, zero, take_all, reverse, replicate, length-take, ◌≢◌, ◌*◌, add-one, rules}
pub use Rattle.std.proofs.Math.Seq.{take-append-add}
pub use Rattle.std.proofs.lemmas.Bool.{or_parts, not-false}
pub use Rattle.std.proofs.lemmas.Bool.Decides.{nat_tests}
pub use Rattle.std.proofs.lemmas.List.{length-append, take-append-drop, reverse-append, drop_all, take_more}
pub use Rattle.std.proofs.lemmas.List.Elements.{All-cons}
pub use Rattle.std.proofs.lemmas.List.Folds.{list_any-append}
pub use Rattle.std.proofs.lemmas.List.Splits.{slice_split-cons_yes, length-slice_split, slice_split-cons_no, slice_split_first, slice_split_none}
pub use Rattle.std.proofs.lemmas.List.Sums.{prefix_len_stops, prefix_len-le-length, fails_before_first}
pub use Rattle.std.proofs.lemmas.Result.{err_from_is_err_and}
pub use Rattle.std.proofs.lemmas.Str.Parse.{IsNumeralModel, numerals_by_fold, IsDigitsTest, digits_value_short}
pub use Rattle.std.specs.Fmt.{decimal}
pub use Rattle.std.specs.List.{slice_split, list_all, list_any, prefix_len, onto_first, position_or_len, before_first, after_first, suffix_len, take_while}
pub use Rattle.std.specs.Option.{option_copied}
pub use Rattle.stab_gates.specs.Limits.{most_qubits}
pub use Rattle.stab_io.proofs.DeviceLemmas.{took_more, took_and_failed, failed_within}
pub use Rattle.stab_io.specs.Devices.{OutputView, Took, TookAndFailed, WritesAll}
pub use Rattle.stab_io.specs.declared.refusal.Refusal.{Refusal}
pub use Rattle.stab_io.specs.declared.refusal.Refusal.TheVariants.{BadArguments, BadTarget, BadLine, BadPairing, WriteFault}
pub use Rattle.stab_instructions.specs.Axes.{first_axis}
pub use Rattle.stab_instructions.specs.Controls.{by_turns, paired, controlled_of, pair_of}
unfoldable pub use Rattle.stab_instructions.specs.Controls.{control_of}
pub use Rattle.stab_instructions.specs.Laws.{IsLine}
pub use Rattle.stab_instructions.specs.Limits.{most_observables, most_lookback}
pub use Rattle.stab_instructions.specs.Lines.{is_byte, is_digit, is_spacing, trimmed, starts_with_byte, ends_with_byte, is_brace, trimmed_front, Shape, after_tag, shaped, has_byte, is_letter, is_name_byte, without_brace}
unfoldable pub use Rattle.stab_instructions.specs.Lines.{may_follow, shape_of, content_of, bracketed}
pub use Rattle.stab_instructions.specs.Lookbacks.{IsLookback}
pub use Rattle.stab_instructions.specs.Meanings.{shape_meaning, is_close, targets_alone, opening_of, only_count, coordinates_of}
unfoldable pub use Rattle.stab_instructions.specs.Meanings.{kind_of, named_line, meaning_of, block_of, observable_include_of}
unfoldable pub use Rattle.stab_instructions.specs.Names.{name_of}
pub use Rattle.stab_instructions.specs.Prints.{each_after, after_space, arguments_text, kind_arguments, targets_text, factor_text, tag_text}
pub use Rattle.stab_instructions.specs.Products.{unmarked, factor_on, names_twice, on_different}
unfoldable pub use Rattle.stab_instructions.specs.Products.{is_factor, factor_of, product_of}
pub use Rattle.stab_instructions.specs.Results.{◌>>=◌, each}
pub use Rattle.stab_instructions.specs.Targets.{lookback_digits, is_lookback, pairs_of, is_coordinate_byte, one_argument}
unfoldable pub use Rattle.stab_instructions.specs.Targets.{qubit_of, measure_target_of, lookback_of, count_of, coordinate_of, observable_of, number_of}
pub use Rattle.stab_instructions.specs.Words.{words, is_some_word, is_blank, arguments_of, is_number, value, pieces_after, value_from}
pub use Rattle.stab_instructions.specs.declared.axis.Axis.{Axis}
pub use Rattle.stab_instructions.specs.declared.control.Control.{Control}
pub use Rattle.stab_instructions.specs.declared.control.ControlTarget.{ControlTarget}
pub use Rattle.stab_instructions.specs.declared.control.ControlledPair.{ControlledPair}
pub use Rattle.stab_instructions.specs.declared.operation.Line.{Line}
pub use Rattle.stab_instructions.specs.declared.operation.Line.TheVariants.{Blank, Close, Open}
pub use Rattle.stab_instructions.specs.declared.name.Instruction.{Instruction}
pub use Rattle.stab_instructions.specs.declared.name.Name.{Name}
pub use Rattle.stab_instructions.specs.declared.operation.Kind.{Kind}
pub use Rattle.stab_instructions.specs.declared.product.Factor.{Factor}
pub use Rattle.stab_instructions.specs.declared.range.MeasureTarget.{MeasureTarget}
