-- What the proofs of this crate take from std, from crates below and from its definitions.
pub use Rattle.std.proofs.Common.{◌≡◌, ℕ, ◌+◌, ◌≤◌, Bool, List, [], ◌∷◌, ◌++◌, length, take, arith, zero, suc, ◌<◌, min, max, refl, sym, subst, true, false, nat_lt, map, All, get_or, ◌∙◌, ap, ◌&&◌, not, ◌-◌, ◌||◌, replicate, ◌⊎◌, inl, inr, append_assoc, append-nil, drop, set, ◌*◌, add-zero, rules, OnOk, ◌/◌, IfSome}
pub use Rattle.std.proofs.Math.Seq.{take-append_seam, drop-append_seam, take-append-add, drop-append-add, take-add}
pub use Rattle.std.proofs.lemmas.Bool.{cases_lt, OnTrue_at, OnTrue_from}
pub use Rattle.std.proofs.lemmas.List.{length-take, length-append, get_or_append_left, get_or-append-add, take-append-drop, take_at, drop_at, length-replicate, length-set, map_more, get_or-map, length-map, take_all, get_or_default, drop-drop, drop-take, length-take-le, take-take, length-drop, take-map, drop-map, take_more_same, get_or-drop}
pub use Rattle.std.proofs.lemmas.List.Elements.{All-nil, All-cons, All-append, All-take, All-drop, All-head, All-tail, All-get_or}
pub use Rattle.std.specs.List.{list_any}
pub use Rattle.std.specs.Prelude.{Option, Some, None, if◌then◌else◌, slice_index_or}
pub use Rattle.rand_chacha.specs.ChaCha.{key_of}
pub use Rattle.stab_items.proofs.LineDistinctLemmas.{joined_distinct}
pub use Rattle.stab_items.specs.Steps.{HasDistinctQubits, Step, one, two, controlled, collapse, product, detector, observable, measured, measured_product, controlled_gate, controlled_step, steps_of, rounds, unroll, past, target_qubits, controlled_qubits, factor_qubits, product_qubits, named_qubits, qubits_of, most_steps, steps_cap, check_within, makes, records_of, lookbacks, looks_too_far, observables_of, LooksWithin}
pub use Rattle.stab_items.specs.StepValues.{step_shown, steps_shown, lookbacks_of}
pub use Rattle.stab_items.specs.Items.{Items, done, next, block}
pub use Rattle.stab_gates.proofs.ParityLemmas.{parity-false}
pub use Rattle.stab_gates.specs.Letters.{◌⊕◌}
pub use Rattle.stab_gates.specs.declared.gate.Gate.{Gate}
pub use Rattle.stab_gates.specs.declared.gate.PairGate.{PairGate}
pub use Rattle.stab_gates.specs.declared.letter.Letter.{Letter}
pub use Rattle.stab_gates.specs.declared.letter.Letter.TheVariants.{I}
pub use Rattle.stab_io.specs.declared.refusal.Refusal.{Refusal}
pub use Rattle.stab_items.proofs.StepLemmas.{window-rounds, looks_too_far_window, length-rounds}
pub use Rattle.stab_instructions.specs.Axes.{letter_of}
pub use Rattle.stab_instructions.specs.Targets.{pair_qubits}
pub use Rattle.stab_instructions.specs.declared.axis.Axis.{Axis}
pub use Rattle.stab_instructions.specs.declared.control.ControlledPair.{ControlledPair}
pub use Rattle.stab_instructions.specs.declared.operation.Kind.{Kind}
pub use Rattle.stab_instructions.specs.declared.operation.Measurement.{Measurement}
pub use Rattle.stab_instructions.specs.declared.product.Factor.{Factor}
pub use Rattle.stab_instructions.specs.declared.range.MeasureTarget.{MeasureTarget}
pub use Rattle.stab_pauli.proofs.SignedLemmas.{product-twice, length-product}
pub use Rattle.stab_pauli.specs.Paulis.{Signed, single, minus, identity, with_sign, anticommute}
pub use Rattle.stab_tableau.proofs.MemberLemmas.{same-applied, same-applied_pair, same-projected, same-outcome, same-random}
pub use Rattle.stab_tableau.proofs.OneLetterLemmas.{length-one_letter}
pub use Rattle.stab_tableau.proofs.TraceLemmas.{IsSound-outcome}
pub use Rattle.stab_tableau.specs.Gates.{back}
pub use Rattle.stab_tableau.specs.Groups.{SameGroup, IsStabiliserGroup}
pub use Rattle.stab_tableau.specs.Rules.{outcome_by, projected_by, is_random_by}
pub use Rattle.stab_tableau.specs.Tableaus.{stabilises, TableauState}
pub use Rattle.stab_tableau.specs.Traces.{Event, member, is_random, projected, outcome, Fits, IsSound, applied, applied_pair}
pub use Rattle.stab_run.specs.Coins.{key_bytes, seed_coin}
pub use Rattle.stab_run.specs.Cuts.{lengths_of, front_of, rest_of}
pub use Rattle.stab_run.specs.Ends.{with_coin, AgreeBack}
pub use Rattle.stab_run.specs.Laws.{FixedOutcomesNeedNoCoins, SameFutureBack, AgreeAt, SameFuture, IsSoundRun, AgreeWhere, DependsOnCoinsAt}
pub use Rattle.stab_run.specs.Points.{Point, coins_of, all_coins_of, next_point, point_after, nothing, joined, given, trace_after, outputs, RunOutput, origin, state_at, point_of, with_additions}
pub use Rattle.stab_run.specs.ProgramStates.{StepFits, ProgramState, IsAt, ProgramComesTo, IsRun, CostsAtMost, applied_by, program_state, output_of}
pub use Rattle.stab_run.specs.Records.{ones, looked_up, parity}
pub use Rattle.stab_run.specs.RoundLaws.{output_copies}
pub use Rattle.stab_run.specs.Runs.{when, string_of, outcome_at, collapsed, gate_of, flip_of, applied_where, with_factors, State, start, effect, run}
pub use Rattle.std.specs.Bool.{OnTrue}
pub use Rattle.std.specs.Cmp.Lexicographic.{pointwise}
pub use Rattle.stab_items.proofs.SameLemmas.{same_mapped}
pub use Rattle.stab_items.specs.Repeats.{IsRepeat, AreRepeats}
pub use Rattle.stab_items.specs.Views.{circuit_items}
pub use Rattle.stab_items.specs.declared.circuit.repeats.Repeat.{Repeat}
pub use Rattle.stab_items.specs.declared.steps.Steps.{Steps}
pub use Rattle.stab_items.proofs.SummaryLemmas.{few_steps}
pub use Rattle.stab_instructions.specs.contracts.axis.Axis.{the_type}
pub use denote.Enum.Bare.{same_true}
pub use Rattle.stab_items.proofs.LookLemmas.{within-more, looks-within}
pub use Rattle.stab_items.specs.declared.edit.Span.{Span}
pub use Rattle.stab_run.specs.Spans.{IsSpan, IsEditOf}
unfoldable pub use Rattle.stab_items.specs.Steps.{check_of}
unfoldable pub use Rattle.stab_run.specs.Runs.{run_of}
