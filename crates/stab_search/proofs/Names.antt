-- What the proofs of this crate take from std, from crates below and from its definitions.
pub use Rattle.std.proofs.Common.{◌≡◌, ℕ, zero, suc, ◌+◌, ◌≤◌, ◌<◌, ◌⊎◌, inl, inr, refl, sym, ◌∙◌, subst, arith, Bool, true, false, List, [], ◌∷◌, ◌++◌, length, append-nil, append_assoc, ◌^◌, ne_eqb, ap, ◌||◌, drop-cons, drop, get_or, min, map, eqb, lt-ltb, le-ltb, set, ◌≢◌, take, ◌*◌, not, below_more, ◌-◌, ◌/◌, rules, ap₂, ◌&&◌, codes, decimal}
pub use Rattle.std.proofs.Math.ListN.{drop_of_length-le}
pub use Rattle.std.proofs.Math.Nat.{pow-succ', pow-le-pow_right, div-mul-le_self}
pub use Rattle.std.proofs.lemmas.Bool.{cases_lt, false≢true, eqb-true, eq-eqb, cases_eq, and_parts, eqb-false, ltb-true, ltb-false, or_left, or_right, leb-true, leb-false}
pub use Rattle.std.proofs.lemmas.List.{length-take, length-append, length-map, get_or_read, take_all, nil_from_length}
pub use Rattle.std.proofs.lemmas.List.Elements.{All-nil, All-cons, All-head, All-tail, All-from_get_or, All-append, All-map}
pub use Rattle.std.proofs.lemmas.List.Folds.{list_any-append, list_all-append}
pub use Rattle.std.proofs.lemmas.Result.{IfOk-weaker, err_from_is_err_and}
pub use Rattle.std.specs.Cmp.Lexicographic.{pointwise}
pub use Rattle.std.specs.Global.{Vec}
pub use Rattle.std.specs.List.{list_any, filter, flat_map, list_all, range_with_len}
pub use Rattle.std.specs.Prelude.{◌==◌, slice_index, bit_xor, nat_lt, All, if◌then◌else◌, bit_and, Option, Some, None, Result, Ok, Err, IfOk, IfSome, IfNone, IsErrAnd, slice_index_or, cond, OnOk}
pub use Rattle.std.specs.Option.{is_some}
pub use Rattle.stab_gates.proofs.ParityLemmas.{parity-mid, parity-false, parity-comm, parity-assoc, parity-self, parity-twice}
pub use Rattle.stab_gates.specs.Letters.{◌⊕◌}
pub use denote.RawPtr.{null_ptr}
pub use lib.Bits.{xor_comm, xor_assoc, xor_self, xor_zero_r}
pub use Rattle.stab_parities.specs.Ascending.{AscendsFrom, IsAscending}
pub use Rattle.stab_search.specs.Graphlike.{IsGraphlike, IsGraphlikeError, IsLeastGraphlike, HasNoGraphlikeWithin, IsGraphlikeAnswer}
pub use Rattle.stab_search.specs.Progress.{Heard, begins, none_within, Hears, numbers_up_to, IsExcludedBy, ReportsSearch}
pub use Rattle.stab_search.specs.LogicalErrors.{IsLogicalError, HasNoneWithin, IsLeastAnswer, IsLeast, HasNone, HasSome}
pub use Rattle.stab_search.specs.Tables.{ErrorTable, flipped_by_rows}
pub use Rattle.stab_parities.specs.OddNumbers.{odd, row}
pub use Rattle.stab_search.specs.declared.answer.Answer.{Answer}
pub use Rattle.stab_search.specs.declared.answer.Answer.TheVariants.{Least, NoneWithin, NoneAtAll}
pub use Rattle.stab_search.specs.declared.edges.Edge.{Edge}
pub use Rattle.stab_search.specs.declared.labels.Labels.{Labels}
pub use Rattle.stab_search.specs.inner.Classes.{class_of, AreOfClass, HaveClasses, CountsNumber, AreParts, Splits, ErrorsAreEnough}
pub use Rattle.stab_search.specs.inner.Certificates.{odd_members, IsCertificate, FollowsDetectors}
pub use Rattle.stab_search.specs.inner.Covers.{shares, MayBe, CoversEach}
pub use Rattle.stab_search.specs.inner.Ends.{Completes, MayFollow, CompletesSet, CompletesSetWithin, NoEnds, NoEndsBy, Meet}
pub use Rattle.stab_search.specs.inner.Errors.{AreRowsOf, HasRow, key_of, Keyed, IsKeyed}
pub use Rattle.stab_search.specs.inner.Graphs.{HasAtLeast, HasBound, IsEdge, edge, AreEdges, RowsFlip}
pub use Rattle.stab_search.specs.inner.Indexes.{rows_listed}
pub use Rattle.stab_search.specs.inner.Labels.{label, AreLabels, IsFar, AreCovered, AreNearAlong}
pub use Rattle.stab_search.specs.inner.Lists.{ForEach, has, toggle}
pub use Rattle.stab_search.specs.inner.Parts.{IsGraphlikePart}
pub use Rattle.stab_search.specs.inner.Pairs.{KeepFirst, IsLeftOut, by_one, by_two, ArePairs}
pub use Rattle.stab_search.specs.inner.Steps.{lowered, AreLower, AreMoved, MovesDown, MoveDown, HasBefore, BeginsBefore}
pub use Rattle.stab_search.specs.inner.Shortest.{IsLogicalSet, IsGathered, IsLogicalWithin, Decides}
pub use Rattle.stab_search.specs.inner.ReportedProgress.{HearsOn, ReportsSizes, ReportsAnswer}
pub use Rattle.stab_search.specs.inner.Ways.{leaf, ways, ReportsNumber, HasNoFewer, IsWeightedWay, MeetsEach, IsWaysPart, unit_weights, AreGroups, IsWeightAdded}
pub use Rattle.stab_search.specs.Counts.{HasNoneBelow, IsLogicalSetOf, AreAsMany, IsCountOfSets}
pub use Rattle.stab_instructions.proofs.WriteLemmas.{writes_failed, writes_then, HasWritten, written_more, written_failed}
pub use Rattle.stab_io.specs.Devices.{OutputView, WritesAll}
pub use Rattle.stab_io.specs.declared.refusal.Refusal.{Refusal}
pub use Rattle.stab_search.specs.declared.literal.Literal.{Literal}
pub use Rattle.stab_search.specs.declared.literal.Literal.TheVariants.{Is, IsNot}
pub use Rattle.stab_search.specs.declared.sums.Sum.{Sum}
pub use Rattle.stab_search.specs.declared.sums.Parities.{Parities}
pub use Rattle.stab_search.specs.declared.problem.Problem.{Problem}
pub use Rattle.stab_search.specs.Problems.{Clauses, holds, meets, IsVariableWithin, literal_text, clause_text, problem_head, problem_text}
pub use Rattle.stab_search.specs.Questions.{without, errors_in, Asks}
pub use Rattle.stab_search.specs.inner.Sums.{variable_value, AreSums, IsSumAt, AreFrom, flipped_in_sum, parity_variable, AreParities, Adds, AreBuilt, variables_of, one_of}
pub use Rattle.stab_search.specs.Made.{sum_clauses, is_false, clauses_of, IsCountable}
