-- What the proofs of this crate take from std, from crates below and from its definitions.
pub use Rattle.std.proofs.Common.{◌≡◌, ◌≢◌, ℕ, zero, suc, eqb, ◌<◌, ◌≤◌, Bool, true, false, not, ◌&&◌, inl, inr, refl, sym, ◌∙◌, ap, List, length, arith, subst, ◌+◌, ◌-◌, nat_lt, ◌||◌, [], ◌∷◌, get_or, set, replicate, ◌↔◌, Some, ◌*◌, map, drop, below_more, ◌/◌, ◌%◌, ◌^◌, take, rules}
pub use Rattle.std.proofs.lemmas.Bool.{eq-eqb, lt-ltb, ltb-true, ltb-false, cases_lt, cases_order, or_cases}
pub use Rattle.std.proofs.lemmas.Bool.Decides.{eqb_tells}
pub use Rattle.std.proofs.lemmas.List.{length-replicate, ext_get_or, get_or_past, length-set, get_or-set_other, get_or-set_same, set-get_or, set-set, set_comm, get_or-replicate, get_or_default, take_all}
pub use Rattle.std.proofs.lemmas.Nat.Bits.{bit_at_and, bit_at_ones, bit_at_ones_above, bit_at-lt}
pub use Rattle.std.proofs.lemmas.Result.{IfOk-weaker}
pub use Rattle.std.specs.Bool.{beq}
pub use Rattle.std.specs.List.{list_any}
pub use Rattle.std.specs.Prelude.{if◌then◌else◌, ◌⊎◌, bit_xor, Option, None, IfSome, IfNone, bit_and, bit_or, slice_set, max}
pub use Rattle.stab_gates.proofs.LetterLemmas.{letters_anticommute-comm, letters_anticommute-product, letters_anticommute-determines, letters_anticommute-I, letters_anticommute-self, each_letter}
pub use Rattle.stab_gates.proofs.ParityLemmas.{parity-self, parity-false, parity-mid, parity-comm, parity-twice, parity-assoc, parity-not_right}
pub use Rattle.stab_gates.proofs.PhaseLemmas.{phase_of_sign-parity, phase_of_sign-twice, phase_add-zero, phase_of_sign-sign_of_phase, is_even-twice, phase_of_sign-injective, phase_add-comm, phase_add-cancel, phase_add-assoc, phase_add-left, sign_of_phase-phase_of_sign}
pub use Rattle.stab_gates.specs.Letters.{◌⊕◌, letter_product, letters_anticommute, letter_phase}
pub use Rattle.stab_gates.specs.Phases.{phase_add, phase_of_sign, sign_of_phase, is_even}
pub use Rattle.stab_gates.specs.XParts.{has_x}
pub use Rattle.stab_gates.specs.declared.gate.Gate.{Gate}
pub use Rattle.stab_gates.specs.declared.gate.PairGate.{PairGate}
pub use Rattle.stab_gates.specs.declared.gate.PairGate.TheVariants.{Cx, Cy, Cz, Swap}
pub use Rattle.stab_gates.specs.declared.letter.Letter.{Letter}
pub use Rattle.stab_gates.specs.declared.letter.Letter.TheVariants.{I, X, Z, Y}
pub use Rattle.stab_gates.specs.declared.phase.Phase.{Phase}
pub use Rattle.stab_gates.specs.declared.phase.Phase.TheVariants.{Zero, Quarter, Half, ThreeQuarters}
pub use Rattle.stab_pauli.proofs.BitLemmas.{two_cases, below_two}
pub use Rattle.stab_pauli.proofs.ChosenLemmas.{past-rows}
pub use Rattle.stab_pauli.proofs.MaskLemmas.{clash, chooses-xor, unchosen, none-chosen, chosen-first, chosen-second}
pub use Rattle.stab_pauli.proofs.NextLetterLemmas.{bit_after}
pub use Rattle.stab_pauli.proofs.PhasedLemmas.{times_phase-times_phase, times_phase-comm, times_phase-plain, phased_product-times_phase_left, phased_product-times_phase_right, phased_product-assoc, phased_product-swap, phased_product-comm, phased_product-unit_right, length-phased_product, phased_path, phased_product-self, phased_product-unit_left}
pub use Rattle.stab_pauli.proofs.SeenLemmas.{phased_product-times_phase}
pub use Rattle.stab_pauli.proofs.SignedLemmas.{phased-with_sign, length-product, product-self, product-minus_right, anticommute-product, anticommute-comm, phased-minus, phased-product, product-assoc, product-comm, product-identity_right, product-twice, signed_path}
pub use Rattle.stab_pauli.proofs.StringLemmas.{strings_anticommute-comm, strings_anticommute-product, string_product-self, get_or-string_product, length-string_product, strings_anticommute-self, strings_anticommute-blank, strings_anticommute-product_right, string_phase-self, string_phase-twice, strings_anticommute-blank_right, strings_anticommute-determines, string_product-blank_right, string_phase-blank_right, string_product-blank, string_phase-blank, is_even-string_phase}
pub use Rattle.stab_pauli.specs.Masks.{chooses, AreChosen}
pub use Rattle.stab_pauli.specs.Paulis.{Signed, anticommute, strings_anticommute, product, string_product, identity, with_sign, single, string_phase, minus, commute}
pub use Rattle.stab_pauli.specs.Phaseds.{Phased, plain, times_phase, phased_product, phased}
pub use Rattle.stab_pauli.specs.Rows.{Rows, row_at, product_times_i_if, product_times_i, unsigned_rows, row_at as string_at, with_row, with_letter, swapped_rows}
pub use Rattle.stab_tableau.specs.Columns.{stabiliser_of, destabiliser_of, chosen_product, IsGenerated, AreDual, CommutesWithAll}
pub use Rattle.stab_tableau.specs.Conjugations.{IsConjugated}
pub use Rattle.stab_tableau.specs.Gates.{letter_at, inverse, image, image_pair, back, back_pair, positive, negated, letter_image, pair_letters, two, put_letter, put_letters}
pub use Rattle.stab_tableau.specs.declared.images.SignedLetter.{SignedLetter}
pub use Rattle.stab_tableau.specs.Groups.{IsStabiliserGroup, SameGroup}
pub use Rattle.stab_tableau.specs.Laws.{AnticommutesWithMember}
pub use Rattle.stab_tableau.specs.Pivots.{IsPivot}
pub use Rattle.stab_tableau.specs.Reduced.{bit_at, IsFirst, IsLead, IsRowAt, AreRowsFrom, AreReduced}
pub use Rattle.stab_tableau.specs.Rules.{outcome_by, is_random_by, projected_by}
pub use Rattle.stab_tableau.specs.Tableaus.{TableauState, stabilises, stabilises_zeros, is_one}
pub use Rattle.stab_tableau.specs.Traces.{diagonal, Event, applied, applied_pair, projected, member, is_random, Fits, IsSound, outcome}
pub use Rattle.stab_tableau.specs.declared.table.InverseRow.{InverseRow}
pub use Rattle.stab_tableau.specs.declared.table.InverseRow.TheVariants.{OfX, OfZ}
pub use Rattle.stab_tableau.specs.inner.Collapses.{collapsed_row, CollapsedRow, IsDetermined}
pub use Rattle.stab_tableau.specs.inner.ColumnLetters.{letter_anticommuting, column}
pub use Rattle.stab_tableau.specs.inner.Eliminations.{IsLinear, IsBasis, HasCome, ComesTo, exchanged, AreExchanged, cleared_with, AreCleared, HasStepped}
pub use Rattle.stab_tableau.specs.inner.Frames.{SameLetters, conjugated_row, frame_letter, sign_frame}
pub use Rattle.stab_tableau.specs.inner.InverseRows.{blank, IsInverseTable, IsOnto, extend, IsHomomorphism, InverseRows, rows_at, one_letter, letter_preimage, string_preimage, IsOver, IsInverseRow, GateRow, signed_preimage, AreRows, PairRows, pair_preimage, zeros_row}
pub use Rattle.stab_tableau.specs.inner.Observables.{observed}
pub use Rattle.stab_tableau.specs.inner.Pairs.{row_position, row_letter, row_string, ArePairsChosen, put, paired_strings, IsPaired, with_string, rows_exchanged, TakesLetters, IsGated, IsPairGated}
pub use Rattle.stab_tableau.specs.inner.Supports.{Supports, Covers, OthersStay, is_known, has_position}
pub use Rattle.stab_tableau.specs.inner.Tables.{IsTableau, AreRowsMeasured}
