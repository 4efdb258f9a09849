-- What the proofs of this crate take from std, from crates below and from its definitions.
pub use Rattle.std.proofs.Common.{◌≡◌, ℕ, zero, suc, ◌+◌, ◌/◌, ◌%◌, refl, sym, ◌∙◌, ap, arith, ◌&&◌, eqb, ◌<◌, inl, inr, ◌-◌, ◌*◌, ◌≤◌, List, ◌∷◌, ◌++◌, length, take, drop, replicate, subst, get_or, ◌≢◌, ◌^◌, Bool, true, false, [], length-append, append_assoc, zero-add, set, not, length-drop, map, rules, IsTrue, below_more, div-le_self}
pub use Rattle.std.proofs.Math.ListN.{get_or-append}
pub use Rattle.std.proofs.Math.Nat.{mul-le-mul_left, pow-succ', pow-suc}
pub use Rattle.std.proofs.Math.Pow.{pow_mono}
pub use Rattle.std.proofs.Math.Seq.{take-append_seam, drop-append_seam, take-add, take-length, drop-length}
pub use Rattle.std.proofs.lemmas.Bool.{cases_order, cases_lt}
pub use Rattle.std.proofs.lemmas.Bool.Decides.{Decides-eqb}
pub use Rattle.std.proofs.lemmas.Grind.{replicate_next, common_steps}
pub use Rattle.std.proofs.lemmas.List.{length-replicate, ext_get_or, take_all, length-set, get_or-set_same, get_or-set_other, get_or_past, get_or-replicate, get_or-take, take_more, length-take-le, append-nil, drop-set-lt, get_or-append-add, get_or-drop, take-append-drop, drop_at, take_at, drop-drop, take-append-le, drop-append-le, replicate-append-replicate, set-append_right, set_at, drop_more, drop_all, length-map, drop-take, take-take, length-take}
pub use Rattle.std.proofs.lemmas.List.Edits.{swap_is}
pub use Rattle.std.proofs.lemmas.List.Elements.{All-nil, All-cons, All-set, All-get_or, All-head, All-tail}
pub use Rattle.std.proofs.lemmas.Nat.{pow-add, and_le_l, shr-shr, and_comm, le_or_l, le_or_r}
pub use Rattle.std.proofs.lemmas.Nat.Bits.{bit_at_lowest, bit_at-suc, bit_at_and, bit_at_xor, same_from_bits, bit_at-zero, bit_at-lt, bit_at_or, bit_at_above, bit_at_set_same, bit_at_set_other, bit_at_clear_same, bit_at_clear_other, bit_at-trailing_zeros}
pub use Rattle.std.proofs.lemmas.Option.{IfSome_then}
pub use Rattle.std.proofs.lemmas.Simd.{get_or-zip2, length-zip2, length-chunk, get_or-chunk, length-put_chunk, get_or-put_chunk_below, get_or-put_chunk_at, get_or-put_chunk_above, put_chunk_is}
pub use Rattle.std.proofs.lemmas.Slice.Eq.{slice_eq-Decides}
pub use Rattle.std.specs.Int.{bit_at, bit_not, trailing_zeros}
pub use Rattle.std.specs.Int.Bits.{xor_zero_r}
pub use Rattle.std.specs.List.{All, list_any}
pub use Rattle.std.specs.Prelude.{bit_xor, bit_and, min, ◌⊎◌, bit_or, ◌↔◌, IfNone, Option, Some, None, slice_set}
pub use Rattle.std.specs.Simd.Lanes.{zip2, chunk, put_chunk, pick_l}
pub use Rattle.stab_gates.proofs.LetterLemmas.{each_letter, by_letters, letter_product-I, letter_product-self, letter_product-comm, letter_product-assoc, letter_phase-self, letter_phase-swap, letter_phase-twice, letter_phase-assoc, letters_anticommute-I, letters_anticommute-self, letters_anticommute-comm, letters_anticommute-product, letters_anticommute-determines}
pub use Rattle.stab_gates.proofs.ParityLemmas.{parity-false, parity-assoc, parity-mid, parity-comm, not-true}
pub use Rattle.stab_gates.proofs.PhaseLemmas.{phase_of_sign-injective, phase_add-assoc, phase_of_sign-parity, quarters-add, quarters-mod, phase_add-zero, phase_add-comm, phase_add-left, phase_add-mid, phase_add-back_left, phase_add-back_right, phase_add-cancel, phase_of_sign-sign_of_phase, sign_of_phase-phase_of_sign, is_even-phase_of_sign, phase_of_sign-not, phase_of_sign-twice, is_even-sign, is_even-quarter, is_even-twice, determines_phases}
pub use Rattle.stab_gates.specs.LetterTexts.{letter_text}
pub use Rattle.stab_gates.specs.Letters.{◌⊕◌, letter_product, letter_power, letter_phase, letters_anticommute}
pub use Rattle.stab_gates.specs.Phases.{phase_add, is_even, sign_of_phase, phase_inverse, phase_of_sign, quarters}
pub use Rattle.stab_gates.specs.XParts.{has_x}
pub use Rattle.stab_gates.specs.declared.letter.Letter.{Letter}
pub use Rattle.stab_gates.specs.declared.letter.Letter.TheVariants.{I, X, Y, Z}
pub use Rattle.stab_gates.specs.declared.phase.Phase.{Phase}
pub use Rattle.stab_gates.specs.declared.phase.Phase.TheVariants.{Zero, Quarter, Half}
pub use Rattle.stab_io.proofs.DeviceLemmas.{took_and_failed, failed_within, failed_on, wrote_part, wrote_and_failed, WroteUpTo}
pub use Rattle.stab_io.specs.Devices.{Took, TookAndFailed}
pub use lib.Count.{ones, ones_step, ones-ones}
pub use mir.Syntax.{w64}
pub use mir.Val.{bool_byte}
pub use Rattle.stab_pauli.specs.Masks.{chooses, AreChosen, CoversSupport}
pub use Rattle.stab_pauli.specs.Paulis.{identity, Signed, string_product, strings_anticommute, string_phase, with_sign, anticommute, product_phase, minus, commute}
unfoldable pub use Rattle.stab_pauli.specs.Paulis.{product}
pub use Rattle.stab_pauli.specs.Phaseds.{Phased, plain, times_phase, phased_product, phased}
pub use Rattle.stab_pauli.specs.Rows.{Rows, row_at, with_row, product_times_i, with_letter, swapped_rows, unsigned_rows, product_times_i_if}
pub use Rattle.stab_pauli.specs.Texts.{letters_text, sign_text, pauli_text}
pub use Rattle.stab_pauli.specs.declared.packed.sparse.SparseWords.{SparseWords}
pub use Rattle.stab_pauli.specs.inner.Blocks.{row_letters, full_rows, AreBlocks, IsPadded, IsRow, IsSignedRow, IsTable, table, row_sign, signed_row, IsBlankFrom, IsNextBit, IsNextLetter, blocks_of, IsRewritten, CoversLetters, HasNoXBefore, IsFirstX}
pub use Rattle.stab_pauli.specs.inner.Powers.{sign_power, IsSign, strings_meet, string_power, letters_meet, power_of}
pub use Rattle.stab_pauli.specs.inner.Sparse.{spread, IsSparse, spread_next, words_from}
pub use Rattle.stab_pauli.specs.inner.Words.{lowest, packed_letters, words_odd, xor_words, letter_of_bits, words_ones, swapped_words, AreShort}
unfoldable pub use Rattle.stab_pauli.specs.inner.Words.{word_letters, word_odd, word_ones}
