-- What the proofs of its functions take from the lemmas of this crate.
pub use Rattle.stab_pauli.proofs.BlankLemmas.{fits, IsTable-none, table-none}
pub use Rattle.stab_pauli.proofs.BlockLemmas.{product-halves, block-meet, first-half, second-half, part-inside, part-row}
pub use Rattle.stab_pauli.proofs.ChosenLemmas.{IsWalked, mask-with_x, positions-with_x}
pub use Rattle.stab_pauli.proofs.LetterMaskLemmas.{mask-letter, mask-blank, string-letter, letter-inside}
pub use Rattle.stab_pauli.proofs.MaskLemmas.{following-first, following-others, byte-small, after_several-first, after_several-others, eight-fits, eight-short, first-chosen, with-here, with-others, without-gone, without-others, without-fewer, grown, grown-eight}
pub use Rattle.stab_pauli.proofs.NextLetterLemmas.{no_bit, next_bit-found, blank_word, letter_found, next_inside, blank_inside}
pub use Rattle.stab_pauli.proofs.OnesLemmas.{words_odd-fold, word_odd-all, word_ones-all, words_odd-xor}
pub use Rattle.stab_pauli.proofs.PackedLemmas.{order_phase-step, meet_phase-step, power_step}
pub use Rattle.stab_pauli.proofs.PackingLemmas.{sparse-cut, sparse-few, sparse-following, blocks-next, sparse-stored, sparse-blank, blank_block}
pub use Rattle.stab_pauli.proofs.PaddedLemmas.{view_of, lies_of, is_of, length-view, written_view, alike, sign_read, position_in_row, IsView, same_numbers}
pub use Rattle.stab_pauli.proofs.PositionLemmas.{letter_at_position, row_letters-set}
pub use Rattle.stab_pauli.proofs.PowerLemmas.{fixed_sign, powers_differ}
pub use Rattle.stab_pauli.proofs.RowLemmas.{put_middle, put_front, put_back, IsRewritten-part, AddsUp-order, IsPhaseBefore-more, IsPhaseBefore-all, order_phase-is, IsPhaseBefore, order_phase, IsXorBefore-two, AddsUp-meet, meet_phase, AddsUp-power, power_phase, length-row}
pub use Rattle.stab_pauli.proofs.RowProductLemmas.{product_of, times_i_of, product_seen, times_i_seen, product_viewed, times_i_viewed, string_viewed, block_viewed}
pub use Rattle.stab_pauli.proofs.SeenLemmas.{blank_view, written_resigned, phased_product-times_phase, signed_view, letter_view, counted_seen, seen_of, qubits_seen, in_seen, put_seen, written_seen, IsSeen, row_seen, read_power, same_view, fitting, rows_seen, letter_seen, position_seen, row_at-with_row, negated_seen, swapped_written, both_seen}
pub use Rattle.stab_pauli.proofs.SignedLemmas.{anticommute-product, product-assoc, product-self}
pub use Rattle.stab_pauli.proofs.SparseLemmas.{writing-on, writing-none, writing-end, IsWriting, short-spread, determined_by}
pub use Rattle.stab_pauli.proofs.SparsePositionLemmas.{passed-more, passed-determined, passed-all, eight-blank, blank_determined}
pub use Rattle.stab_pauli.proofs.SupportLemmas.{IsTimesBut, words_odd-none, times-none, times-more, times-words, times-meet, CoversBefore}
pub use Rattle.stab_pauli.proofs.SupportMaskLemmas.{letters-covered, words-covered}
pub use Rattle.stab_pauli.proofs.SwapLemmas.{swapped-none, swapped-more, earlier}
pub use Rattle.stab_pauli.proofs.TableLemmas.{rows_disjoint}
pub use Rattle.stab_pauli.proofs.DetermineLemmas.{no_false, powers_distinct, all_determined, AreShort-same, words_determined, letters_determined, same_number}
pub use Rattle.stab_pauli.proofs.TextLemmas.{length-part, get_or-part, IsSpeltBefore-more, IsSpeltBefore-all, IsSpeltBefore, length-letters_text, letters_text-next}
pub use Rattle.stab_pauli.proofs.XMaskLemmas.{x-at, gathered-next, x-mask, gathered, gathered-one}
pub use Rattle.stab_pauli.proofs.XPartLemmas.{still-word, lowest_in_word, first-found, still-block, none_here, none_in_row, found_in_row, any_none}
pub use Rattle.stab_pauli.proofs.XorLemmas.{IsXorBefore-all, IsXorBefore-ahead_of, IsXorBefore}
