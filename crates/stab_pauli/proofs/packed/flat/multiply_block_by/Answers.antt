use Rattle.stab_pauli.proofs.Names.{arith, ◌≡◌, ◌+◌, ◌++◌, refl, ◌∙◌, ap, length, chunk, put_chunk, take_all, xor_words, strings_meet, row_letters}
use Rattle.std.proofs.lemmas.List.{length-append}
use Rattle.stab_pauli.proofs.Lemmas.{product-halves, block-meet, first-half, second-half}
use Rattle.stab_pauli.proofs.packed.flat.multiply_block_by.Goals as goal

pub returns-clause-words : goal.returns-clause-words
returns-clause-words c =
    let words = c.args.words.now in
    let other = c.args.other_x ++ c.args.other_z in
    let size : length (c.args.other_x ++ c.args.other_z) ≡ 8 = length-append c.args.other_x c.args.other_z ∙ (λ i. c.requires.x_size i + c.requires.z_size i) in
    (λ i. put_chunk (c.args.a + 4) (put_chunk c.args.a words (xor_words (chunk c.args.a 4 words) (first-half c.args.other_x c.args.other_z c.requires.x_size i)))
    (xor_words (chunk (c.args.a + 4) 4 words) (second-half c.args.other_x c.args.other_z c.requires.x_size c.requires.z_size i)))
    ∙ product-halves c.args.a 0 4 words other (omega (arith, c.requires.fits)) (omega (arith, size))
    ∙ ap (λ w. put_chunk c.args.a words (xor_words (chunk c.args.a 8 words) w)) (take_all 8 other (omega (arith, size)))

pub returns-clause-meet : goal.returns-clause-meet
returns-clause-meet c =
    let words = c.args.words.now in
    let other = c.args.other_x ++ c.args.other_z in
    let size : length (c.args.other_x ++ c.args.other_z) ≡ 8 = length-append c.args.other_x c.args.other_z ∙ (λ i. c.requires.x_size i + c.requires.z_size i) in
    c.are_odd.ensures.value
    ∙ block-meet c.args.a 0 words other _ _ _ _ c.requires.fits (omega (arith, size)) refl refl
    (first-half c.args.other_x c.args.other_z c.requires.x_size) (second-half c.args.other_x c.args.other_z c.requires.x_size c.requires.z_size)
    ∙ ap (λ w. strings_meet (row_letters 1 (chunk c.args.a 8 words)) (row_letters 1 w)) (take_all 8 other (omega (arith, size)))
