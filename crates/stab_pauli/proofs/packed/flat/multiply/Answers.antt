use Rattle.stab_pauli.proofs.Names.{◌≡◌, ◌∙◌, ◌*◌, ap, sym, chunk, put_chunk, strings_meet, xor_words, row_letters}
use Rattle.stab_pauli.proofs.Lemmas.{rows_disjoint}
use Rattle.stab_pauli.proofs.packed.flat.multiply.Goals as goal

pub multiply_at-requires-clause-disjoint : goal.multiply_at-requires-clause-disjoint
multiply_at-requires-clause-disjoint c = rw (c.offset_of-first-2.ensures.value, c.offset_of-second-2.ensures.value) (rows_disjoint c.args.blocks c.args.a c.args.b c.requires.distinct)

pub returns-then-blocks-eq1-clause-meet : goal.returns-then-blocks-eq1-clause-meet
returns-then-blocks-eq1-clause-meet c =
    let one : 1 ≡ c.args.blocks = sym c.if-blocks-eq1.true in
    let first : c.offset_of-first.result ≡ 8 * c.args.blocks * c.args.a = c.offset_of-first.ensures.value ∙ ap (λ m. 8 * m * c.args.a) one in
    let second : c.offset_of-second.result ≡ 8 * c.args.blocks * c.args.b = c.offset_of-second.ensures.value ∙ ap (λ m. 8 * m * c.args.b) one in
    c.multiply_block.ensures.meet
    ∙ (λ i. strings_meet (row_letters (one i) (chunk (first i) (8 * one i) c.args.words.now)) (row_letters (one i) (chunk (second i) (8 * one i) c.args.words.now)))

pub returns-then-blocks-eq1-clause-words : goal.returns-then-blocks-eq1-clause-words
returns-then-blocks-eq1-clause-words c =
    let one : 1 ≡ c.args.blocks = sym c.if-blocks-eq1.true in
    let first : c.offset_of-first.result ≡ 8 * c.args.blocks * c.args.a = c.offset_of-first.ensures.value ∙ ap (λ m. 8 * m * c.args.a) one in
    let second : c.offset_of-second.result ≡ 8 * c.args.blocks * c.args.b = c.offset_of-second.ensures.value ∙ ap (λ m. 8 * m * c.args.b) one in
    c.multiply_block.ensures.words
    ∙ (λ i. put_chunk (first i) c.args.words.now (xor_words (chunk (first i) (8 * one i) c.args.words.now) (chunk (second i) (8 * one i) c.args.words.now)))
