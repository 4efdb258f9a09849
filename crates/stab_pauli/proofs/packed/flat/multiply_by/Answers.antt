use Rattle.stab_pauli.proofs.Names.{arith, ◌≡◌, ◌∙◌, length, ◌+◌, ◌-◌, ◌*◌, chunk, put_chunk, common_steps, xor_words}
use Rattle.stab_pauli.proofs.Lemmas.{put_middle}
use Rattle.stab_pauli.proofs.packed.flat.multiply_by.Goals as goal

pub returns-clause-words : goal.returns-clause-words
returns-clause-words c =
    let r : c.multiply.new.row ≡ xor_words (chunk (8 * c.args.blocks * c.args.a) (8 * c.args.blocks) c.args.words.now) c.args.other.now = grind (arith, common_steps) in
    let l : length c.multiply.new.row ≡ c.offset_of-at.result + 8 * c.args.blocks - c.offset_of-at.result = grind (arith, common_steps) in
    put_middle c.offset_of-at.result (c.offset_of-at.result + 8 * c.args.blocks - c.offset_of-at.result) c.args.words.now c.multiply.new.row l (omega arith)
    ∙ (λ i. put_chunk (c.offset_of-at.ensures.value i) c.args.words.now (r i))
