use Rattle.stab_pauli.proofs.Names.{arith, ◌≡◌, ◌∙◌, ap, length, ◌+◌, ◌-◌, ◌*◌, ◌++◌, chunk, put_chunk, common_steps, take-append-drop, xor_words}
use Rattle.stab_pauli.proofs.Lemmas.{put_front, put_back}
use Rattle.stab_pauli.proofs.packed.flat.multiply_at.Goals as goal

pub returns-then-a-b-clause-words : goal.returns-then-a-b-clause-words
returns-then-a-b-clause-words c =
    let r : c.multiply.new.row ≡ xor_words (chunk c.args.a (8 * c.args.blocks) c.args.words.now) (chunk c.args.b (8 * c.args.blocks) c.args.words.now) = grind (arith, common_steps) in
    let whole : c.split_at_mut-front.result.0.now ++ c.split_at_mut-front.result.1.now ≡ c.args.words.now =
    (λ i. c.split_at_mut-front.ensures.front i ++ c.split_at_mut-front.ensures.back i) ∙ take-append-drop c.args.b c.args.words.now in
    let l : length c.multiply.new.row ≡ c.args.a + 8 * c.args.blocks - c.args.a = grind (arith, common_steps) in
    put_front c.args.a (c.args.a + 8 * c.args.blocks - c.args.a) c.args.words.now c.split_at_mut-front.result.0.now c.split_at_mut-front.result.1.now c.multiply.new.row whole l (grind (arith, common_steps))
    ∙ ap (put_chunk c.args.a c.args.words.now) r

pub returns-else-a-b-clause-words : goal.returns-else-a-b-clause-words
returns-else-a-b-clause-words c =
    let r : c.multiply-else-a-b.new.row ≡ xor_words (chunk c.args.a (8 * c.args.blocks) c.args.words.now) (chunk c.args.b (8 * c.args.blocks) c.args.words.now) = grind (arith, common_steps) in
    let l : length c.multiply-else-a-b.new.row ≡ 8 * c.args.blocks = grind (arith, common_steps) in
    put_back c.args.a (8 * c.args.blocks) c.args.words.now c.split_at_mut-front-else-a-b.result.0.now c.split_at_mut-front-else-a-b.result.1.now c.multiply-else-a-b.new.row
    c.split_at_mut-front-else-a-b.ensures.front c.split_at_mut-front-else-a-b.ensures.back l (omega arith)
    ∙ ap (put_chunk c.args.a c.args.words.now) r
