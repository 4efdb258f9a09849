use Rattle.stab_pauli.proofs.Names.{arith, ◌≡◌, ◌∙◌, ap, sym, ◌+◌, ◌*◌, swapped_words}
use Rattle.stab_pauli.proofs.Lemmas.{swapped-none, swapped-more, earlier}
use Rattle.stab_pauli.proofs.packed.flat.swap_at.Goals as goal

pub loop-half-init : goal.loop-half-init
loop-half-init c = sym (swapped-none c.args.a c.args.b c.args.words.now (omega arith) (omega arith))

pub loop-half-preserved : goal.loop-half-preserved
loop-half-preserved c =
    let next : 4 * (c.loop-half.half + 1) ≡ 4 * c.loop-half.half + 4 = omega arith in
    ap (swapped_words (c.args.a + 4 * c.loop-half.half) (c.args.b + 4 * c.loop-half.half) 4) c.loop-half.invariant
    ∙ swapped-more c.args.a c.args.b (4 * c.loop-half.half) 4 c.args.words.now (omega arith) (omega arith) (earlier c.args.a c.args.b (4 * c.loop-half.half + 4) (8 * c.args.blocks) (omega arith) c.requires.disjoint)
    ∙ ap (λ n. swapped_words c.args.a c.args.b n c.args.words.now) (sym next)

pub returns : goal.returns
returns c =
    let all : 4 * c.loop-half.half ≡ 8 * c.args.blocks = omega arith in
    record { words = c.loop-half.invariant ∙ ap (λ n. swapped_words c.args.a c.args.b n c.args.words.now) all }
